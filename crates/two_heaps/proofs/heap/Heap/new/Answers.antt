use Rattle.std.proofs.Common.{arith, ap, ◌∙◌, sym, subst, ◌++◌}
use Rattle.cv_word.specs.Heap.{hole_between}
use Rattle.two_heaps.specs.Tiling.{IsHeap}
use Rattle.two_heaps.specs.Kept.{IsSmallHeap}
use Rattle.two_heaps.proofs.Laws.{fresh_is_heap}
use Rattle.two_heaps.proofs.Steps.{same_heap}
use Rattle.two_heaps.proofs.heap.Heap.new.Goals as goal

pub invariant_of-result : goal.invariant_of-result
invariant_of-result c =
    let start = c.args.start in
    let to = c.args.end in
    let holes = c.push_between.ensures.items ∙ ap (λ l. l ++ hole_between start to) c.in_ok-holes.ensures.items in
    let same = same_heap c.push_between.new.holes.items c.in_ok-blocks.blocks.items _ _ holes c.in_ok-blocks.ensures.items in
    let limit = c.ranges.end.fits in (
      subst IsSmallHeap (sym same) (record {
        start = start;
        to = to;
        is_heap = fresh_is_heap start to c.requires.end.0 c.requires.start.1 c.requires.end.1;
        from_sixteen = c.requires.start.0;
        small = omega arith;
      }),
      record { holes = omega (arith, c.push_between.ensures.capacity, c.in_ok-holes.ensures.exact); blocks = omega (arith, c.in_ok-blocks.ensures.exact) },
    )

pub returns-clause-heap : goal.returns-clause-heap
returns-clause-heap c =
    let start = c.args.start in
    let to = c.args.end in
    let holes = c.push_between.ensures.items ∙ ap (λ l. l ++ hole_between start to) c.in_ok-holes.ensures.items in
    let same = same_heap c.push_between.new.holes.items c.in_ok-blocks.blocks.items _ _ holes c.in_ok-blocks.ensures.items in
    subst (IsHeap start to) (sym same) (fresh_is_heap start to c.requires.end.0 c.requires.start.1 c.requires.end.1)
