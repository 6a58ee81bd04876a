use Rattle.std.proofs.Common.{arith, ap, ◌∙◌, sym, ◌<◌, ◌-◌}
use Rattle.cv_word.specs.Heap.{end_of}
use Rattle.two_heaps.proofs.Places.{ends_here, ends_lower, ends_nowhere}
use Rattle.two_heaps.proofs.spans.hole_before.Goals as goal

pub returns-then-end-at-clause-first : goal.returns-then-end-at-clause-first
returns-then-end-at-clause-first c =
    (ends_here c.args.at c.args.holes.now c.args.place c.index-holes-place.result c.requires.rises (omega arith) c.requires.place.within c.index-holes-place.is
    (sym c.end.ensures ∙ c.if-end-at.true)).0

pub returns-then-end-at-clause-from : goal.returns-then-end-at-clause-from
returns-then-end-at-clause-from c =
    ap (λ span. span.at) c.hole.view_is
    ∙ (ends_here c.args.at c.args.holes.now c.args.place c.index-holes-place.result c.requires.rises (omega arith) c.requires.place.within c.index-holes-place.is
    (sym c.end.ensures ∙ c.if-end-at.true)).1

pub returns-else-end-at-clause-first : goal.returns-else-end-at-clause-first
returns-else-end-at-clause-first c =
    let hole = c.index-holes-place.result in
    let apart = c.requires.apart (c.args.place - 1) hole (omega arith) (omega arith) in
    let less : end_of hole < c.args.at = omega (arith, ap end_of c.index-holes-place.is) in
    (ends_lower c.args.at c.args.holes.now c.args.place hole c.requires.rises c.requires.place (omega arith) c.index-holes-place.is less).0

pub returns-else-end-at-clause-from : goal.returns-else-end-at-clause-from
returns-else-end-at-clause-from c =
    let hole = c.index-holes-place.result in
    let apart = c.requires.apart (c.args.place - 1) hole (omega arith) (omega arith) in
    let less : end_of hole < c.args.at = omega (arith, ap end_of c.index-holes-place.is) in
    (ends_lower c.args.at c.args.holes.now c.args.place hole c.requires.rises c.requires.place (omega arith) c.index-holes-place.is less).1

pub returns-else-place-gt0-clause-first : goal.returns-else-place-gt0-clause-first
returns-else-place-gt0-clause-first c = (ends_nowhere c.args.at c.args.holes.now c.args.place c.requires.rises c.requires.place c.if-place-gt0.false).0

pub returns-else-place-gt0-clause-from : goal.returns-else-place-gt0-clause-from
returns-else-place-gt0-clause-from c = (ends_nowhere c.args.at c.args.holes.now c.args.place c.requires.rises c.requires.place c.if-place-gt0.false).1
