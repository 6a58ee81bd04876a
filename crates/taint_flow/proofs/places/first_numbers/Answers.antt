use Rattle.std.proofs.Common.{arith, ◌∙◌, ap, get_or, min}
use Rattle.std.proofs.lemmas.Grind.{get_or_default_zero}
use Rattle.std.proofs.lemmas.Option.{slice_get-get_or}
use Rattle.std.proofs.lemmas.List.{length-set}
use Rattle.code_sweep.specs.declared.item.Item.TheVariants.{Call}
use Rattle.code_sweep.specs.declared.item.Placed.{Placed}
use Rattle.taint_flow.proofs.Tables.{count_small, block_inside, finds_more, finds_items}
use Rattle.taint_flow.proofs.places.first_numbers.Goals as goal

abbrev nothing : Placed
nothing = record { at = 0; len = 0; item = Call 0 }

pub loop-i-init : goal.loop-i-init
loop-i-init c = record {
  len = let ok = c.in_ok-firsts.firsts.ok in let len = c.in_ok-firsts.ensures.len in omega (arith, ok, len);
  found = λ j q less. absurd (omega arith);
}

pub overflow_cast-i : goal.overflow_cast-i
overflow_cast-i c =
    let count = count_small _ _ c.requires.order in
    let limit = c.requires.limit in
    let here = c.loop-i-test.true in
    omega (arith, count, limit, here)

pub index_mut-requires : goal.index_mut-requires
index_mut-requires c =
    let inside = block_inside c.args.items.now c.args.code.now c.loop-i.i (get_or c.args.items.now c.loop-i.i nothing) c.requires.order
    (slice_get-get_or c.args.items.now c.loop-i.i nothing c.loop-i-test.true) in
    let len = c.loop-i.invariant.len in
    let ok = c.loop-i.firsts.ok in
    omega (arith, inside, len, ok)

pub loop-i-preserved : goal.loop-i-preserved
loop-i-preserved c =
    let here = slice_get-get_or c.args.items.now c.loop-i.i nothing c.loop-i-test.true in
    let inside = block_inside c.args.items.now c.args.code.now c.loop-i.i (get_or c.args.items.now c.loop-i.i nothing) c.requires.order here in
    let len = c.loop-i.invariant.len in
    let read = c.index.ensures ∙ get_or_default_zero c.loop-i.firsts.items _ _ (omega (arith, inside, len)) in
    record {
      len = length-set _ _ _ ∙ len;
      found = finds_more c.args.items.now c.loop-i.firsts.items c.loop-i.i (get_or c.args.items.now c.loop-i.i nothing) c.min.result here (omega (arith, inside, len))
          (c.min.ensures ∙ ap (λ n. min n c.loop-i.i) read) c.loop-i.invariant.found;
    }

pub returns : goal.returns
returns c =
    finds_items c.args.items.now c.args.code.now c.loop-i.firsts.items c.loop-i.i c.requires.order c.requires.limit c.loop-i.invariant.len c.loop-i-test.false c.loop-i.invariant.found
