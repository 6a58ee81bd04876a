use Rattle.std.proofs.Common.{arith, ◌∙◌, sym, get_or}
use Rattle.std.proofs.lemmas.Option.{slice_get-get_or}
use Rattle.code_sweep.specs.declared.item.Item.TheVariants.{Call}
use Rattle.code_sweep.specs.declared.item.Placed.{Placed}
use Rattle.taint_flow.proofs.Tables.{none_upto, search_found, search_passed, nowhere_more}
use Rattle.taint_flow.proofs.places.search_from.Goals as goal

abbrev nothing : Placed
nothing = record { at = 0; len = 0; item = Call 0 }

pub loop-i-init : goal.loop-i-init
loop-i-init c = c.requires.none

pub returns-then-at-place : goal.returns-then-at-place
returns-then-at-place c =
    sym (search_found c.args.items.now c.loop-i.i c.args.place (get_or c.args.items.now c.loop-i.i nothing)
    (slice_get-get_or c.args.items.now c.loop-i.i nothing c.loop-i-test.true) (sym c.from-at.ensures ∙ c.if-at-place.true) c.loop-i.invariant)

pub returns-then-at-place-2 : goal.returns-then-at-place-2
returns-then-at-place-2 c =
    let at = c.from-at.ensures in
    let past = c.if-at-place-2.true in
    sym (search_passed c.args.items.now c.loop-i.i c.args.place (get_or c.args.items.now c.loop-i.i nothing) c.requires.rising
    (slice_get-get_or c.args.items.now c.loop-i.i nothing c.loop-i-test.true) (omega (arith, at, past)) c.loop-i.invariant)

pub loop-i-preserved : goal.loop-i-preserved
loop-i-preserved c =
    nowhere_more c.args.items.now c.loop-i.i c.args.place (get_or c.args.items.now c.loop-i.i nothing)
    (slice_get-get_or c.args.items.now c.loop-i.i nothing c.loop-i-test.true) (λ e. c.if-at-place.false (c.from-at.ensures ∙ e)) c.loop-i.invariant

pub returns : goal.returns
returns c = sym (none_upto c.args.items.now c.loop-i.i c.args.place c.loop-i-test.false c.loop-i.invariant)
