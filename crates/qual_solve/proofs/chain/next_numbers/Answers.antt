use Rattle.std.proofs.Common.{◌≡◌, ◌-◌, ◌<◌, ◌≤◌, length, get_or, sym, ◌∙◌, ap, refl, arith}
use Rattle.std.proofs.lemmas.List.{length-set, get_or_default}
use Rattle.std.proofs.lemmas.Bool.{true≢false}
use Rattle.qual_solve.proofs.Nexts.{next_begins, next_ends, constraint_step, constraint_skip}
use Rattle.qual_solve.specs.Ends.{node_of}
use Rattle.qual_solve.proofs.Numbered.{fallback, length_rights}
use Rattle.qual_solve.proofs.chain.next_numbers.Goals as goal

pub loop-number-init : goal.loop-number-init
loop-number-init c =
    (omega (arith, c.in_ok-next.ensures.len, c.in_ok-next.next.ok.0), omega arith, next_begins _ _ _ _ _ (omega (arith, length_rights c.args.list.now)))

pub loop-number-preserved : goal.loop-number-preserved
loop-number-preserved c =
    let list = c.args.list.now in
    let number = c.loop-number.number in
    let within : number ≤ length list = c.loop-number.invariant.1 in
    let read : get_or list (number - 1) fallback ≡ get_or list (number - 1) (get_or list (number - 1) fallback) = get_or_default list (number - 1) fallback _ (omega (arith, c.loop-number-test.true)) in (
      c.loop-number.invariant.0,
      omega arith,
      constraint_skip list c.args.distances.now c.loop-number.next.items number (get_or list (number - 1) fallback) c.loop-number-test.true within read
          (λ nearer. true≢false (sym (c.if-is_step.ensures.1 nearer))) c.loop-number.invariant.2,
    )

pub loop-number-preserved-then-is_step : goal.loop-number-preserved-then-is_step
loop-number-preserved-then-is_step c =
    let list = c.args.list.now in
    let number = c.loop-number.number in
    let within : number ≤ length list = c.loop-number.invariant.1 in
    let some : 0 < number = c.loop-number-test.true in
    let at : number - 1 < length list = omega arith in
    let constraint = get_or list (number - 1) fallback in
    let read : constraint ≡ get_or list (number - 1) constraint = get_or_default list (number - 1) fallback _ at in
    let inside : node_of constraint.from < length c.loop-number.next.items = omega (arith, c.loop-number.invariant.0, (c.requires (number - 1) fallback at).from) in (
      ap length c.note_number.ensures ∙ length-set _ _ _ ∙ c.loop-number.invariant.0,
      omega arith,
      constraint_step list c.args.distances.now c.loop-number.next.items c.note_number.new.next.items number (node_of constraint.from) constraint some within read refl inside
          (c.if-is_step.ensures.0 refl) c.note_number.ensures c.loop-number.invariant.2,
    )

pub returns-clause-next : goal.returns-clause-next
returns-clause-next c = next_ends _ _ _ c.loop-number.number _ (omega (arith, c.loop-number-test.false)) c.loop-number.invariant.2
