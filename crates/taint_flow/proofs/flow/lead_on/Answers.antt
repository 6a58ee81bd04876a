use Rattle.std.proofs.Common.{arith, sym, true, false, Some, None, ◌+◌, ◌<◌, [], length, get_or}
use Rattle.std.proofs.lemmas.Option.{slice_get-get_or, none-some}
use Rattle.code_sweep.specs.declared.item.Item.TheVariants.{Call}
use Rattle.code_sweep.specs.declared.item.Placed.{Placed}
use Rattle.taint_flow.specs.Worklist.{state_of, topped}
use Rattle.taint_flow.specs.Places.{number_at}
use Rattle.taint_flow.proofs.Sound.{rises_then, out_within, hands_from, handed, handed_least, takes_on, next_inside, next_if}
use Rattle.taint_flow.proofs.flow.lead_on.Goals as goal

abbrev nothing : Placed
nothing = record { at = 0; len = 0; item = Call 0 }

pub join-requires-clause-names : goal.join-requires-clause-names
join-requires-clause-names g c =
    out_within (get_or c.args.items.now c.args.i nothing).item c.left_behind-out.result.bits c.index.result.now (state_of c.args.w.now) c.args.i
    (let len = c.requires.whole.1.labels in let inside = c.requires.inside in omega arith)
    c.index.ensures c.left_behind-out.ensures.label c.requires.names

pub raise-requires-clause-inside : goal.raise-requires-clause-inside
raise-requires-clause-inside g c =
    let inside : c.args.i + 1 < length c.args.items.now =
    next_inside c.args.items.now c.args.i (get_or c.args.items.now c.args.i nothing)
    (slice_get-get_or c.args.items.now c.args.i nothing c.requires.inside) c.requires.next (c.args.i + 1)
    (sym (next_if true c.args.i (get_or c.args.items.now c.args.i nothing).item c.if-falls_through.ensures)) in
    let len = c.requires.whole.1.labels in
    let kept = (c.join.ensures.rises c.requires.whole.0).labels in
    omega (arith, inside, len, kept)

pub raise-requires-clause-names : goal.raise-requires-clause-names
raise-requires-clause-names g c =
    out_within (get_or c.args.items.now c.args.i nothing).item c.left_behind-out.result.bits c.index.result.now (state_of c.args.w.now) c.args.i
    (let len = c.requires.whole.1.labels in let inside = c.requires.inside in omega arith)
    c.index.ensures c.left_behind-out.ensures.label c.requires.names

pub returns-then-falls_through-clause-rises : goal.returns-then-falls_through-clause-rises
returns-then-falls_through-clause-rises g c = λ below. rises_then _ _ _ (c.join.ensures.rises below) (c.raise.ensures.rises below)

pub returns-then-falls_through-clause-room : goal.returns-then-falls_through-clause-room
returns-then-falls_through-clause-room g c = λ yes. (
  next_inside c.args.items.now c.args.i (get_or c.args.items.now c.args.i nothing)
      (slice_get-get_or c.args.items.now c.args.i nothing c.requires.inside) c.requires.next (c.args.i + 1)
      (sym (next_if true c.args.i (get_or c.args.items.now c.args.i nothing).item c.if-falls_through.ensures)),
  c.raise.ensures.room yes,
)

pub returns-then-falls_through-clause-handed : goal.returns-then-falls_through-clause-handed
returns-then-falls_through-clause-handed g c =
    let p = get_or c.args.items.now c.args.i nothing in
    let number = number_at c.args.numbers.now in
    handed c.args.items.now c.args.i p _ (state_of c.args.w.now) (state_of c.raise.new.w) (Some (c.args.i + 1)) c.target_number.result number
    (hands_from c.args.items.now c.args.i p c.index.result.now _ (state_of c.args.w.now) _ _ number
    (slice_get-get_or c.args.items.now c.args.i nothing c.requires.inside) c.requires.inside c.requires.whole.1.labels
    c.index.ensures c.left_behind-out.ensures.label (next_if true c.args.i p.item c.if-falls_through.ensures)
    c.target_number.ensures.found c.target_number.ensures.only c.requires.numbers)
    c.raise.ensures.takes
    (takes_on c.target_number.result _ (state_of c.join.new.w) (topped c.raise.result (c.args.i + 1) (state_of c.raise.new.w)) c.join.ensures.takes (c.raise.ensures.rises []))

pub returns-then-falls_through-clause-least : goal.returns-then-falls_through-clause-least
returns-then-falls_through-clause-least g c =
    let p = get_or c.args.items.now c.args.i nothing in
    let number = number_at c.args.numbers.now in
    handed_least c.args.items.now c.args.i p _ (state_of c.args.w.now) (state_of c.join.new.w) (state_of c.raise.new.w) (Some (c.args.i + 1)) c.target_number.result number
    (hands_from c.args.items.now c.args.i p c.index.result.now _ (state_of c.args.w.now) _ _ number
    (slice_get-get_or c.args.items.now c.args.i nothing c.requires.inside) c.requires.inside c.requires.whole.1.labels
    c.index.ensures c.left_behind-out.ensures.label (next_if true c.args.i p.item c.if-falls_through.ensures)
    c.target_number.ensures.found c.target_number.ensures.only c.requires.numbers)
    c.join.ensures.stays c.raise.ensures.stays

pub returns-else-falls_through-clause-handed : goal.returns-else-falls_through-clause-handed
returns-else-falls_through-clause-handed g c =
    let p = get_or c.args.items.now c.args.i nothing in
    let number = number_at c.args.numbers.now in
    handed c.args.items.now c.args.i p _ (state_of c.args.w.now) (state_of c.join.new.w) None c.target_number.result number
    (hands_from c.args.items.now c.args.i p c.index.result.now _ (state_of c.args.w.now) _ _ number
    (slice_get-get_or c.args.items.now c.args.i nothing c.requires.inside) c.requires.inside c.requires.whole.1.labels
    c.index.ensures c.left_behind-out.ensures.label (next_if false c.args.i p.item c.if-falls_through.ensures)
    c.target_number.ensures.found c.target_number.ensures.only c.requires.numbers)
    (λ j e. absurd (none-some j e)) c.join.ensures.takes

pub returns-else-falls_through-clause-least : goal.returns-else-falls_through-clause-least
returns-else-falls_through-clause-least g c =
    let p = get_or c.args.items.now c.args.i nothing in
    let number = number_at c.args.numbers.now in
    handed_least c.args.items.now c.args.i p _ (state_of c.args.w.now) (state_of c.join.new.w) (state_of c.join.new.w) None c.target_number.result number
    (hands_from c.args.items.now c.args.i p c.index.result.now _ (state_of c.args.w.now) _ _ number
    (slice_get-get_or c.args.items.now c.args.i nothing c.requires.inside) c.requires.inside c.requires.whole.1.labels
    c.index.ensures c.left_behind-out.ensures.label (next_if false c.args.i p.item c.if-falls_through.ensures)
    c.target_number.ensures.found c.target_number.ensures.only c.requires.numbers)
    c.join.ensures.stays (λ any small below. below)
