use Rattle.std.proofs.Common.{sym, ◌∙◌, get_or, ◌-◌}
use Rattle.std.proofs.lemmas.Option.{slice_get-get_or}
use Rattle.cv_word.specs.MemoryMap.{code_base}
use Rattle.taint_flow.specs.Places.{number_at}
use Rattle.code_sweep.specs.declared.item.Item.TheVariants.{Call}
use Rattle.code_sweep.specs.declared.item.Placed.{Placed}
use Rattle.taint_flow.proofs.Callees.{none_below, none_numbered, procedure_numbered, past_items}
use Rattle.taint_flow.proofs.calls.procedure_at.Goals as goal

abbrev nothing : Placed
nothing = record { at = 0; len = 0; item = Call 0 }

pub returns-then-target : goal.returns-then-target
returns-then-target c = sym (none_below c.args.items.now c.args.target c.requires.eight c.if-target.true)

pub returns-in_default : goal.returns-in_default
returns-in_default c =
    sym (none_numbered c.args.items.now (number_at c.args.numbers.now) c.args.target c.requires.numbers c.requires.eight (sym c.at.ensures ∙ c.in_default.is))

pub returns-then-j-items : goal.returns-then-j-items
returns-then-j-items c =
    absurd (past_items c.args.items.now (number_at c.args.numbers.now) (c.args.target - code_base - 8) c.in-Some.j c.requires.numbers
    (sym c.at.ensures ∙ c.in-Some.is) c.if-j-items.true)

pub returns : goal.returns
returns c =
    c.call_bits.ensures
    ∙ procedure_numbered c.args.items.now (number_at c.args.numbers.now) c.args.target c.in-Some.j (get_or c.args.items.now c.in-Some.j nothing)
    c.requires.numbers c.requires.eight c.requires.apart c.if-target.false (sym c.at.ensures ∙ c.in-Some.is)
    (slice_get-get_or c.args.items.now c.in-Some.j nothing c.if-j-items.false)
