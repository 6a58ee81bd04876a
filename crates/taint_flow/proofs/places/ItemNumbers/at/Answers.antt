use Rattle.std.proofs.Common.{sym, arith, ◌∙◌, ap}
use Rattle.taint_flow.specs.Places.{number_at}
use Rattle.taint_flow.proofs.Tables.{nowhere_past}
use Rattle.taint_flow.proofs.places.ItemNumbers.at.Goals as goal

pub returns-then-place-len : goal.returns-then-place-len
returns-then-place-len c =
    let len = c.len.ensures in
    let past = c.if-place-len.true in
    sym (ap (λ items. number_at items c.args.place) (sym c.self.view_is)
    ∙ nowhere_past c.self.inside.items.now c.self.inside.firsts.items c.args.place c.self.invariant.inside (omega (arith, len, past)))
