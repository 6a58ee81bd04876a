use Rattle.std.proofs.Common.{arith, sym, ◌∙◌}
use Rattle.cv_io.proofs.Held.{held_at}
use Rattle.cv_io.proofs.classes.is_held.Goals as goal

pub returns-then-place-len-clause-held : goal.returns-then-place-len-clause-held
returns-then-place-len-clause-held g c = c.is_some.ensures ∙ sym (held_at _ c.args.trusted.now.items c.args.class _ (omega arith) c.index.ensures)
