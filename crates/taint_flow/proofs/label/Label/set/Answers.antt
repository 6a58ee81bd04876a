use Rattle.std.proofs.Common.{◌∙◌}
use Rattle.taint_flow.proofs.Bits.{set_turned, beq_apart}
use Rattle.taint_flow.proofs.label.Label.set.Goals as goal

pub returns-else-has-private : goal.returns-else-has-private
returns-else-has-private c = set_turned _ _ _ c.requires (λ e. beq_apart _ _ c.if-has-private.false (c.has.ensures ∙ e))
