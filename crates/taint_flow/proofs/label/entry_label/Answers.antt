use Rattle.taint_flow.proofs.Bits.{entry_steps}
use Rattle.taint_flow.proofs.label.entry_label.Goals as goal

pub returns : goal.returns
returns c =
    entry_steps _ _ _ _ _ _ _ _ _ c.may_pass_private-4.ensures c.may_pass_private-3.ensures c.may_pass_private-2.ensures c.may_pass_private.ensures
    c.set_reg.ensures c.set_reg-2.ensures c.set_reg-3.ensures c.set_reg-4.ensures
