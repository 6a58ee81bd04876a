use Rattle.std.proofs.Common.{◌∙◌, ap, ◌==◌}
use Rattle.x64_decode.specs.declared.instr.Reg.TheVariants.{Rax}
use Rattle.taint_flow.specs.Label.{Label, set_reg, return_label}
use Rattle.taint_flow.proofs.Bits.{all_is}
use Rattle.taint_flow.proofs.label.return_label.Goals as goal

pub returns : goal.returns
unfolding return_label
returns c = c.set_reg.ensures ∙ ap (λ (l : Label). set_reg Rax (c.args.bit == 1) l) all_is
