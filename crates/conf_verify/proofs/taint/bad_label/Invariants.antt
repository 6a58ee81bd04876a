use Rattle.std.proofs.Common.{ℕ, ◌<◌}
use Rattle.taint_flow.specs.Bits.{labelling_of}
use Rattle.conf_verify.specs.declared.rule.Rule.{Rule}
use Rattle.conf_verify.specs.Search.{BadLabel}
use Rattle.conf_verify.proofs.taint.bad_label.Given as goal

abbrev pub invariant-loop-i : goal.invariant-loop-i
invariant-loop-i l = (j : ℕ) → j < l.i → (rule : Rule) → BadLabel l.items (labelling_of l.labels) rule j → ⊥
