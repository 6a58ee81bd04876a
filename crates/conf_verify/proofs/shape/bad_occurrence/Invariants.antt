use Rattle.std.proofs.Common.{ℕ, ◌<◌}
use Rattle.conf_verify.specs.Search.{BadOccurrence}
use Rattle.conf_verify.proofs.shape.bad_occurrence.Given as goal

abbrev pub invariant-loop-k : goal.invariant-loop-k
invariant-loop-k l = (j : ℕ) → j < l.k → BadOccurrence l.items l.places j → ⊥
