use Rattle.conf_verify.specs.Search.{IsLeastBad}
use Rattle.conf_verify.proofs.Entries.{BreaksBelow}
use Rattle.conf_verify.proofs.shape.least_bad_entry.Given as goal

abbrev pub invariant-loop-k : goal.invariant-loop-k
invariant-loop-k l = IsLeastBad (BreaksBelow l.entries l.items l.k) l.least
