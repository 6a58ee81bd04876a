use Rattle.std.proofs.Common.{◌≡◌, ◌++◌, take}
use Rattle.qual_rules.specs.Flows.{into}
use Rattle.qual_rules.proofs.flow.push_into.Given as goal

abbrev pub invariant-loop-source : goal.invariant-loop-source
invariant-loop-source l = l.out.items ≡ l.initial.out.items ++ into l.to (take l.source-index l.sources)
