use Rattle.std.proofs.Common.{◌≡◌, ◌-◌, ◌++◌, length, drop}
use Rattle.qual_rules.specs.Flows.{passed_all}
use Rattle.qual_rules.proofs.expressions.push_passed_all.Given as goal

-- what is put, with what the arguments that come give, is all
abbrev pub invariant-loop-i : goal.invariant-loop-i
invariant-loop-i l = l.out.items ++ passed_all (drop l.i l.all) (drop l.i l.types) ≡ l.initial.out.items ++ passed_all l.all l.types

abbrev pub decreases-loop-i : goal.decreases-loop-i
decreases-loop-i l = length l.all - l.i
