use Rattle.std.proofs.Common.{◌≡◌, ◌-◌, ◌++◌, length, map, drop}
use Rattle.qual_rules.specs.Flows.{flow_of, same_below_all}
use Rattle.qual_rules.proofs.expressions.push_same_below_all.Given as goal

-- what is put, with what the arguments that come give, is all
abbrev pub invariant-loop-i : goal.invariant-loop-i
invariant-loop-i l =
    l.out.items ++ same_below_all (map flow_of (drop l.i l.args)) (drop l.i l.types) ≡ l.initial.out.items ++ same_below_all (map flow_of l.args) l.types

abbrev pub decreases-loop-i : goal.decreases-loop-i
decreases-loop-i l = length l.args - l.i
