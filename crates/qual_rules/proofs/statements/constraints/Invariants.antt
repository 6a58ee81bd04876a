use Rattle.std.proofs.Common.{◌≡◌, take}
use Rattle.std.specs.List.{flat_map}
use Rattle.qual_rules.specs.Rules.{function_constraints}
use Rattle.qual_rules.proofs.statements.constraints.Given as goal

abbrev pub invariant-loop-function : goal.invariant-loop-function
invariant-loop-function l = l.out.items ≡ flat_map function_constraints (take l.function-index l.function-items)
