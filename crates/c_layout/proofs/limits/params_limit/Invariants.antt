use Rattle.std.proofs.Common.{◌≡◌, map, drop}
use Rattle.c_layout.specs.Counts.{most_values}
use Rattle.c_layout.specs.Limits as def
use Rattle.c_layout.proofs.limits.params_limit.Given as goal

abbrev pub invariant-loop-function : goal.invariant-loop-function
invariant-loop-function l =
    def.first_above 4 (map most_values (drop l.function-index l.functions)) ≡ def.first_above 4 (map most_values l.functions)
