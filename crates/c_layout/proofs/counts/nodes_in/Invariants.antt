use Rattle.std.proofs.Common.{◌≡◌, ◌+◌, drop}
use Rattle.c_layout.specs.Counts as def
use Rattle.c_layout.proofs.counts.nodes_in.Given as goal

abbrev pub invariant-loop-function : goal.invariant-loop-function
invariant-loop-function l = l.all + def.nodes_in (drop l.function-index l.functions) ≡ def.nodes_in l.functions
