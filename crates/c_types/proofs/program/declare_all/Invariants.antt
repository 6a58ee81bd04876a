use Rattle.std.proofs.Common.{◌≡◌, ◌++◌, take}
use Rattle.c_types.proofs.program.declare_all.Given as goal

abbrev pub invariant-loop-at : goal.invariant-loop-at
invariant-loop-at l = l.scope ≡ l.initial.scope ++ take l.at l.entries
