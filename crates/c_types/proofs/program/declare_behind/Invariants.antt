use Rattle.std.proofs.Common.{◌≡◌, ◌++◌, take, map}
use Rattle.type_rules.specs.Programs as def
use Rattle.c_types.proofs.program.declare_behind.Given as goal

abbrev pub invariant-loop-at : goal.invariant-loop-at
invariant-loop-at l = l.scope ≡ l.initial.scope ++ map (def.entry_behind l.behind) (take l.at l.entries)
