use Rattle.std.proofs.Common.{take}
use Rattle.c_types.specs.Faults.{IsFound}
use Rattle.c_types.proofs.program.least.Given as goal

abbrev pub invariant-loop-fault : goal.invariant-loop-fault
invariant-loop-fault l = IsFound l.found (take l.fault-index l.all)
