use Rattle.std.proofs.Common.{◌≡◌, take}
use Rattle.cv_io.specs.Xored.{xored}
use Rattle.cv_io.proofs.memory_releaser.xor_into.Given as goal

abbrev pub invariant-loop-i : goal.invariant-loop-i
invariant-loop-i l = take l.i l.to ≡ take l.i (xored l.from l.pad)
