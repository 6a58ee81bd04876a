use Rattle.std.proofs.Common.{◌≡◌, take}
use Rattle.type_rules.specs.Programs as def
use Rattle.c_types.proofs.program.strings_at.Given as goal

abbrev pub invariant-loop-number : goal.invariant-loop-number
invariant-loop-number l = l.texts ≡ def.strings_at l.strings (take l.number-index l.numbers)
