use Rattle.std.proofs.Common.{◌≡◌, take}
use Rattle.type_rules.specs.Programs as def
use Rattle.c_types.proofs.program.string_sizes.Given as goal

abbrev pub invariant-loop-text : goal.invariant-loop-text
invariant-loop-text l = l.sizes ≡ def.string_sizes (take l.text-index l.strings)
