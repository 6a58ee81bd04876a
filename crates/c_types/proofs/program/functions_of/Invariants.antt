use Rattle.std.proofs.Common.{◌≡◌, drop, fold}
use Rattle.type_rules.specs.Programs as def
use Rattle.c_types.proofs.program.functions_of.Given as goal

abbrev pub invariant-loop-item : goal.invariant-loop-item
invariant-loop-item l = fold def.take_function l.functions (drop l.item-index l.items) ≡ def.functions_in l.items
