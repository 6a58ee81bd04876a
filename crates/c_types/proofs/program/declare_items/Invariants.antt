use Rattle.std.proofs.Common.{◌≡◌, drop, fold}
use Rattle.type_rules.specs.Programs as def
use Rattle.c_types.proofs.program.declare_items.Given as goal

abbrev pub invariant-loop-item : goal.invariant-loop-item
invariant-loop-item l = fold (def.item_step l.strings l.definitions) l.file (drop l.item-index l.items) ≡ def.file_behind l.strings l.definitions l.items l.initial.file
