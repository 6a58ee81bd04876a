use Rattle.std.proofs.Common.{◌≡◌, drop, fold}
use Rattle.c_layout.specs.Places as def
use Rattle.c_layout.proofs.places.extents_of.Given as goal

abbrev pub invariant-loop-definition : goal.invariant-loop-definition
invariant-loop-definition l = fold def.with_struct l.extents (drop l.definition-index l.structs) ≡ def.extents_of l.structs
