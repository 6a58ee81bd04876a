use Rattle.std.proofs.Common.{◌≡◌, take}
use Rattle.c_layout.specs.Places as def
use Rattle.c_layout.proofs.places.extents_in.Given as goal

abbrev pub invariant-loop-local : goal.invariant-loop-local
invariant-loop-local l = l.extents ≡ def.extents_in l.structs (take l.local-index l.locals)
