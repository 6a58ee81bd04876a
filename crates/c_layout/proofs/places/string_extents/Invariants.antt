use Rattle.std.proofs.Common.{◌≡◌, take, map}
use Rattle.c_layout.specs.Places as def
use Rattle.c_layout.proofs.places.string_extents.Given as goal

abbrev pub invariant-loop-text : goal.invariant-loop-text
invariant-loop-text l = l.extents ≡ map def.string_extent (take l.text-index l.strings)
