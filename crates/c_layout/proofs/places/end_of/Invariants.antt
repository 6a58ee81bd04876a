use Rattle.std.proofs.Common.{◌≡◌, drop}
use Rattle.c_layout.specs.Places as def
use Rattle.c_layout.proofs.places.end_of.Given as goal

abbrev pub invariant-loop-extent : goal.invariant-loop-extent
invariant-loop-extent l = def.end_of l.end (drop l.extent-index l.extents) ≡ def.end_of l.start l.extents
