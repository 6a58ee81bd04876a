use Rattle.std.proofs.Common.{◌≡◌, ◌++◌, drop}
use Rattle.c_layout.specs.Places as def
use Rattle.c_layout.proofs.places.placed.Given as goal

-- what is placed, with what the objects that come give, is all
abbrev pub invariant-loop-extent : goal.invariant-loop-extent
invariant-loop-extent l = l.offsets ++ def.placed l.end (drop l.extent-index l.extents) ≡ def.placed l.start l.extents
