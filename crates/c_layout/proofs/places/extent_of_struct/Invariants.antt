use Rattle.std.proofs.Common.{◌≡◌, drop, fold}
use Rattle.type_shapes.specs.Sizes.{nothing}
use Rattle.c_layout.specs.Places as def
use Rattle.c_layout.proofs.places.extent_of_struct.Given as goal

abbrev pub invariant-loop-member : goal.invariant-loop-member
invariant-loop-member l =
    fold (def.with_local l.before) l.so_far (drop l.member-index l.member-items) ≡ fold (def.with_local l.before) nothing l.member-items
