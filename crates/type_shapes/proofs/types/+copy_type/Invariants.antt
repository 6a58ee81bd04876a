use Rattle.std.proofs.Common.{◌≡◌, take}
use Rattle.type_shapes.proofs.types.+copy_type.Given as goal

abbrev pub invariant-loop-param : goal.invariant-loop-param
invariant-loop-param l = l.copies ≡ take l.param-index l.param-items
