use Rattle.std.proofs.Common.{◌≡◌, map, drop, length}
use Rattle.type_shapes.specs.Types as def
use Rattle.type_shapes.proofs.types.+same.Given as goal

abbrev pub invariant-same_all-loop-i : goal.invariant-same_all-loop-i
invariant-same_all-loop-i l = record {
  all : def.same_all (map (def.same_type l.exact) (drop l.i l.a)) (drop l.i l.b) ≡ def.same_all (map (def.same_type l.exact) l.a) l.b;
  lengths : length l.a ≡ length l.b;
}
