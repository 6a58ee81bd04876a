use Rattle.std.proofs.Common.{◌≡◌, ◌+◌, ◌<◌, ◌^◌, drop}
use Rattle.type_rules.specs.WrittenTypes as def
use Rattle.type_rules.proofs.written.pointers.Given as goal

abbrev pub invariant-loop-star : goal.invariant-loop-star
invariant-loop-star l = record {
  rest : l.rest ≡ def.taken_by l.u (drop l.star-index l.stars);
  room : l.n + l.rest < 2 ^ 32;
  all : def.pointers l.u l.n (drop l.star-index l.stars) l.ty ≡ def.pointers l.u l.n l.stars l.initial.ty;
}
