use Rattle.std.proofs.Common.{◌≡◌, ◌+◌, drop}
use Rattle.type_rules.specs.WrittenTypes as def
use Rattle.type_rules.proofs.written.taken_by.Given as goal

abbrev pub invariant-loop-star : goal.invariant-loop-star
invariant-loop-star l = l.all + def.taken_by l.u (drop l.star-index l.stars) ≡ def.taken_by l.u l.stars
