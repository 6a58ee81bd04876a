use Rattle.std.proofs.Common.{◌≡◌, drop}
use Rattle.type_rules.specs.Declarations as def
use Rattle.type_declarations.proofs.structs.is_last_private.Given as goal

abbrev pub invariant-loop-star : goal.invariant-loop-star
invariant-loop-star l = def.is_last_private l.is_private (drop l.star-index l.stars) ≡ def.is_last_private l.base l.stars
