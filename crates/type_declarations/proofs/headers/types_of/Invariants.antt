use Rattle.std.proofs.Common.{◌≡◌, take}
use Rattle.type_rules.specs.Declarations as def
use Rattle.type_declarations.proofs.headers.types_of.Given as goal

abbrev pub invariant-loop-local : goal.invariant-loop-local
invariant-loop-local l = l.types ≡ def.types_of (take l.local-index l.locals)
