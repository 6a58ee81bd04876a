use Rattle.std.proofs.Common.{◌≡◌, drop, fold}
use Rattle.type_rules.specs.Declarations as def
use Rattle.type_shapes.specs.Sizes.{nothing}
use Rattle.type_declarations.proofs.structs.extent_of_members.Given as goal

abbrev pub invariant-loop-local : goal.invariant-loop-local
invariant-loop-local l =
    fold (def.with_local_member l.structs) l.extent (drop l.local-index l.typed) ≡ fold (def.with_local_member l.structs) nothing l.typed
