use Rattle.std.proofs.Common.{◌≡◌, drop, fold}
use Rattle.type_rules.specs.Declarations as def
use Rattle.type_declarations.proofs.structs.declare_members.Given as goal

abbrev pub invariant-loop-d : goal.invariant-loop-d
invariant-loop-d l =
    fold (def.declare_member l.known l.m.specifier) (record { fields = l.fields; typed = l.typed; notes = l.notes }) (drop l.d-index l.d-items)
    ≡ def.declare_members l.known (record { fields = l.initial.fields; typed = l.initial.typed; notes = l.initial.notes }) l.m
