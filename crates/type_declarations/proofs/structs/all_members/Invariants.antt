use Rattle.std.proofs.Common.{◌≡◌, drop, fold}
use Rattle.type_rules.specs.Declarations as def
use Rattle.type_declarations.proofs.structs.all_members.Given as goal

abbrev pub invariant-loop-m : goal.invariant-loop-m
invariant-loop-m l =
    fold (def.declare_members l.known) (record { fields = l.fields; typed = l.typed; notes = l.notes }) (drop l.m-index l.members)
    ≡ def.all_members l.known (record { fields = l.initial.fields; typed = l.initial.typed; notes = l.initial.notes }) l.members
