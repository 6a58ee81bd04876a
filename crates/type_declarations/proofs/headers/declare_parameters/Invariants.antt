use Rattle.std.proofs.Common.{◌≡◌, drop, fold}
use Rattle.type_rules.specs.Declarations as def
use Rattle.type_declarations.proofs.headers.declare_parameters.Given as goal

abbrev pub invariant-loop-p : goal.invariant-loop-p
invariant-loop-p l =
    fold (def.declare_parameter l.known) (record { scope = l.scope; typed = l.typed; notes = l.notes }) (drop l.p-index l.all)
    ≡ def.declare_parameters l.known (record { scope = l.initial.scope; typed = l.initial.typed; notes = l.initial.notes }) l.all
