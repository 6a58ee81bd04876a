use Rattle.std.proofs.Common.{◌≡◌, drop, fold}
use Rattle.type_rules.specs.Statements as def
use Rattle.type_statements.proofs.locals.declare_locals.Given as goal

abbrev pub invariant-loop-i : goal.invariant-loop-i
invariant-loop-i l =
    fold (def.declare_local l.frame l.start l.d.specifier) (record { known = l.known; items = l.items; notes = l.notes }) (drop l.i-index l.i-items)
    ≡ def.declare_locals l.frame l.start l.d (record { known = l.initial.known; items = l.initial.items; notes = l.initial.notes })
