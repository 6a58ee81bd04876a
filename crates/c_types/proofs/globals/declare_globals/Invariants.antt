use Rattle.std.proofs.Common.{◌≡◌, drop, fold}
use Rattle.type_rules.specs.Declarations as def
use Rattle.c_types.proofs.globals.declare_globals.Given as goal

abbrev pub invariant-loop-i : goal.invariant-loop-i
invariant-loop-i l =
    fold (def.declare_global l.strings l.d.specifier) l.file (drop l.i-index l.i-items) ≡ def.declare_globals l.strings l.d l.initial.file
