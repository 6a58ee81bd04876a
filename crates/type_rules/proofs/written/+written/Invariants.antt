use Rattle.std.proofs.Common.{◌≡◌, drop, map, fold}
use Rattle.type_rules.specs.WrittenTypes as def
use Rattle.type_rules.proofs.written.+written.Given as goal

abbrev pub invariant-parameters-loop-parameter : goal.invariant-parameters-loop-parameter
invariant-parameters-loop-parameter l =
    fold (def.next_parameter l.known) (record { types = l.found; whole = l.whole; notes = l.notes }) (map def.type_reader (drop l.parameter-index l.types))
    ≡ def.parameters l.known (map def.type_reader l.types) l.initial.notes
