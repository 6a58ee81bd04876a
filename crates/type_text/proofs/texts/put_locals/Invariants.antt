use Rattle.std.proofs.Common.{◌≡◌, ◌++◌, drop}
use Rattle.std.specs.List.{flat_map}
use Rattle.type_text.specs.Texts as def
use Rattle.type_text.proofs.texts.put_locals.Given as goal

abbrev pub invariant-loop-l : goal.invariant-loop-l
invariant-loop-l l =
    l.out.items ++ flat_map (def.local_line (def.reading l.names l.structs l.assignment) l.f.name) (drop l.l-index l.l-items)
    ≡ l.initial.out.items ++ def.function_lines (def.reading l.names l.structs l.assignment) l.f
