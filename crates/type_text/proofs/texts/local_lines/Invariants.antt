use Rattle.std.proofs.Common.{◌≡◌, ◌++◌, drop}
use Rattle.std.specs.List.{flat_map}
use Rattle.type_text.specs.Texts as def
use Rattle.type_text.proofs.texts.local_lines.Given as goal

abbrev pub invariant-loop-f : goal.invariant-loop-f
invariant-loop-f l =
    l.out.items ++ flat_map (def.function_lines (def.reading l.names l.typed.structs l.assignment)) (drop l.f-index l.f-items)
    ≡ def.local_lines l.names l.typed l.assignment
