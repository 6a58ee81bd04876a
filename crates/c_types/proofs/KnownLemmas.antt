-- What is known at the front of a file.
use Rattle.std.proofs.Common.{◌≡◌, ℕ, List, ◌++◌, refl}
use Rattle.c_ast.specs.declared.program.Program.{Program}
use Rattle.name_scopes.specs.declared.scopes.Entry.{Entry}
use Rattle.type_rules.specs.declared.files.Functions.{Functions}
use Rattle.type_rules.specs.declared.known.Known.{Known}
use Rattle.type_rules.specs.Gates.{gates_in}
use Rattle.type_rules.specs.Programs.{entries_of, first_known, nothing_known, string_sizes}

pub known_first : (p : Program) (functions : Functions) (none : Known) (sizes : List ℕ) (gates scope : List Entry)
    → none ≡ nothing_known → sizes ≡ string_sizes p.strings → gates ≡ gates_in p.names → scope ≡ gates ++ entries_of functions
    → record none { string_sizes = sizes; scope = scope } ≡ first_known p functions
known_first p functions none sizes gates scope none_is sizes_are gates_are scope_is = rw (none_is, sizes_are, scope_is, gates_are) refl
