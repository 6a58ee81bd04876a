-- Scopes: what names mean where. A scope is a list of what is declared, the latest last.
use Rattle.std.specs.Prelude.{ℕ, Bool, ◌==◌, List, [], ◌∷◌, ◌++◌, Option, Some, None, drop, if◌then◌else◌}
use Rattle.std.specs.List.{list_any}
use Rattle.c_ast.specs.declared.qualifiers.Ty.{Ty}
use Rattle.name_scopes.specs.declared.scopes.Entry.{Entry}
use Rattle.name_scopes.specs.declared.scopes.Meaning.{Meaning}

abbrev pub is_named : ℕ → Entry → Bool
is_named name e = e.name == name

abbrev pub or_else : {X : Type 0} → Option X → Option X → Option X
or_else (Some x) other = Some x
or_else None other = other

-- what a name means: its latest declaration, which hides those before it
abbrev pub meaning_in : List Entry → ℕ → Option Entry
meaning_in [] name = None
meaning_in (e ∷ es) name = or_else (meaning_in es name) (if is_named name e then Some e else None)

abbrev pub is_declared : List Entry → ℕ → Bool
is_declared scope name = list_any (is_named name) scope

-- a block's own scope begins where so many names are declared
abbrev pub is_declared_since : ℕ → List Entry → ℕ → Bool
is_declared_since start scope name = is_declared (drop start scope) name

abbrev pub entry : ℕ → Meaning → Option Ty → Entry
entry name meaning ty = record { name = name; meaning = meaning; ty = ty }

abbrev pub declare : List Entry → ℕ → Meaning → Option Ty → List Entry
declare scope name meaning ty = scope ++ entry name meaning ty ∷ []
