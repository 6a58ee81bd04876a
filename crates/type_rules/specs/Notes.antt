-- What is noted on the way through a program, in source order.
use Rattle.std.specs.Prelude.{ℕ, Bool, List, [], ◌∷◌, ◌++◌, Option, Some, None, if◌then◌else◌}
use Rattle.c_ast.specs.declared.qualifiers.Ty.{Ty}
use Rattle.c_ast.specs.declared.typed.Local.{Local}
use Rattle.type_rules.specs.declared.notes.Notes.{Notes}

abbrev pub none_yet : Notes
none_yet = record { faults = []; strings = []; locals = []; vars = 0 }

-- this rule is broken at this place
abbrev pub broken : ℕ → ℕ → Notes → Notes
broken rule place notes = record notes { faults = notes.faults ++ record { rule = rule; place = place } ∷ [] }

abbrev pub broken_if : Bool → ℕ → ℕ → Notes → Notes
broken_if test rule place notes = if test then broken rule place notes else notes

abbrev pub unless : Bool → ℕ → ℕ → Notes → Notes
unless test rule place notes = if test then notes else broken rule place notes

abbrev pub with_vars : ℕ → Notes → Notes
with_vars vars notes = record notes { vars = vars }

abbrev pub with_string : ℕ → Notes → Notes
with_string string notes = record notes { strings = notes.strings ++ string ∷ [] }

abbrev pub local : ℕ → ℕ → Ty → Local
local name place ty = record { name = name; place = place; ty = ty }

-- what isn't typed is left out
abbrev pub with_typed : ℕ → ℕ → Option Ty → List Local → List Local
with_typed name place None locals = locals
with_typed name place (Some ty) locals = locals ++ local name place ty ∷ []

abbrev pub with_local : ℕ → ℕ → Option Ty → Notes → Notes
with_local name place ty notes = record notes { locals = with_typed name place ty notes.locals }

abbrev pub without_locals : Notes → Notes
without_locals notes = record notes { locals = [] }
