-- The types of locals as text, a line for each.
use Rattle.std.specs.Prelude.{ℕ, ◌==◌, List, [], ◌∷◌, ◌++◌, Some, None, codes, map, slice_get, if◌then◌else◌}
use Rattle.std.specs.List.{flat_map}
use Rattle.std.specs.Fmt.{decimal}
use Rattle.cv_word.specs.declared.registers.Taint.{Taint}
use Rattle.cv_word.specs.declared.registers.Taint.TheVariants.{Pub, Priv}
use Rattle.c_ast.specs.declared.qualifiers.Qual.{Qual}
use Rattle.c_ast.specs.declared.qualifiers.Ty.{Ty}
use Rattle.c_ast.specs.declared.qualifiers.Ty.TheOpen.{Ty-F, Int, Void, Struct, Ptr, Array, Fun}
use Rattle.c_ast.specs.declared.qualifiers.Ty.TheFolds.{fold-Ty}
use Rattle.c_ast.specs.declared.typed.Function.{Function}
use Rattle.c_ast.specs.declared.typed.Local.{Local}
use Rattle.c_ast.specs.declared.typed.StructDef.{StructDef}
use Rattle.c_ast.specs.declared.typed.Typed.{Typed}
use Rattle.qual_solve.specs.Assignments.{taint_of}

-- what a type is read with: the names of its source by their numbers, the structs, and the taint of each variable
pub record Reading : Type 0 where
  pub names : List (List ℕ)
  pub structs : List StructDef
  pub assignment : List Taint

abbrev pub reading : List (List ℕ) → List StructDef → List Taint → Reading
reading names structs assignment = record { names = names; structs = structs; assignment = assignment }

abbrev pub name_at : List (List ℕ) → ℕ → List ℕ
name_at names number = elim (slice_get names number) [
  | None ↦ []
  | Some name ↦ name
]

abbrev pub struct_name : Reading → ℕ → List ℕ
struct_name r id = elim (slice_get r.structs id) [
  | None ↦ []
  | Some definition ↦ name_at r.names definition.name
]

-- before the base of a type
abbrev pub before_base : Taint → List ℕ
before_base Pub = []
before_base Priv = codes "private "

-- behind the star of a pointer
abbrev pub behind_star : Taint → List ℕ
behind_star Pub = []
behind_star Priv = codes " private"

abbrev pub width_word : ℕ → List ℕ
width_word width = if width == 1 then codes "char" else if width == 4 then codes "int" else codes "long"

-- a type, and what stands before and behind the star of a pointer to it
pub record Said : Type 0 where
  pub text : List ℕ
  pub before : List ℕ
  pub behind : List ℕ

-- a pointer to an object is its type, and a star
abbrev pub object : List ℕ → Said
object text = record { text = text; before = text ++ codes " *"; behind = [] }

-- with a comma before each
abbrev pub further : List (List ℕ) → List ℕ
further texts = flat_map (λ text. codes ", " ++ text) texts

-- with a comma between two
abbrev pub listed : List (List ℕ) → List ℕ
listed [] = []
listed (text ∷ texts) = text ++ further texts

abbrev pub texts : List Said → List (List ℕ)
texts = map (λ p. p.text)

abbrev pub parameters : List Said → List ℕ
parameters params = codes " (" ++ (listed (texts params) ++ codes ")")

-- a pointer to a function has its star in brackets, between the result and the parameters
abbrev pub function : Said → List Said → Said
function ret params = record {
  text = ret.text ++ parameters params;
  before = ret.text ++ codes " (*";
  behind = codes ")" ++ parameters params;
}

abbrev pub said_step : Reading → Ty-F Said → Said
said_step r (Int width q) = object (before_base (taint_of r.assignment q) ++ width_word width)
said_step r Void = object (codes "void")
said_step r (Struct id q) = object (before_base (taint_of r.assignment q) ++ (codes "struct " ++ struct_name r id))
said_step r (Ptr to q) = object (to.before ++ (behind_star (taint_of r.assignment q) ++ to.behind))
said_step r (Array elem len) = object (elem.text ++ (codes " [" ++ (decimal len ++ codes "]")))
said_step r (Fun ret params) = function ret params

unfoldable pub said : Reading → Ty → Said
said r = fold-Ty Said (said_step r)

-- FUNCTION.NAME: TYPE
abbrev pub local_line : Reading → ℕ → Local → List ℕ
local_line r function l =
    name_at r.names function ++ (codes "." ++ (name_at r.names l.name ++ (codes ": " ++ ((said r l.ty).text ++ codes "\n"))))

abbrev pub function_lines : Reading → Function → List ℕ
function_lines r f = flat_map (local_line r f.name) f.locals

-- a line for each local, in the order of the source
abbrev pub local_lines : List (List ℕ) → Typed → List Taint → List ℕ
local_lines names typed assignment =
    flat_map (function_lines (reading names typed.structs assignment)) typed.functions
