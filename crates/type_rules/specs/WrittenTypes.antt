-- The type that is written: its base, its stars, and whether it is an array or a pointer to a function.
use Rattle.std.specs.Prelude.{ℕ, ◌+◌, Bool, true, false, ◌&&◌, ◌||◌, not, List, [], ◌∷◌, ◌++◌, Option, Some, None, map, fold, if◌then◌else◌}
use Rattle.cv_word.specs.declared.registers.Taint.TheVariants.{Pub, Priv}
use Rattle.c_ast.specs.declared.qualifiers.Qual.{Qual}
use Rattle.c_ast.specs.declared.qualifiers.Qual.TheVariants.{Fixed, Var}
use Rattle.c_ast.specs.declared.qualifiers.Ty.{Ty}
use Rattle.c_ast.specs.declared.qualifiers.Ty as ty
use Rattle.c_ast.specs.declared.program.Base.{Base}
use Rattle.c_ast.specs.declared.program.Base.TheVariants.{Char, Int, Long, Void, Struct}
use Rattle.c_ast.specs.declared.program.Specifier.{Specifier}
use Rattle.c_ast.specs.declared.program.Star.{Star}
use Rattle.c_ast.specs.declared.program.Shape.{Shape}
use Rattle.c_ast.specs.declared.program.Shape.TheVariants as shape
use Rattle.c_ast.specs.declared.program.Declarator.{Declarator}
use Rattle.c_ast.specs.declared.program.TypeName.{TypeName}
use Rattle.c_ast.specs.declared.program.TypeShape.TheOpen.{TypeShape-F, Plain, FunctionPointer}
use Rattle.c_ast.specs.declared.program.TypeShape.TheFolds.{fold-TypeName}
use Rattle.type_rules.specs.declared.rules.TheConstants.{K2, K3, K13}
use Rattle.name_scopes.specs.declared.scopes.Entry.{Entry}
use Rattle.name_scopes.specs.declared.scopes.Meaning.{Meaning}
use Rattle.name_scopes.specs.declared.scopes.Meaning.TheVariants.{Structure}
use Rattle.type_rules.specs.declared.known.Known.{Known}
use Rattle.type_rules.specs.declared.notes.Notes.{Notes}
use Rattle.type_rules.specs.declared.written.Unwritten.{Unwritten}
use Rattle.type_rules.specs.declared.written.Unwritten.TheVariants.{Public, Variable}
use Rattle.type_shapes.specs.Types.{is_void, is_array, is_struct}
use Rattle.type_shapes.specs.Sizes.{is_sized, is_array_of}
use Rattle.name_scopes.specs.Scopes.{meaning_in}
use Rattle.type_rules.specs.Notes.{broken, broken_if, with_vars}

-- a type that was read, or none where a rule is broken in it, and what is noted behind it
pub record Written : Type 0 where
  pub ty : Option Ty
  pub notes : Notes

abbrev pub written : Ty → Notes → Written
written t notes = record { ty = Some t; notes = notes }

abbrev pub no_type : Notes → Written
no_type notes = record { ty = None; notes = notes }

-- QUALIFIERS. The variables are numbered from the outermost level inwards.

abbrev pub level : Unwritten → Bool → ℕ → Qual
level u true n = Fixed Priv
level Public false n = Fixed Pub
level Variable false n = Var n

-- how many variables a level takes
abbrev pub taken : Unwritten → Bool → ℕ
taken Public is_private = 0
taken Variable is_private = if is_private then 0 else 1

abbrev pub taken_by : Unwritten → List Star → ℕ
taken_by u [] = 0
taken_by u (s ∷ ss) = taken u s.is_private + taken_by u ss

-- the stars stand from the base outwards
abbrev pub pointers : Unwritten → ℕ → List Star → Ty → Ty
pointers u n [] t = t
pointers u n (s ∷ ss) t = pointers u n ss (ty.Ptr t (level u s.is_private (n + taken_by u ss)))

-- BASES

abbrev pub structure_type : Qual → Meaning → Option Ty
structure_type q (Structure number) = Some (ty.Struct number q)
structure_type q other = None

abbrev pub tagged_type : Qual → Option Entry → Option Ty
tagged_type q None = None
tagged_type q (Some e) = structure_type q e.meaning

abbrev pub tagged : ℕ → Option Ty → Notes → Written
tagged place (Some t) notes = written t notes
tagged place None notes = no_type (broken K2 place notes)

-- a struct that isn't known is K2 at its name
abbrev pub base_type : List Entry → Qual → Base → Notes → Written
base_type tags q Char notes = written (ty.Int 1 q) notes
base_type tags q Int notes = written (ty.Int 4 q) notes
base_type tags q Long notes = written (ty.Int 8 q) notes
base_type tags q Void notes = written ty.Void notes
base_type tags q (Struct name place) notes = tagged place (tagged_type q (meaning_in tags name)) notes

-- STARS

abbrev pub is_empty : List Star → Bool
is_empty [] = true
is_empty (s ∷ ss) = false

-- K3: a pointee is void
abbrev pub starred_type : ℕ → Unwritten → ℕ → List Star → Ty → Notes → Written
starred_type at u n stars base notes =
    if is_void base && not (is_empty stars) then no_type (broken K3 at notes)
    else written (pointers u n stars base) notes

-- a rule of a type is asked where there is one
abbrev pub on_type : (Ty → Notes → Written) → Option Ty → Notes → Written
on_type rule None notes = no_type notes
on_type rule (Some t) notes = rule t notes

-- a base with its stars
unfoldable pub plain : Known → Unwritten → ℕ → Specifier → List Star → Notes → Written
plain known u at specifier stars notes =
    let base : ℕ = notes.vars + taken_by u stars in
    let behind : ℕ = base + taken u specifier.is_private in
    let w : Written = base_type known.tags (level u specifier.is_private base) specifier.base (with_vars behind notes) in
    on_type (starred_type at u notes.vars stars) w.ty w.notes

-- WHAT A TYPE MAY STAND FOR

-- K3: an object, a member or the operand of `sizeof` is void or a struct that isn't defined yet
unfoldable pub as_object : Known → ℕ → Ty → Notes → Written
as_object known at t notes = if is_sized known.extents t then written t notes else no_type (broken K3 at notes)

abbrev pub is_wrong_parameter : Known → Ty → Bool
is_wrong_parameter known t = not (is_sized known.extents t) || is_array t

-- K3: a parameter is void, a struct that isn't defined yet, or an array. K13: it is a struct by value.
unfoldable pub as_parameter : Known → ℕ → Ty → Notes → Written
as_parameter known at t notes =
    let told : Notes = broken_if (is_wrong_parameter known t) K3 at (broken_if (is_struct t) K13 at notes) in
    if is_wrong_parameter known t || is_struct t then no_type told else written t told

-- K13: a result is a struct by value
unfoldable pub as_result : ℕ → Ty → Notes → Written
as_result at t notes = if is_struct t then no_type (broken K13 at notes) else written t notes

-- POINTERS TO FUNCTIONS. Where nothing is written, their results and parameters are public.

-- a type without a name: its first byte, and how it is read
pub record TypeReader : Type 0 where
  pub place : ℕ
  pub read : Known → Unwritten → Notes → Written

unfoldable pub parameter_type : Known → TypeReader → Notes → Written
parameter_type known reader notes =
    let w : Written = reader.read known Public notes in
    on_type (as_parameter known reader.place) w.ty w.notes

-- the types of parameters so far
pub record Parameters : Type 0 where
  pub types : List Ty
  pub whole : Bool
  pub notes : Notes

abbrev pub with_parameter : List Ty → Bool → Option Ty → Notes → Parameters
with_parameter types whole None notes = record { types = types; whole = false; notes = notes }
with_parameter types whole (Some t) notes = record { types = types ++ t ∷ []; whole = whole; notes = notes }

abbrev pub next_parameter : Known → Parameters → TypeReader → Parameters
next_parameter known so_far reader =
    let w : Written = parameter_type known reader so_far.notes in
    with_parameter so_far.types so_far.whole w.ty w.notes

abbrev pub parameters : Known → List TypeReader → Notes → Parameters
parameters known readers notes = fold (next_parameter known) (record { types = []; whole = true; notes = notes }) readers

abbrev pub pointer_to_function : Qual → Option Ty → List Ty → Bool → Option Ty
pointer_to_function q None types whole = None
pointer_to_function q (Some ret) types whole = if whole then Some (ty.Ptr (ty.Fun ret types) q) else None

unfoldable pub result_type : Known → ℕ → Specifier → List Star → Notes → Written
result_type known at specifier stars notes =
    let w : Written = plain known Public at specifier stars notes in
    on_type (as_result at) w.ty w.notes

unfoldable pub function_pointer : Known → Unwritten → ℕ → Specifier → List Star → Bool → List TypeReader → Notes → Written
function_pointer known u at specifier stars is_private readers notes =
    let ret : Written = result_type known at specifier stars (with_vars (notes.vars + taken u is_private) notes) in
    let ps : Parameters = parameters known readers ret.notes in
    record { ty = pointer_to_function (level u is_private notes.vars) ret.ty ps.types ps.whole; notes = ps.notes }

-- TYPES WITHOUT A NAME. Their rules are told at their first byte.

abbrev pub ShapeReader : Type 0
ShapeReader = ℕ → Specifier → List Star → Known → Unwritten → Notes → Written

unfoldable pub shape_step : TypeShape-F ShapeReader TypeReader → ShapeReader
shape_step Plain at specifier stars known u notes = plain known u at specifier stars notes
shape_step (FunctionPointer is_private readers) at specifier stars known u notes =
    function_pointer known u at specifier stars is_private readers notes

unfoldable pub type_reader : TypeName → TypeReader
type_reader = fold-TypeName ShapeReader TypeReader shape_step
    (λ t. record { place = t.specifier.place; read = t.shape t.specifier.place t.specifier t.stars })

abbrev pub type_name : TypeName → Known → Unwritten → Notes → Written
type_name t = (type_reader t).read

-- DECLARED NAMES. Their rules are told at the name.

-- K3: an array's element is void or a struct that isn't defined yet, its length is 0 or too great, or it is too large
unfoldable pub array_type : Known → ℕ → ℕ → Ty → Notes → Written
array_type known at len elem notes =
    if is_array_of known.extents elem len then written (ty.Array elem len) notes else no_type (broken K3 at notes)

abbrev pub shaped : Known → Unwritten → ℕ → Specifier → List Star → Shape → Notes → Written
shaped known u at specifier stars shape.Plain notes = plain known u at specifier stars notes
shaped known u at specifier stars (shape.Array len) notes =
    let w : Written = plain known u at specifier stars notes in
    on_type (array_type known at len) w.ty w.notes
shaped known u at specifier stars (shape.FunctionPointer is_private types) notes =
    function_pointer known u at specifier stars is_private (map type_reader types) notes

unfoldable pub declarator_type : Known → Unwritten → Specifier → Declarator → Notes → Written
declarator_type known u specifier d notes = shaped known u d.place specifier d.stars d.shape notes

-- the type of an object that is declared
unfoldable pub object_type : Known → Unwritten → Specifier → Declarator → Notes → Written
object_type known u specifier d notes =
    let w : Written = declarator_type known u specifier d notes in
    on_type (as_object known d.place) w.ty w.notes
