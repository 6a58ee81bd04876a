-- Declarations of a file: structs, objects and what functions are declared as.
use Rattle.std.specs.Prelude.{ℕ, ◌-◌, ◌^◌, Bool, true, false, ◌&&◌, ◌||◌, ◌==◌, nat_lt, nat_le, List, [], ◌∷◌, ◌++◌, Option, Some, None, length, map, fold, slice_get, unwrap_or, if◌then◌else◌}
use Rattle.cv_word.specs.Words.{word_bytes}
use Rattle.c_ast.specs.declared.qualifiers.Ty.{Ty, out-Ty}
use Rattle.c_ast.specs.declared.qualifiers.Ty as ty
use Rattle.c_ast.specs.declared.qualifiers.Ty.TheOpen.{Ty-F, Int, Array}
use Rattle.c_ast.specs.declared.program.Specifier.{Specifier}
use Rattle.c_ast.specs.declared.program.Star.{Star}
use Rattle.c_ast.specs.declared.program.Shape.{Shape}
use Rattle.c_ast.specs.declared.program.Shape.TheVariants.{FunctionPointer}
use Rattle.c_ast.specs.declared.program.Declarator.{Declarator}
use Rattle.c_ast.specs.declared.program.Declaration.{Declaration}
use Rattle.c_ast.specs.declared.program.Initialised.{Initialised}
use Rattle.c_ast.specs.declared.program.MemberDeclaration.{MemberDeclaration}
use Rattle.c_ast.specs.declared.program.StructDefinition.{StructDefinition}
use Rattle.c_ast.specs.declared.program.Parameter.{Parameter}
use Rattle.c_ast.specs.declared.program.Header.{Header}
use Rattle.c_ast.specs.declared.program.PrefixOp.{PrefixOp}
use Rattle.c_ast.specs.declared.program.PrefixOp.TheVariants.{Negate}
use Rattle.c_ast.specs.declared.program.Expression.{Expression}
use Rattle.c_ast.specs.declared.program.ExpressionKind.{ExpressionKind, out-ExpressionKind}
use Rattle.c_ast.specs.declared.program.ExpressionKind.TheOpen.{ExpressionKind-F, Number, Character, String, Prefix}
use Rattle.c_ast.specs.declared.typed.Local.{Local}
use Rattle.c_ast.specs.declared.typed.StructDef.{StructDef}
use Rattle.c_ast.specs.declared.typed.Global.{Global}
use Rattle.type_rules.specs.declared.rules.TheConstants.{K1, K3, K6, K12, K13}
use Rattle.type_rules.specs.declared.parts.Form.TheVariants.{Zero, Value}
use Rattle.name_scopes.specs.declared.scopes.Entry.{Entry}
use Rattle.name_scopes.specs.declared.scopes.Meaning.{Meaning}
use Rattle.name_scopes.specs.declared.scopes.Meaning.TheVariants as meaning
use Rattle.type_shapes.specs.declared.sizes.Extent.{Extent}
use Rattle.type_rules.specs.declared.known.Known.{Known}
use Rattle.type_rules.specs.declared.notes.Notes.{Notes}
use Rattle.type_rules.specs.declared.files.File.{File}
use Rattle.type_rules.specs.declared.declarations.HeaderType.{HeaderType}
use Rattle.type_rules.specs.declared.declarations.Start.{Start}
use Rattle.type_rules.specs.declared.declarations.Start.TheVariants.{Amount, Characters, Other}
use Rattle.type_rules.specs.declared.written.Unwritten.TheVariants.{Public}
use Rattle.type_shapes.specs.Types.{long}
use Rattle.type_shapes.specs.Sizes.{greatest_size, nothing, extent_of, with_member, closed}
use Rattle.name_scopes.specs.Scopes.{is_declared, declare}
use Rattle.type_rules.specs.Notes.{broken, broken_if, with_typed}
use Rattle.type_rules.specs.WrittenTypes.{Written, written, no_type, on_type, declarator_type, object_type, as_parameter, result_type}
use Rattle.type_rules.specs.Operators.{fits}
use Rattle.type_rules.specs.Expressions.{type_of, string_size}

-- STRUCTS

-- the outermost of some levels: the last star's, or the base's where there is no star
abbrev pub is_last_private : Bool → List Star → Bool
is_last_private base [] = base
is_last_private base (s ∷ ss) = is_last_private s.is_private ss

-- an array's outermost level is its element's
abbrev pub is_outermost_private : Bool → Shape → Bool
is_outermost_private plain (FunctionPointer is_private types) = is_private
is_outermost_private plain other = plain

abbrev pub is_private_member : Specifier → Declarator → Bool
is_private_member specifier d = is_outermost_private (is_last_private specifier.is_private d.stars) d.shape

-- K13: `private` is written at a member's outermost level, whatever else its type breaks
abbrev pub field_type : Known → Specifier → Declarator → Notes → Written
field_type known specifier d notes =
    let o : Written = object_type known Public specifier d notes in
    if is_private_member specifier d then no_type (broken K13 d.place o.notes) else o

-- the members of a struct so far, and those that have types
pub record Members : Type 0 where
  pub fields : List Entry
  pub typed : List Local
  pub notes : Notes

-- K1 at a member's name that the struct has already
abbrev pub declare_member : Known → Specifier → Members → Declarator → Members
declare_member known specifier ms d =
    let w : Written = field_type known specifier d ms.notes in
    record {
      fields = declare ms.fields d.name (meaning.Member (length ms.fields)) w.ty;
      typed = with_typed d.name d.place w.ty ms.typed;
      notes = broken_if (is_declared ms.fields d.name) K1 d.place w.notes;
    }

abbrev pub declare_members : Known → Members → MemberDeclaration → Members
declare_members known ms m = fold (declare_member known m.specifier) ms m.declarators

abbrev pub all_members : Known → Members → List MemberDeclaration → Members
all_members known ms all = fold (declare_members known) ms all

abbrev pub with_local_member : List Extent → Extent → Local → Extent
with_local_member structs so_far l = with_member structs so_far l.ty

-- the members in order, aligned, and the size rounded up to the greatest alignment
abbrev pub extent_of_members : List Extent → List Local → Extent
extent_of_members structs typed = closed (fold (with_local_member structs) nothing typed)

-- a struct with a fault in a member takes nothing
abbrev pub members_extent : List Extent → List Entry → List Local → Extent
members_extent structs fields typed = if length typed == length fields then extent_of_members structs typed else nothing

abbrev pub is_too_large : Extent → Bool
is_too_large e = nat_lt greatest_size e.size

-- nor does one that is too large take anything
abbrev pub kept : Extent → Extent
kept e = if is_too_large e then nothing else e

-- a struct so far is known inside of its definition, and defined behind it
abbrev pub with_tag : ℕ → Known → Known
with_tag name known = record known { tags = declare known.tags name (meaning.Structure (length known.structs)) None }

abbrev pub with_structure : StructDef → List Entry → Extent → Known → Known
with_structure definition fields extent known = record known {
  structs = known.structs ++ definition ∷ [];
  fields = known.fields ++ fields ∷ [];
  extents = known.extents ++ extent ∷ [];
}

-- what is known behind a declaration, and what is noted
pub record Declared : Type 0 where
  pub known : Known
  pub notes : Notes

-- K1 at a struct's name that is declared already; K3 there where the struct is too large
abbrev pub declare_struct : Known → StructDefinition → Notes → Declared
declare_struct known s notes =
    let inside : Known = with_tag s.name known in
    let told : Notes = broken_if (is_declared known.tags s.name) K1 s.place notes in
    let ms : Members = all_members inside (record { fields = []; typed = []; notes = told }) s.members in
    let extent : Extent = members_extent known.extents ms.fields ms.typed in
    let definition : StructDef = record { name = s.name; place = s.place; members = ms.typed } in
    record {
      known = with_structure definition ms.fields (kept extent) inside;
      notes = broken_if (is_too_large extent) K3 s.place ms.notes;
    }

-- HEADERS OF FUNCTIONS

-- the parameters of a function so far: what their names mean, and those that have types
pub record ParametersRead : Type 0 where
  pub scope : List Entry
  pub typed : List Local
  pub notes : Notes

-- K1 at a parameter's name that another has
abbrev pub declare_parameter : Known → ParametersRead → Parameter → ParametersRead
declare_parameter known so_far p =
    let d : Declarator = p.declarator in
    let t : Written = declarator_type known Public p.specifier d so_far.notes in
    let w : Written = on_type (as_parameter known d.place) t.ty t.notes in
    record {
      scope = declare so_far.scope d.name (meaning.Local (length so_far.scope)) w.ty;
      typed = with_typed d.name d.place w.ty so_far.typed;
      notes = broken_if (is_declared so_far.scope d.name) K1 d.place w.notes;
    }

abbrev pub declare_parameters : Known → ParametersRead → List Parameter → ParametersRead
declare_parameters known so_far all = fold (declare_parameter known) so_far all

-- what a function is declared as, and what is noted
pub record HeaderRead : Type 0 where
  pub header : HeaderType
  pub notes : Notes

abbrev pub header_type : Known → Header → Notes → HeaderRead
header_type known h notes =
    let ret : Written = result_type known h.place h.specifier h.stars notes in
    let ps : ParametersRead = declare_parameters known (record { scope = []; typed = []; notes = ret.notes }) h.parameters in
    record { header = record { ret = ret.ty; scope = ps.scope; typed = ps.typed }; notes = ps.notes }

abbrev pub types_of : List Local → List Ty
types_of locals = map (λ l. l.ty) locals

-- the function's type, where the result and each parameter has one
abbrev pub function_of : HeaderType → Option Ty
function_of h = elim h.ret [
  | None ↦ None
  | Some ret ↦ if length h.typed == length h.scope then Some (ty.Fun ret (types_of h.typed)) else None
]

-- GLOBALS

-- modulo 2^64
abbrev pub negated : ℕ → ℕ
negated value = if value == 0 then 0 else 2 ^ 64 - value

abbrev pub negated_layer : ExpressionKind-F ExpressionKind Expression → Start
negated_layer (Number value) = Amount Value (negated value)
negated_layer (Character value) = Amount Value (negated value)
negated_layer other = Other

abbrev pub negated_start : Expression → Start
negated_start e = negated_layer (out-ExpressionKind e.kind)

abbrev pub number_start : ℕ → Start
number_start value = Amount (if value == 0 then Zero else Value) value

abbrev pub prefix_start : PrefixOp → Expression → Start
prefix_start Negate e = negated_start e
prefix_start other e = Other

abbrev pub start_layer : ExpressionKind-F ExpressionKind Expression → Start
start_layer (Number value) = number_start value
start_layer (Character value) = Amount Value value
start_layer (String string) = Characters string
start_layer (Prefix op e) = prefix_start op e
start_layer other = Other

-- what may initialise a global: a number or a character, one of them after `-`, or a string
abbrev pub start_of : Expression → Start
start_of e = start_layer (out-ExpressionKind e.kind)

abbrev pub is_character_layer : Ty-F Ty → Bool
is_character_layer (Int width q) = width == 1
is_character_layer other = false

abbrev pub is_character : Ty → Bool
is_character t = is_character_layer (out-Ty t)

abbrev pub character_layer : ℕ → Ty-F Ty → Bool
character_layer size (Array elem len) = is_character elem && nat_le size len
character_layer size other = false

-- an array of so many characters or more
abbrev pub holds_characters : ℕ → Ty → Bool
holds_characters size t = character_layer size (out-Ty t)

-- the start bytes of a global, none where a rule is broken, and what is noted behind them
pub record StartBytes : Type 0 where
  pub bytes : List ℕ
  pub notes : Notes

abbrev pub no_bytes : Notes → StartBytes
no_bytes notes = record { bytes = []; notes = notes }

-- a string and its zero byte
abbrev pub string_bytes : List (List ℕ) → ℕ → List ℕ
string_bytes strings string = unwrap_or (slice_get strings string) [] ++ 0 ∷ []

-- K6 at a number that doesn't fit; K12 at the name of what a string doesn't fit, and of what has another initialiser.
-- Rules that are broken inside that one are told too.
abbrev pub start_bytes : List (List ℕ) → Known → ℕ → Start → Expression → Ty → Notes → StartBytes
start_bytes strings known place (Amount form value) e t notes =
    if fits form long t then record { bytes = word_bytes (extent_of known.extents t).size value; notes = notes }
    else no_bytes (broken K6 e.place notes)
start_bytes strings known place (Characters string) e t notes =
    if holds_characters (string_size known string) t
    then record { bytes = string_bytes strings string; notes = notes }
    else no_bytes (broken K12 place notes)
start_bytes strings known place Other e t notes = no_bytes (type_of e false known (broken K12 place notes)).notes

-- K12 doesn't ask for the global's type
abbrev pub untyped_start : ℕ → Start → Notes → Notes
untyped_start place Other notes = broken K12 place notes
untyped_start place start notes = notes

abbrev pub start_of_global : List (List ℕ) → Known → ℕ → Option Expression → Option Ty → Notes → StartBytes
start_of_global strings known place None t notes = no_bytes notes
start_of_global strings known place (Some e) t notes =
    elim t [ None ↦ no_bytes (untyped_start place (start_of e) notes) | Some ty ↦ start_bytes strings known place (start_of e) e ty notes ]

abbrev pub with_global : ℕ → ℕ → Option Ty → List ℕ → List Global → List Global
with_global name place None bytes globals = globals
with_global name place (Some t) bytes globals = globals ++ record { name = name; place = place; ty = t; start = bytes } ∷ []

-- K1 at a name that the file has already
abbrev pub declare_global : List (List ℕ) → Specifier → File → Initialised → File
declare_global strings specifier file i =
    let d : Declarator = i.declarator in
    let w : Written = object_type file.known Public specifier d file.notes in
    let told : Notes = broken_if (is_declared file.defined d.name || is_declared file.prototypes d.name) K1 d.place w.notes in
    let global : Meaning = meaning.Global (length file.globals) in
    let known : Known = record file.known { scope = declare file.known.scope d.name global w.ty } in
    let start : StartBytes = start_of_global strings known d.place i.start w.ty told in
    record file {
      known = known;
      defined = declare file.defined d.name global w.ty;
      globals = with_global d.name d.place w.ty start.bytes file.globals;
      notes = start.notes;
    }

abbrev pub declare_globals : List (List ℕ) → Declaration → File → File
declare_globals strings d file = fold (declare_global strings d.specifier) file d.declarators
