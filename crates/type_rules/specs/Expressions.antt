-- Expressions: what is known of one where it stands, and which rules are broken in it.
use Rattle.std.specs.Prelude.{ℕ, Bool, true, false, ◌==◌, List, [], Option, Some, None, length, fold, slice_get, unwrap_or, if◌then◌else◌}
use Rattle.cv_word.specs.declared.registers.Taint.TheVariants.{Pub}
use Rattle.c_ast.specs.declared.qualifiers.Qual.TheVariants.{Fixed}
use Rattle.c_ast.specs.declared.qualifiers.Ty.{Ty}
use Rattle.c_ast.specs.declared.qualifiers.Ty as ty
use Rattle.c_ast.specs.declared.typed.Expr.{Expr}
use Rattle.c_ast.specs.declared.typed.ExprKind as node
use Rattle.c_ast.specs.declared.typed.UnaryOp.{UnaryOp}
use Rattle.c_ast.specs.declared.typed.UnaryOp.TheVariants as unary
use Rattle.c_ast.specs.declared.program.TypeName.{TypeName}
use Rattle.c_ast.specs.declared.program.PrefixOp.{PrefixOp}
use Rattle.c_ast.specs.declared.program.PrefixOp.TheVariants.{Negate, Complement, IsZero, Follow, Address}
use Rattle.c_ast.specs.declared.program.Expression.{Expression}
use Rattle.c_ast.specs.declared.program.ExpressionKind.TheOpen.{ExpressionKind-F, Name, Number, Character, String, Bracket, Prefix, Sizeof, Cast, Infix, Choice, Assign, Call, Index, Member, Arrow}
use Rattle.c_ast.specs.declared.program.ExpressionKind.TheFolds.{fold-Expression}
use Rattle.type_rules.specs.declared.rules.TheConstants.{K2}
use Rattle.type_rules.specs.declared.parts.Form.{Form}
use Rattle.type_rules.specs.declared.parts.Form.TheVariants.{Zero, Place, Value}
use Rattle.type_rules.specs.declared.parts.Part.{Part}
use Rattle.name_scopes.specs.declared.scopes.Entry.{Entry}
use Rattle.type_rules.specs.declared.known.Known.{Known}
use Rattle.type_rules.specs.declared.notes.Notes.{Notes}
use Rattle.type_rules.specs.declared.written.Unwritten.TheVariants.{Public, Variable}
use Rattle.type_shapes.specs.Types.{long}
use Rattle.type_shapes.specs.Sizes.{extent_of}
use Rattle.name_scopes.specs.Scopes.{meaning_in}
use Rattle.type_rules.specs.Notes.{with_string}
use Rattle.type_rules.specs.WrittenTypes.{Written, type_reader, type_name, on_type, as_object}
use Rattle.type_rules.specs.Operators.{Judged, faulty, name_node, name_form, computed, tested, followed, address, on_node, between, choice, assign, SignatureRead, signature_at, Arguments, fitted_at, with_argument, expected, call_of, index, dotted, arrowed, cast}

-- a part of an expression, and what is noted behind it
pub record Typing : Type 0 where
  pub part : Part
  pub notes : Notes

-- a part is told whether it is called
abbrev pub ExpressionRule : Type 0
ExpressionRule = Bool → Known → Notes → Typing

abbrev pub typing : ℕ → Form → Judged → Typing
typing place form n = record { part = record { place = place; form = form; node = n.node }; notes = n.notes }

-- NAMES AND CONSTANTS

unfoldable pub known_name : ℕ → Bool → Option Entry → Notes → Typing
known_name place is_called None notes = typing place Value (faulty K2 place notes)
known_name place is_called (Some e) notes = typing place (name_form e.meaning) (name_node place is_called e.ty e.meaning notes)

abbrev pub number_form : ℕ → Form
number_form value = if value == 0 then Zero else Value

abbrev pub constant : ℕ → Form → ℕ → Part
constant place form value =
    record { place = place; form = form; node = Some (record { place = place; ty = long; kind = node.Num value }) }

abbrev pub string_node : ℕ → ℕ → ℕ → Expr
string_node place string size = record { place = place; ty = ty.Array (ty.Int 1 (Fixed Pub)) size; kind = node.Str string }

-- a string's bytes with its zero byte
abbrev pub string_size : Known → ℕ → ℕ
string_size known number = unwrap_or (slice_get known.string_sizes number) 0

-- an array of characters; its number counts the strings of expressions before it
unfoldable pub string : ℕ → ℕ → ℕ → Notes → Typing
string place number size notes = record {
  part = record { place = place; form = Value; node = Some (string_node place (length notes.strings) size) };
  notes = with_string number notes;
}

-- what `sizeof` gives
abbrev pub size_node : ℕ → Known → Option Ty → Option Expr
size_node place known t = elim t [
  | None ↦ None
  | Some u ↦ Some (record { place = place; ty = long; kind = node.Num (extent_of known.extents u).size })
]

-- the type of an object without a name
unfoldable pub sized_type : Known → TypeName → Notes → Written
sized_type known of notes =
    let w : Written = type_name of known Public notes in
    on_type (as_object known (type_reader of).place) w.ty w.notes

-- PARTS

unfoldable pub on_integer : ℕ → UnaryOp → Part → Notes → Judged
on_integer place op p notes = on_node (computed place op) p notes

unfoldable pub prefix : ℕ → PrefixOp → Part → Notes → Typing
prefix place Negate p notes = typing place Value (on_integer place unary.Neg p notes)
prefix place Complement p notes = typing place Value (on_integer place unary.Not p notes)
prefix place IsZero p notes = typing place Value (on_node (tested place) p notes)
prefix place Follow p notes = typing place Place (on_node (followed place) p notes)
prefix place Address p notes = typing place Value (address place p notes)

unfoldable pub member : ℕ → ℕ → ℕ → Part → Known → Notes → Typing
member place name name_place p known notes = typing place Place (on_node (dotted known.fields place name name_place) p notes)

unfoldable pub arrow : ℕ → ℕ → ℕ → Part → Known → Notes → Typing
arrow place name name_place p known notes = typing place Place (on_node (arrowed known.fields place name name_place) p notes)

unfoldable pub argument : Known → Option Ty → ExpressionRule → Notes → Judged
argument known t rule notes =
    let p : Typing = rule false known notes in
    fitted_at p.part t p.notes

abbrev pub next_argument : Known → List Ty → Arguments → ExpressionRule → Arguments
next_argument known types so_far rule =
    let n : Judged = argument known (slice_get types so_far.done) rule so_far.notes in
    with_argument so_far.done so_far.nodes so_far.whole n.node n.notes

abbrev pub arguments : Known → List Ty → List ExpressionRule → Notes → Arguments
arguments known types rules notes =
    fold (next_argument known types) (record { done = 0; nodes = []; whole = true; notes = notes }) rules

-- the callee's rules come first, and then each argument with its parameter
unfoldable pub call : ℕ → Part → List ExpressionRule → Known → Notes → Typing
call place f rules known notes =
    let s : SignatureRead = signature_at place (length rules) f notes in
    let all : Arguments = arguments known (expected s.signature) rules s.notes in
    record {
      part = record { place = place; form = Value; node = call_of place f.node s.signature all.whole all.nodes };
      notes = all.notes;
    }

-- each kind of expression at its place: its parts from the left, then its own rule; a callee and the number of arguments
-- are judged before the arguments
unfoldable pub kind_step : ExpressionKind-F (ℕ → ExpressionRule) ExpressionRule → ℕ → ExpressionRule
kind_step (Name name) place is_called known notes = known_name place is_called (meaning_in known.scope name) notes
kind_step (Number value) place is_called known notes =
    record { part = constant place (number_form value) value; notes = notes }
kind_step (Character value) place is_called known notes = record { part = constant place Value value; notes = notes }
kind_step (String number) place is_called known notes = string place number (string_size known number) notes
-- brackets are no node, and what stands in them keeps its own place
kind_step (Bracket inner) place is_called known notes = inner is_called known notes
kind_step (Prefix op operand) place is_called known notes =
    let e : Typing = operand false known notes in
    prefix place op e.part e.notes
kind_step (Sizeof type) place is_called known notes =
    let w : Written = sized_type known type notes in
    record { part = record { place = place; form = Value; node = size_node place known w.ty }; notes = w.notes }
kind_step (Cast type operand) place is_called known notes =
    let t : Written = type_name type known Variable notes in
    let e : Typing = operand false known t.notes in
    typing place Value (cast place t.ty e.part e.notes)
kind_step (Infix op left right) place is_called known notes =
    let a : Typing = left false known notes in
    let b : Typing = right false known a.notes in
    typing place Value (between place op a.part b.part b.notes)
kind_step (Choice on first second) place is_called known notes =
    let c : Typing = on false known notes in
    let a : Typing = first false known c.notes in
    let b : Typing = second false known a.notes in
    typing place Value (choice place c.part a.part b.part b.notes)
kind_step (Assign left right) place is_called known notes =
    let to : Typing = left false known notes in
    let from : Typing = right false known to.notes in
    typing place Value (assign place to.part from.part from.notes)
kind_step (Call callee args) place is_called known notes =
    let f : Typing = callee true known notes in
    call place f.part args known f.notes
kind_step (Index array at) place is_called known notes =
    let a : Typing = array false known notes in
    let i : Typing = at false known a.notes in
    typing place Place (index place a.part i.part i.notes)
kind_step (Member object name name_place) place is_called known notes =
    let e : Typing = object false known notes in
    member place name name_place e.part known e.notes
kind_step (Arrow object name name_place) place is_called known notes =
    let e : Typing = object false known notes in
    arrow place name name_place e.part known e.notes

unfoldable pub type_of : Expression → ExpressionRule
type_of = fold-Expression (ℕ → ExpressionRule) ExpressionRule kind_step (λ e. e.kind e.place)
