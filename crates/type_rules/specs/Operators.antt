-- The rules of operators: what each asks of operands that have types, and the node that it gives.
use Rattle.std.specs.Prelude.{ℕ, ◌+◌, Bool, true, false, ◌&&◌, ◌||◌, ◌==◌, List, [], ◌∷◌, ◌++◌, Option, Some, None, is_some, length, slice_get, if◌then◌else◌}
use Rattle.c_ast.specs.declared.qualifiers.Qual.{Qual}
use Rattle.c_ast.specs.declared.qualifiers.Ty.{Ty}
use Rattle.c_ast.specs.declared.typed.Expr.{Expr}
use Rattle.c_ast.specs.declared.typed.ExprKind.{ExprKind}
use Rattle.c_ast.specs.declared.typed.ExprKind as node
use Rattle.c_ast.specs.declared.typed.UnaryOp.{UnaryOp}
use Rattle.c_ast.specs.declared.typed.UnaryOp.TheVariants as unary
use Rattle.c_ast.specs.declared.typed.BinaryOp.{BinaryOp}
use Rattle.c_ast.specs.declared.typed.BinaryOp.TheVariants as binary
use Rattle.c_ast.specs.declared.typed.LogicOp.{LogicOp}
use Rattle.c_ast.specs.declared.typed.LogicOp.TheVariants as logic
use Rattle.c_ast.specs.declared.program.InfixOp.{InfixOp}
use Rattle.c_ast.specs.declared.program.InfixOp.TheVariants.{Either, Both, BitOr, BitXor, BitAnd, Equal, NotEqual, Less, LessEqual, Greater, GreaterEqual, ShiftLeft, ShiftRight, Add, Subtract, Multiply, Divide, Remainder}
use Rattle.type_rules.specs.declared.rules.TheConstants.{K2, K4, K5, K6, K7, K10}
use Rattle.type_rules.specs.declared.operators.Operator.{Operator}
use Rattle.type_rules.specs.declared.operators.Operator.TheVariants.{Logic, Binary}
use Rattle.type_rules.specs.declared.operators.Sort.{Sort}
use Rattle.type_rules.specs.declared.operators.Sort.TheVariants.{Decides, Compares, Sums, Subtracts, Computes}
use Rattle.type_rules.specs.declared.parts.Form.{Form}
use Rattle.type_rules.specs.declared.parts.Form.TheVariants.{Zero, Place, Value}
use Rattle.type_rules.specs.declared.parts.Part.{Part}
use Rattle.name_scopes.specs.declared.scopes.Entry.{Entry}
use Rattle.name_scopes.specs.declared.scopes.Meaning.{Meaning}
use Rattle.name_scopes.specs.declared.scopes.Meaning.TheVariants.{Local, Global, Function, Gate, Structure, Member}
use Rattle.type_rules.specs.declared.notes.Notes.{Notes}
use Rattle.type_rules.specs.declared.operators.FoundMember.{FoundMember}
use Rattle.type_shapes.specs.declared.types.Signature.{Signature}
use Rattle.type_shapes.specs.declared.types.StructType.{StructType}
use Rattle.type_shapes.specs.Types.{long, is_integer, is_pointer, is_scalar, is_array, same_type, pointer_to, value_type, passed_type, object_behind, signature_of, struct_of, under}
use Rattle.name_scopes.specs.Scopes.{meaning_in, or_else}
use Rattle.type_rules.specs.Notes.{broken, unless}

-- a node, or none where a rule is broken, and what is noted behind it
pub record Judged : Type 0 where
  pub node : Option Expr
  pub notes : Notes

abbrev pub given : ℕ → Ty → ExprKind → Notes → Judged
given place t kind notes = record { node = Some (record { place = place; ty = t; kind = kind }); notes = notes }

abbrev pub untyped : Notes → Judged
untyped notes = record { node = None; notes = notes }

abbrev pub faulty : ℕ → ℕ → Notes → Judged
faulty rule place notes = untyped (broken rule place notes)

-- FITTING

abbrev pub is_zero : Form → Bool
is_zero Zero = true
is_zero other = false

abbrev pub is_place : Form → Bool
is_place Place = true
is_place other = false

-- an integer fits an integer, 0 any pointer, and a pointer, an array or a function's name a pointer of its shape
unfoldable pub fits : Form → Ty → Ty → Bool
fits form from to =
    (is_integer from && is_integer to) || (is_zero form && is_pointer to)
    || (is_pointer (passed_type from) && same_type false (passed_type from) to)

-- a condition is an integer or a pointer, which an array gives too
unfoldable pub is_condition : Ty → Bool
is_condition t = is_scalar t || is_array t

-- casts go between integers and pointers of any kind too
unfoldable pub cast_fits : Form → Ty → Ty → Bool
cast_fits form from to = (is_condition from && is_scalar to) || fits form from to

-- a pointer's type, if a value fits it
unfoldable pub fitted_pointer : Form → Ty → Ty → Option Ty
fitted_pointer form from to = if is_pointer to && fits form from to then Some to else None

-- the type of `?:`: a long of two integers; else the first branch's pointer type where the second fits it; else the
-- second's where the first fits it
unfoldable pub joined : Form → Ty → Form → Ty → Option Ty
joined form_a a form_b b =
    if is_integer a && is_integer b then Some long
    else or_else (fitted_pointer form_b b (value_type a)) (fitted_pointer form_a a (value_type b))

-- OPERATORS BETWEEN TWO OPERANDS

-- pointers of one shape, or a pointer and 0
unfoldable pub compare_pointers : Form → Ty → Form → Ty → Bool
compare_pointers form_a a form_b b =
    (is_pointer a && is_pointer b && same_type false a b) || (is_pointer a && is_zero form_b) || (is_zero form_a && is_pointer b)

unfoldable pub are_integers : Ty → Ty → Bool
are_integers a b = is_integer a && is_integer b

-- what sums may move: an array, or a pointer to an object
unfoldable pub can_step : Ty → Bool
can_step t = is_some (object_behind t)

unfoldable pub difference : Ty → Ty → Option Ty
difference a b = if are_integers a b then Some long else if can_step a && is_integer b then Some (value_type a) else None

unfoldable pub sum_type : Ty → Ty → Option Ty
sum_type a b =
    if are_integers a b then Some long
    else if can_step a && is_integer b then Some (value_type a)
    else if is_integer a && can_step b then Some (value_type b)
    else None

unfoldable pub decision : Ty → Ty → Option Ty
decision a b = if is_condition a && is_condition b then Some long else None

unfoldable pub comparison : Form → Ty → Form → Ty → Option Ty
comparison form_a a form_b b =
    if are_integers a b || compare_pointers form_a (value_type a) form_b (value_type b) then Some long else None

unfoldable pub arithmetic : Ty → Ty → Option Ty
arithmetic a b = if are_integers a b then Some long else None

abbrev pub sort_of : InfixOp → Sort
sort_of Either = Decides
sort_of Both = Decides
sort_of Equal = Compares
sort_of NotEqual = Compares
sort_of Less = Compares
sort_of LessEqual = Compares
sort_of Greater = Compares
sort_of GreaterEqual = Compares
sort_of Add = Sums
sort_of Subtract = Subtracts
sort_of other = Computes

-- the type that two operands give, if they may stand so
unfoldable pub infix_type : Sort → Form → Ty → Form → Ty → Option Ty
infix_type Decides form_a a form_b b = decision a b
infix_type Compares form_a a form_b b = comparison form_a a form_b b
infix_type Sums form_a a form_b b = sum_type a b
infix_type Subtracts form_a a form_b b = difference a b
infix_type Computes form_a a form_b b = arithmetic a b

-- an operand that is right whatever the other is
unfoldable pub is_right : Sort → Ty → Bool
is_right Decides t = is_condition t
is_right other t = is_integer t

-- an operand that can be right beside some other
unfoldable pub can_be_right : Sort → Ty → Bool
can_be_right Decides t = is_condition t
can_be_right Compares t = is_condition t
can_be_right Sums t = is_integer t || can_step t
can_be_right Subtracts t = is_integer t || can_step t
can_be_right Computes t = is_integer t

-- an operator by the name that it has in the typed tree
abbrev pub operator_of : InfixOp → Operator
operator_of Either = Logic logic.Either
operator_of Both = Logic logic.Both
operator_of BitOr = Binary binary.Or
operator_of BitXor = Binary binary.Xor
operator_of BitAnd = Binary binary.And
operator_of Equal = Binary binary.Eq
operator_of NotEqual = Binary binary.Ne
operator_of Less = Binary binary.Less
operator_of LessEqual = Binary binary.LessEq
operator_of Greater = Binary binary.Greater
operator_of GreaterEqual = Binary binary.GreaterEq
operator_of ShiftLeft = Binary binary.Shl
operator_of ShiftRight = Binary binary.Shr
operator_of Add = Binary binary.Add
operator_of Subtract = Binary binary.Sub
operator_of Multiply = Binary binary.Mul
operator_of Divide = Binary binary.Div
operator_of Remainder = Binary binary.Rem

abbrev pub infix_kind : Operator → Expr → Expr → ExprKind
infix_kind (Logic op) a b = node.Logic op a b
infix_kind (Binary op) a b = node.Binary op a b

unfoldable pub wrong_operand : Sort → Expr → Expr → ℕ
wrong_operand sort a b = if is_right sort a.ty then b.place else a.place

-- K4 at the first operand that isn't right by itself
unfoldable pub infix_node : ℕ → InfixOp → Form → Expr → Form → Expr → Notes → Judged
infix_node place op form_a a form_b b notes = elim (infix_type (sort_of op) form_a a.ty form_b b.ty) [
  | None ↦ faulty K4 (wrong_operand (sort_of op) a b) notes
  | Some t ↦ given place t (infix_kind (operator_of op) a b) notes
]

-- one operand has no type: K4 at the other where it would be wrong beside any operand
unfoldable pub lone_operand : InfixOp → Option Expr → Notes → Judged
lone_operand op None notes = untyped notes
lone_operand op (Some e) notes = untyped (unless (can_be_right (sort_of op) e.ty) K4 e.place notes)

unfoldable pub between : ℕ → InfixOp → Part → Part → Notes → Judged
between place op a b notes = elim a.node [
  | None ↦ lone_operand op b.node notes
  | Some x ↦ elim b.node [ None ↦ lone_operand op (Some x) notes | Some y ↦ infix_node place op a.form x b.form y notes ]
]

-- OPERATORS BEFORE AN OPERAND

-- K4 unless the operand is an integer
unfoldable pub computed : ℕ → UnaryOp → Expr → Notes → Judged
computed place op e notes = if is_integer e.ty then given place long (node.Unary op e) notes else faulty K4 e.place notes

-- K4 unless it is an integer or a pointer
unfoldable pub tested : ℕ → Expr → Notes → Judged
tested place e notes =
    if is_condition e.ty then given place long (node.Unary unary.IsZero e) notes else faulty K4 e.place notes

-- K10 at the whole unless it is an array or a pointer to an object
unfoldable pub followed : ℕ → Expr → Notes → Judged
followed place e notes = elim (object_behind e.ty) [ None ↦ faulty K10 place notes | Some t ↦ given place t (node.Deref e) notes ]

unfoldable pub address_type : Ty → Ty
address_type t = if is_array t then value_type t else pointer_to t

abbrev pub addressed : ℕ → Expr → Expr
addressed place e = record { place = place; ty = address_type e.ty; kind = node.Addr e }

-- K5 at the operand unless it is a place
unfoldable pub address : ℕ → Part → Notes → Judged
address place p notes =
    if is_place p.form then elim p.node [ None ↦ untyped notes | Some e ↦ record { node = Some (addressed place e); notes = notes } ]
    else faulty K5 p.place notes

-- a rule of one operand is asked where it has a type
abbrev pub on_node : (Expr → Notes → Judged) → Part → Notes → Judged
on_node rule p notes = elim p.node [ None ↦ untyped notes | Some e ↦ rule e notes ]

-- ASSIGNMENTS, CASTS AND CHOICES

unfoldable pub is_assignable : Part → Bool
is_assignable p = elim p.node [ None ↦ is_place p.form | Some e ↦ is_place p.form && is_scalar e.ty ]

unfoldable pub stored : ℕ → Expr → Form → Expr → Notes → Judged
stored place to form from notes =
    if fits form from.ty to.ty then given place to.ty (node.Assign to from) notes else faulty K6 from.place notes

-- K5 at the left side unless it is a place of integer or pointer type; else K6 at a value that doesn't fit it
unfoldable pub assign : ℕ → Part → Part → Notes → Judged
assign place to from notes =
    if is_assignable to then elim to.node [
      | None ↦ untyped notes
      | Some l ↦ elim from.node [
        | None ↦ untyped notes
        | Some r ↦ stored place l from.form r notes
      ]
    ]
    else faulty K5 to.place notes

unfoldable pub cast_node : ℕ → Ty → Form → Expr → Notes → Judged
cast_node place t form e notes = if cast_fits form e.ty t then given place t (node.Cast e) notes else faulty K6 e.place notes

-- K6 at an operand that can't be cast so
unfoldable pub cast : ℕ → Option Ty → Part → Notes → Judged
cast place to p notes = elim to [
  | None ↦ untyped notes
  | Some t ↦ elim p.node [
    | None ↦ untyped notes
    | Some e ↦ cast_node place t p.form e notes
  ]
]

-- K4 at a condition that is no integer or pointer
unfoldable pub condition : Part → Notes → Judged
condition p notes = elim p.node [
  | None ↦ untyped notes
  | Some e ↦ if is_condition e.ty then record { node = Some e; notes = notes } else faulty K4 e.place notes
]

abbrev pub cond_node : ℕ → Ty → Expr → Expr → Expr → Expr
cond_node place t on first second = record { place = place; ty = t; kind = node.Cond on first second }

abbrev pub chosen : ℕ → Option Ty → Option Expr → Expr → Expr → Option Expr
chosen place (Some t) (Some c) a b = Some (cond_node place t c a b)
chosen place t on a b = None

unfoldable pub branches : ℕ → Option Expr → Form → Expr → Form → Expr → Notes → Judged
branches place on form_a a form_b b notes =
    let t : Option Ty = joined form_a a.ty form_b b.ty in
    record { node = chosen place t on a b; notes = unless (is_some t) K6 b.place notes }

-- K6 at the second branch unless the two go together
unfoldable pub choice : ℕ → Part → Part → Part → Notes → Judged
choice place on a b notes =
    let c : Judged = condition on notes in
    elim a.node [
      | None ↦ untyped c.notes
      | Some x ↦ elim b.node [
        | None ↦ untyped c.notes
        | Some y ↦ branches place c.node a.form x b.form y c.notes
      ]
    ]

-- INDICES AND MEMBERS

abbrev pub index_node : ℕ → Ty → Expr → Option Expr → Notes → Judged
index_node place t of at notes = elim at [ None ↦ untyped notes | Some e ↦ given place t (node.Index of e) notes ]

unfoldable pub indexed : ℕ → Option Expr → Expr → Notes → Judged
indexed place at of notes = elim (object_behind of.ty) [
  | None ↦ faulty K10 place notes
  | Some t ↦ index_node place t of at notes
]

unfoldable pub integer_part : Part → Notes → Judged
integer_part p notes = elim p.node [
  | None ↦ untyped notes
  | Some e ↦ if is_integer e.ty then record { node = Some e; notes = notes } else faulty K4 e.place notes
]

-- K4 at an index that is no integer, K10 at the whole unless what is indexed is an array or a pointer to an object
unfoldable pub index : ℕ → Part → Part → Notes → Judged
index place of at notes =
    let i : Judged = integer_part at notes in
    on_node (indexed place i.node) of i.notes

abbrev pub member_number : Meaning → ℕ
member_number (Member number) = number
member_number other = 0

-- a member by its number, and what is noted behind it
pub record MemberRead : Type 0 where
  pub member : Option FoundMember
  pub notes : Notes

abbrev pub found : ℕ → Ty → FoundMember
found number t = record { number = number; ty = t }

-- a member's outermost qualifier is its object's
unfoldable pub member_type : Qual → Entry → Option FoundMember
member_type q e = elim e.ty [ None ↦ None | Some t ↦ Some (found (member_number e.meaning) (under q t)) ]

-- K2 at a name that is no member of the struct
abbrev pub found_member : ℕ → Qual → Option Entry → Notes → MemberRead
found_member name_place q None notes = record { member = None; notes = broken K2 name_place notes }
found_member name_place q (Some e) notes = record { member = member_type q e; notes = notes }

-- the structs are given by the members of each; one that isn't defined yet has none
unfoldable pub member_of : List (List Entry) → ℕ → ℕ → StructType → Notes → MemberRead
member_of structs name name_place s notes = elim (slice_get structs s.id) [
  | None ↦ record { member = None; notes = broken K2 name_place notes }
  | Some fields ↦ found_member name_place s.q (meaning_in fields name) notes
]

abbrev pub dot_node : ℕ → Expr → MemberRead → Judged
dot_node place e m = elim m.member [ None ↦ untyped m.notes | Some f ↦ given place f.ty (node.Member e f.number) m.notes ]

-- K10 at the whole where it is no struct
unfoldable pub dotted : List (List Entry) → ℕ → ℕ → ℕ → Expr → Notes → Judged
dotted structs place name name_place e notes = elim (struct_of e.ty) [
  | None ↦ faulty K10 place notes
  | Some s ↦ dot_node place e (member_of structs name name_place s notes)
]

-- an object that is no struct has no members
unfoldable pub pointed_member : List (List Entry) → ℕ → ℕ → Ty → Notes → MemberRead
pointed_member structs name name_place object notes = elim (struct_of object) [
  | None ↦ record { member = None; notes = broken K2 name_place notes }
  | Some s ↦ member_of structs name name_place s notes
]

abbrev pub arrow_node : ℕ → Expr → MemberRead → Judged
arrow_node place e m = elim m.member [ None ↦ untyped m.notes | Some f ↦ given place f.ty (node.Arrow e f.number) m.notes ]

-- K10 at the whole where it is no array or pointer to an object
unfoldable pub arrowed : List (List Entry) → ℕ → ℕ → ℕ → Expr → Notes → Judged
arrowed structs place name name_place e notes = elim (object_behind e.ty) [
  | None ↦ faulty K10 place notes
  | Some object ↦ arrow_node place e (pointed_member structs name name_place object notes)
]

-- CALLS

-- what a callee gives and takes, where that is known, and what is noted behind it
pub record SignatureRead : Type 0 where
  pub signature : Option Signature
  pub notes : Notes

abbrev pub without_signature : Notes → SignatureRead
without_signature notes = record { signature = None; notes = notes }

-- K7 at a callee that is no function, gate or pointer to a function, and at the call where the number of arguments is another
unfoldable pub signature_for : ℕ → ℕ → Expr → Notes → SignatureRead
signature_for place count f notes = elim (signature_of f.ty) [
  | None ↦ without_signature (broken K7 f.place notes)
  | Some s ↦ if length s.params == count then record { signature = Some s; notes = notes } else without_signature (broken K7 place notes)
]

unfoldable pub signature_at : ℕ → ℕ → Part → Notes → SignatureRead
signature_at place count f notes = elim f.node [ None ↦ without_signature notes | Some e ↦ signature_for place count e notes ]

-- how many arguments there were so far, those that fit, and whether all do
pub record Arguments : Type 0 where
  pub done : ℕ
  pub nodes : List Expr
  pub whole : Bool
  pub notes : Notes

-- K6 at an argument that doesn't fit its parameter
abbrev pub fitted : Form → Expr → Ty → Notes → Judged
fitted form e t notes = if fits form e.ty t then record { node = Some e; notes = notes } else faulty K6 e.place notes

unfoldable pub fitted_part : Part → Ty → Notes → Judged
fitted_part p t notes = elim p.node [ None ↦ untyped notes | Some e ↦ fitted p.form e t notes ]

unfoldable pub fitted_at : Part → Option Ty → Notes → Judged
fitted_at p None notes = untyped notes
fitted_at p (Some t) notes = fitted_part p t notes

abbrev pub with_node : List Expr → Option Expr → List Expr
with_node nodes None = nodes
with_node nodes (Some e) = nodes ++ e ∷ []

abbrev pub with_argument : ℕ → List Expr → Bool → Option Expr → Notes → Arguments
with_argument done nodes whole node notes =
    record { done = done + 1; nodes = with_node nodes node; whole = whole && is_some node; notes = notes }

abbrev pub expected : Option Signature → List Ty
expected None = []
expected (Some s) = s.params

abbrev pub call_node : ℕ → Expr → Ty → List Expr → Expr
call_node place f ret nodes = record { place = place; ty = ret; kind = node.Call f nodes }

abbrev pub call_of : ℕ → Option Expr → Option Signature → Bool → List Expr → Option Expr
call_of place (Some f) (Some s) true nodes = Some (call_node place f s.ret nodes)
call_of place f s whole nodes = None

-- NAMES

abbrev pub typed_name : ℕ → Option Ty → ExprKind → Option Expr
typed_name place None kind = None
typed_name place (Some t) kind = Some (record { place = place; ty = t; kind = kind })

abbrev pub named : ℕ → Option Ty → ExprKind → Notes → Judged
named place t kind notes = record { node = typed_name place t kind; notes = notes }

-- K7 at a gate's name that isn't called
abbrev pub gate_name : ℕ → Bool → Option Ty → ℕ → Notes → Judged
gate_name place is_called t number notes = if is_called then named place t (node.Stub number) notes else faulty K7 place notes

unfoldable pub name_node : ℕ → Bool → Option Ty → Meaning → Notes → Judged
name_node place is_called t (Local number) notes = named place t (node.Local number) notes
name_node place is_called t (Global number) notes = named place t (node.Global number) notes
name_node place is_called t (Function number) notes = named place t (node.Func number) notes
name_node place is_called t (Gate number) notes = gate_name place is_called t number notes
name_node place is_called t (Structure number) notes = untyped notes
name_node place is_called t (Member number) notes = untyped notes

abbrev pub name_form : Meaning → Form
name_form (Local number) = Place
name_form (Global number) = Place
name_form other = Value
