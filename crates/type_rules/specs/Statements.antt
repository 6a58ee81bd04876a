-- Statements: the rules that are asked of one, and its node.
use Rattle.std.specs.Prelude.{ℕ, ◌+◌, Bool, true, false, List, [], ◌∷◌, ◌++◌, Option, Some, None, length, fold, map, if◌then◌else◌}
use Rattle.c_ast.specs.declared.qualifiers.Ty.{Ty}
use Rattle.c_ast.specs.declared.program.Specifier.{Specifier}
use Rattle.c_ast.specs.declared.program.Declaration.{Declaration}
use Rattle.c_ast.specs.declared.program.Initialised.{Initialised}
use Rattle.c_ast.specs.declared.program.Expression.{Expression}
use Rattle.c_ast.specs.declared.program.Statement.{Statement}
use Rattle.c_ast.specs.declared.program.Block as block
use Rattle.c_ast.specs.declared.program.BlockItem.{BlockItem}
use Rattle.c_ast.specs.declared.program.BlockItem.TheOpen.{BlockItem-F, StatementKind-F, Declare, Run, Block, Eval, If, While, DoWhile, For, Return, Break, Continue}
use Rattle.c_ast.specs.declared.program.BlockItem.TheFolds.{fold-Statement, fold-BlockItem}
use Rattle.c_ast.specs.declared.typed.Expr.{Expr}
use Rattle.c_ast.specs.declared.typed.ExprKind as expression
use Rattle.c_ast.specs.declared.typed.Stmt.{Stmt}
use Rattle.c_ast.specs.declared.typed.StmtKind.{StmtKind}
use Rattle.c_ast.specs.declared.typed.StmtKind as node
use Rattle.type_rules.specs.declared.rules.TheConstants.{K1, K6, K8, K9, K12}
use Rattle.type_rules.specs.declared.parts.Part.{Part}
use Rattle.name_scopes.specs.declared.scopes.Entry.{Entry}
use Rattle.name_scopes.specs.declared.scopes.Meaning.TheVariants.{Local}
use Rattle.type_rules.specs.declared.known.Known.{Known}
use Rattle.type_rules.specs.declared.notes.Notes.{Notes}
use Rattle.type_rules.specs.declared.frames.Frame.{Frame}
use Rattle.type_rules.specs.declared.written.Unwritten.TheVariants.{Variable}
use Rattle.type_shapes.specs.Types.{is_void, is_scalar}
use Rattle.name_scopes.specs.Scopes.{is_declared_since, declare}
use Rattle.type_rules.specs.Notes.{broken, broken_if, with_local}
use Rattle.type_rules.specs.WrittenTypes.{Written, object_type}
use Rattle.type_rules.specs.Operators.{Judged, fits, condition}
use Rattle.type_rules.specs.Expressions.{Typing, type_of}

-- a statement's node, or none where a rule is broken in it, and what is noted behind it
pub record Stated : Type 0 where
  pub node : Option Stmt
  pub notes : Notes

abbrev pub statement : ℕ → StmtKind → Stmt
statement place kind = record { place = place; kind = kind }

abbrev pub stated : ℕ → StmtKind → Notes → Stated
stated place kind notes = record { node = Some (statement place kind); notes = notes }

abbrev pub unstated : Notes → Stated
unstated notes = record { node = None; notes = notes }

-- what a block has so far: what is known behind it, and its statements that have nodes
pub record Inside : Type 0 where
  pub known : Known
  pub items : List Stmt
  pub notes : Notes

abbrev pub with_scope : List Entry → Known → Known
with_scope scope known = record known { scope = scope }

abbrev pub with_item : Option Stmt → List Stmt → List Stmt
with_item None items = items
with_item (Some s) items = items ++ s ∷ []

-- a statement is told the function around it and whether a loop is
abbrev pub StatementRule : Type 0
StatementRule = Frame → Bool → Known → Notes → Stated

-- an item of a block is told where the block's scope begins too
abbrev pub ItemRule : Type 0
ItemRule = Frame → Bool → ℕ → Inside → Inside

abbrev pub BlockRule : Type 0
BlockRule = Frame → Bool → ℕ → Known → Notes → Inside

-- LOCALS

-- the node of an initialiser: an assignment to the local, both at its name
abbrev pub initialiser : ℕ → ℕ → Ty → Expr → Expr
initialiser place number t e =
    record { place = place; ty = t; kind = expression.Assign (record { place = place; ty = t; kind = expression.Local number }) e }

-- K6 at a value that doesn't fit
abbrev pub fitting_start : ℕ → ℕ → ℕ → Ty → Part → Notes → Stated
fitting_start place local number t p notes = elim p.node [
  | None ↦ unstated notes
  | Some e ↦ if fits p.form e.ty t then stated place (node.Declare local (Some (initialiser place number t e))) notes
      else unstated (broken K6 e.place notes)
]

-- K12 at the name of an array or a struct
abbrev pub started : ℕ → ℕ → ℕ → Option Ty → Part → Notes → Stated
started place local number t p notes = elim t [
  | None ↦ unstated notes
  | Some u ↦ if is_scalar u then fitting_start place local number u p notes else unstated (broken K12 place notes)
]

-- a local without a type has no node
abbrev pub unstarted : ℕ → ℕ → Option Ty → Option Stmt
unstarted place local None = None
unstarted place local (Some t) = Some (statement place (node.Declare local None))

abbrev pub start_of_local : ℕ → ℕ → ℕ → Option Ty → Option Expression → Known → Notes → Stated
start_of_local place local number t None known notes = record { node = unstarted place local t; notes = notes }
start_of_local place local number t (Some e) known notes =
    let value : Typing = type_of e false known notes in
    started place local number t value.part value.notes

-- K1 at a name that the scope has already; the name is known from its declarator on, and so in its initialiser
abbrev pub declare_local : Frame → ℕ → Specifier → Inside → Initialised → Inside
declare_local frame start specifier inside i =
    let w : Written = object_type inside.known Variable specifier i.declarator inside.notes in
    let told : Notes = broken_if (is_declared_since start inside.known.scope i.declarator.name) K1 i.declarator.place w.notes in
    let local : ℕ = length told.locals in
    let number : ℕ = frame.parameters + local in
    let known : Known = with_scope (declare inside.known.scope i.declarator.name (Local number) w.ty) inside.known in
    let s : Stated = start_of_local i.declarator.place local number w.ty i.start known (with_local i.declarator.name i.declarator.place w.ty told) in
    record { known = known; items = with_item s.node inside.items; notes = s.notes }

abbrev pub declare_locals : Frame → ℕ → Declaration → Inside → Inside
declare_locals frame start d inside = fold (declare_local frame start d.specifier) inside d.declarators

-- BLOCKS

abbrev pub stated_inside : Inside → Stated → Inside
stated_inside inside s = record { known = inside.known; items = with_item s.node inside.items; notes = s.notes }

abbrev pub item_step : {K B : Type 0} → BlockItem-F ItemRule K B StatementRule → ItemRule
item_step (Declare declaration) frame in_loop start inside = declare_locals frame start declaration inside
item_step (Run rule) frame in_loop start inside = stated_inside inside (rule frame in_loop inside.known inside.notes)

abbrev pub block_of : List ItemRule → BlockRule
block_of items frame in_loop start known notes =
    fold (λ inside item. item frame in_loop start inside) (record { known = known; items = []; notes = notes }) items

-- STATEMENTS

-- an expression that may be missing: None where a rule is broken in it
pub record Perhaps : Type 0 where
  pub node : Option (Option Expr)
  pub notes : Notes

abbrev pub present : Option Expr → Option (Option Expr)
present None = None
present (Some e) = Some (Some e)

abbrev pub perhaps : Option Expression → Known → Notes → Perhaps
perhaps None known notes = record { node = Some None; notes = notes }
perhaps (Some e) known notes =
    let t : Typing = type_of e false known notes in
    record { node = present t.part.node; notes = t.notes }

-- a condition that is no integer or pointer is K4
abbrev pub condition_of : Expression → Known → Notes → Judged
condition_of e known notes =
    let t : Typing = type_of e false known notes in
    condition t.part t.notes

abbrev pub perhaps_condition : Option Expression → Known → Notes → Perhaps
perhaps_condition None known notes = record { node = Some None; notes = notes }
perhaps_condition (Some e) known notes =
    let c : Judged = condition_of e known notes in
    record { node = present c.node; notes = c.notes }

abbrev pub eval_of : ℕ → Option (Option Expr) → Option Stmt
eval_of place None = None
eval_of place (Some e) = Some (statement place (node.Eval e))

-- a branch that may be missing
pub record Branch : Type 0 where
  pub node : Option (Option Stmt)
  pub notes : Notes

abbrev pub branch_of : Stated → Branch
branch_of s = elim s.node [ None ↦ record { node = None; notes = s.notes } | Some x ↦ record { node = Some (Some x); notes = s.notes } ]

abbrev pub branch : Option StatementRule → Frame → Bool → Known → Notes → Branch
branch None frame in_loop known notes = record { node = Some None; notes = notes }
branch (Some rule) frame in_loop known notes = branch_of (rule frame in_loop known notes)

abbrev pub if_node : ℕ → Expr → Stmt → Option Stmt → Stmt
if_node place on first second = statement place (node.If on first second)

abbrev pub if_of : ℕ → Option Expr → Option Stmt → Option (Option Stmt) → Option Stmt
if_of place (Some on) (Some first) (Some second) = Some (if_node place on first second)
if_of place on first second = None

abbrev pub while_of : ℕ → Option Expr → Option Stmt → Option Stmt
while_of place (Some on) (Some body) = Some (statement place (node.While on body))
while_of place on body = None

abbrev pub do_while_of : ℕ → Option Stmt → Option Expr → Option Stmt
do_while_of place (Some body) (Some on) = Some (statement place (node.DoWhile body on))
do_while_of place body on = None

abbrev pub for_node : ℕ → Option Expr → Option Expr → Option Expr → Stmt → Stmt
for_node place first on after body = statement place (node.For first on after body)

abbrev pub for_of : ℕ → Option (Option Expr) → Option (Option Expr) → Option (Option Expr) → Option Stmt → Option Stmt
for_of place (Some first) (Some on) (Some after) (Some body) = Some (for_node place first on after body)
for_of place first on after body = None

-- K8: `return` without a value where the function gives one
abbrev pub bare_return : ℕ → Option Ty → Notes → Stated
bare_return place None notes = unstated notes
bare_return place (Some t) notes = if is_void t then stated place (node.Return None) notes else unstated (broken K8 place notes)

abbrev pub fitting_return : ℕ → Ty → Part → Notes → Stated
fitting_return place t p notes = elim p.node [
  | None ↦ unstated notes
  | Some e ↦ if fits p.form e.ty t then stated place (node.Return (Some e)) notes else unstated (broken K6 e.place notes)
]

-- K8: `return` with a value in a void function; K6 at a value that doesn't fit the result
abbrev pub return_of : ℕ → Option Ty → Part → Notes → Stated
return_of place None p notes = unstated notes
return_of place (Some t) p notes = if is_void t then unstated (broken K8 place notes) else fitting_return place t p notes

-- K9: `break` or `continue` outside a loop
abbrev pub leave : ℕ → Bool → StmtKind → Notes → Stated
leave place in_loop kind notes = if in_loop then stated place kind notes else unstated (broken K9 place notes)

abbrev pub block_node : ℕ → List Stmt → Option Stmt
block_node place items = Some (statement place (node.Block items))

-- what a block declares is known to its end
unfoldable pub block_stated : BlockRule → ℕ → StatementRule
block_stated rule place frame in_loop known notes =
    let inside : Inside = rule frame in_loop (length known.scope) known notes in
    record { node = block_node place inside.items; notes = inside.notes }

unfoldable pub eval_stated : Option Expression → ℕ → StatementRule
eval_stated value place frame in_loop known notes =
    let e : Perhaps = perhaps value known notes in
    record { node = eval_of place e.node; notes = e.notes }

unfoldable pub if_stated : Expression → StatementRule → Option StatementRule → ℕ → StatementRule
if_stated on first second place frame in_loop known notes =
    let c : Judged = condition_of on known notes in
    let a : Stated = first frame in_loop known c.notes in
    let b : Branch = branch second frame in_loop known a.notes in
    record { node = if_of place c.node a.node b.node; notes = b.notes }

unfoldable pub while_stated : Expression → StatementRule → ℕ → StatementRule
while_stated on body place frame in_loop known notes =
    let c : Judged = condition_of on known notes in
    let s : Stated = body frame true known c.notes in
    record { node = while_of place c.node s.node; notes = s.notes }

unfoldable pub do_while_stated : StatementRule → Expression → ℕ → StatementRule
do_while_stated body on place frame in_loop known notes =
    let s : Stated = body frame true known notes in
    let c : Judged = condition_of on known s.notes in
    record { node = do_while_of place s.node c.node; notes = c.notes }

unfoldable pub for_stated : Option Expression → Option Expression → Option Expression → StatementRule → ℕ → StatementRule
for_stated first on after body place frame in_loop known notes =
    let a : Perhaps = perhaps first known notes in
    let c : Perhaps = perhaps_condition on known a.notes in
    let b : Perhaps = perhaps after known c.notes in
    let s : Stated = body frame true known b.notes in
    record { node = for_of place a.node c.node b.node s.node; notes = s.notes }

abbrev pub return_stated : Option Expression → ℕ → StatementRule
return_stated None place frame in_loop known notes = bare_return place frame.result notes
return_stated (Some e) place frame in_loop known notes =
    let value : Typing = type_of e false known notes in
    return_of place frame.result value.part value.notes

abbrev pub statement_step : {I K : Type 0} → StatementKind-F I K BlockRule StatementRule → ℕ → StatementRule
statement_step (Block rule) place frame in_loop known notes = block_stated rule place frame in_loop known notes
statement_step (Eval value) place frame in_loop known notes = eval_stated value place frame in_loop known notes
statement_step (If on first second) place frame in_loop known notes = if_stated on first second place frame in_loop known notes
statement_step (While on body) place frame in_loop known notes = while_stated on body place frame in_loop known notes
statement_step (DoWhile body on) place frame in_loop known notes = do_while_stated body on place frame in_loop known notes
statement_step (For first on after body) place frame in_loop known notes =
    for_stated first on after body place frame in_loop known notes
statement_step (Return value) place frame in_loop known notes = return_stated value place frame in_loop known notes
statement_step Break place frame in_loop known notes = leave place in_loop node.Break notes
statement_step Continue place frame in_loop known notes = leave place in_loop node.Continue notes

abbrev pub statement_typed : Statement → StatementRule
statement_typed = fold-Statement ItemRule (ℕ → StatementRule) BlockRule StatementRule
    item_step statement_step (λ b. block_of b.items) (λ s. s.kind s.place)

abbrev pub item_typed : BlockItem → ItemRule
item_typed = fold-BlockItem ItemRule (ℕ → StatementRule) BlockRule StatementRule
    item_step statement_step (λ b. block_of b.items) (λ s. s.kind s.place)

abbrev pub block_typed : block.Block → BlockRule
block_typed b = block_of (map item_typed b.items)
