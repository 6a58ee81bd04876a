-- Programs: where a rule is broken, and the typed tree where none is.
use Rattle.std.specs.Prelude.{◌≡◌, ℕ, ◌+◌, ◌<◌, ◌≤◌, ◌⊎◌, Bool, true, false, ◌||◌, List, [], ◌∷◌, ◌++◌, Option, Some, None, length, map, fold, slice_get, unwrap_or, Contains, if◌then◌else◌}
use Rattle.c_ast.specs.declared.qualifiers.Ty.{Ty}
use Rattle.c_ast.specs.declared.program.Program.{Program}
use Rattle.c_ast.specs.declared.program.Item.{Item}
use Rattle.c_ast.specs.declared.program.Item.TheVariants.{Struct, Object, Prototype, Function}
use Rattle.c_ast.specs.declared.program.Header.{Header}
use Rattle.c_ast.specs.declared.program.Block.{Block}
use Rattle.c_ast.specs.declared.typed.Typed.{Typed}
use Rattle.c_ast.specs.declared.typed.Local.{Local}
use Rattle.c_ast.specs.declared.typed.Stmt.{Stmt}
use Rattle.c_ast.specs.declared.typed.StmtKind as node
use Rattle.c_ast.specs.declared.typed.Function as typed
use Rattle.type_rules.specs.declared.rules.TheConstants.{K1, K11}
use Rattle.type_rules.specs.declared.rules.Fault.{Fault}
use Rattle.type_rules.specs.declared.errors.TypeError.{TypeError}
use Rattle.type_rules.specs.declared.errors.TypeError.TheVariants.{NoMemory, TypeFault}
use Rattle.name_scopes.specs.declared.scopes.Entry.{Entry}
use Rattle.name_scopes.specs.declared.scopes.Meaning.{Meaning}
use Rattle.name_scopes.specs.declared.scopes.Meaning.TheVariants as meaning
use Rattle.type_rules.specs.declared.known.Known.{Known}
use Rattle.type_rules.specs.declared.notes.Notes.{Notes}
use Rattle.type_rules.specs.declared.files.File.{File}
use Rattle.type_rules.specs.declared.files.Functions.{Functions}
use Rattle.type_rules.specs.declared.declarations.HeaderType.{HeaderType}
use Rattle.type_rules.specs.declared.frames.Frame.{Frame}
use Rattle.type_shapes.specs.Types.{same_type}
use Rattle.name_scopes.specs.Scopes.{meaning_in, is_declared, declare}
use Rattle.type_rules.specs.Gates.{gates_in}
use Rattle.type_rules.specs.Notes.{none_yet, broken_if, unless, without_locals}
use Rattle.type_rules.specs.Statements.{Inside, statement, block_typed}
use Rattle.type_rules.specs.Declarations.{Declared, declare_struct, HeaderRead, header_type, function_of, declare_globals}

-- FUNCTIONS ARE KNOWN IN THE WHOLE FILE. A first reading takes their types, and notes nothing. Of two definitions of a name
-- the first counts.

abbrev pub with_function : List Entry → ℕ → Option Ty → List Entry
with_function functions name t = declare functions name (meaning.Function (length functions)) t

abbrev pub type_of_header : Known → Header → Option Ty
type_of_header known h = function_of (header_type known h none_yet).header

abbrev pub take_function : Functions → Item → Functions
take_function so_far (Struct s) = record so_far { known = (declare_struct so_far.known s none_yet).known }
take_function so_far (Object d) = so_far
take_function so_far (Prototype h) =
    record so_far { prototypes = with_function so_far.prototypes h.name (type_of_header so_far.known h) }
take_function so_far (Function h body) =
    if is_declared so_far.definitions h.name then so_far
    else record so_far { definitions = with_function so_far.definitions h.name (type_of_header so_far.known h) }

abbrev pub nothing_known : Known
nothing_known = record { string_sizes = []; tags = []; structs = []; fields = []; extents = []; scope = [] }

abbrev pub functions_in : List Item → Functions
functions_in items = fold take_function (record { known = nothing_known; definitions = []; prototypes = [] }) items

abbrev pub functions_of : Program → Functions
functions_of p = functions_in p.items

abbrev pub number_behind : ℕ → Meaning → Meaning
number_behind count (meaning.Function number) = meaning.Function (count + number)
number_behind count other = other

abbrev pub entry_behind : ℕ → Entry → Entry
entry_behind count e = record e { meaning = number_behind count e.meaning }

-- prototypes, numbered behind all definitions; a definition of the name hides its prototype, and so stands later in the list
abbrev pub entries_of : Functions → List Entry
entries_of f = map (entry_behind (length f.definitions)) f.prototypes ++ f.definitions

-- ITEMS

abbrev pub same_or_unknown : Option Ty → Option Ty → Bool
same_or_unknown (Some a) (Some b) = same_type true a b
same_or_unknown a b = true

abbrev pub agrees_with : Option Ty → Option Entry → Bool
agrees_with t None = false
agrees_with t (Some e) = same_or_unknown t e.ty

abbrev pub is_object : Meaning → Bool
is_object (meaning.Global number) = true
is_object other = false

abbrev pub names_object : List Entry → ℕ → Bool
names_object defined name = elim (meaning_in defined name) [ None ↦ false | Some e ↦ is_object e.meaning ]

-- K1 at a second prototype, or one of an object; K11 at one that differs from its definition or has none
abbrev pub declare_prototype : List Entry → Header → File → File
declare_prototype definitions h file =
    let t : HeaderRead = header_type file.known h file.notes in
    let f : Option Ty = function_of t.header in
    let once : Notes = broken_if (is_declared file.prototypes h.name || names_object file.defined h.name) K1 h.place t.notes in
    record file {
      prototypes = with_function file.prototypes h.name f;
      notes = unless (agrees_with f (meaning_in definitions h.name)) K11 h.place once;
    }

abbrev pub with_node : Header → Option Ty → List Local → List Local → Stmt → List typed.Function → List typed.Function
with_node h ret params locals body functions = elim ret [
  | None ↦ functions
  | Some t ↦ functions ++ record { name = h.name; place = h.place; ret = t; params = params; locals = locals; body = body } ∷ []
]

-- the parameters and the body's block are one scope
abbrev pub body_of : HeaderType → Block → Known → Notes → Inside
body_of t body known notes =
    let frame : Frame = record { result = t.ret; parameters = length t.scope } in
    let inside : Known = record known { scope = known.scope ++ t.scope } in
    block_typed body frame false (length known.scope) inside notes

abbrev pub body_node : Block → Inside → Stmt
body_node body inside = statement body.place (node.Block inside.items)

-- K1 at a second definition of a name
abbrev pub declare_function : Header → Block → File → File
declare_function h body file =
    let t : HeaderRead = header_type file.known h file.notes in
    let once : Notes = broken_if (is_declared file.defined h.name) K1 h.place t.notes in
    let inside : Inside = body_of t.header body file.known once in
    record file {
      defined = declare file.defined h.name (meaning.Function (length file.functions)) (function_of t.header);
      functions = with_node h t.header.ret t.header.typed inside.notes.locals (body_node body inside) file.functions;
      notes = without_locals inside.notes;
    }

abbrev pub with_declared : Declared → File → File
with_declared d file = record file { known = d.known; notes = d.notes }

abbrev pub item_step : List (List ℕ) → List Entry → File → Item → File
item_step strings definitions file (Struct s) = with_declared (declare_struct file.known s file.notes) file
item_step strings definitions file (Object d) = declare_globals strings d file
item_step strings definitions file (Prototype h) = declare_prototype definitions h file
item_step strings definitions file (Function h body) = declare_function h body file

-- THE ANSWER

-- each string with its zero byte
abbrev pub string_sizes : List (List ℕ) → List ℕ
string_sizes strings = map (λ text. length text + 1) strings

-- gates are declared outside of the file's scope
abbrev pub first_known : Program → Functions → Known
first_known p functions = record nothing_known { string_sizes = string_sizes p.strings; scope = gates_in p.names ++ entries_of functions }

abbrev pub first_file : Program → Functions → File
first_file p functions = record {
  known = first_known p functions;
  defined = [];
  prototypes = [];
  globals = [];
  functions = [];
  notes = none_yet;
}

abbrev pub file_behind : List (List ℕ) → List Entry → List Item → File → File
file_behind strings definitions items file = fold (item_step strings definitions) file items

abbrev pub file_of : Program → File
file_of p = file_behind p.strings (functions_of p).definitions p.items (first_file p (functions_of p))

-- where rules are broken
abbrev pub faults_of : Program → List Fault
faults_of p = (file_of p).notes.faults

-- a typing rule is broken at a place of a program
abbrev pub IsBroken : Program → ℕ → ℕ → Type 0
IsBroken p rule place = Contains (faults_of p) (record { rule = rule; place = place })

abbrev pub string_at : List (List ℕ) → ℕ → List ℕ
string_at strings number = unwrap_or (slice_get strings number) []

abbrev pub strings_at : List (List ℕ) → List ℕ → List (List ℕ)
strings_at strings numbers = map (string_at strings) numbers

abbrev pub tree_of : Program → File → Typed
tree_of p file = record {
  structs = file.known.structs;
  globals = file.globals;
  strings = strings_at p.strings file.notes.strings;
  functions = file.functions;
  vars = file.notes.vars;
}

-- no rule is broken, and this is the typed tree
pub record IsTyped (p : Program) (tree : Typed) : Type 0 where
  pub unbroken : (rule place : ℕ) → ¬ IsBroken p rule place
  pub is : tree ≡ tree_of p (file_of p)

-- the least place of some faults, and the lowest rule there
pub record IsLeast (faults : List Fault) (rule place : ℕ) : Type 0 where
  pub broken : Contains faults (record { rule = rule; place = place })
  pub least : (other at : ℕ) → Contains faults (record { rule = other; place = at }) → (place < at) ⊎ ((place ≡ at) × (rule ≤ other))

-- the least place where a rule is broken, and the lowest rule there
abbrev pub IsLeastFault : Program → ℕ → ℕ → Type 0
IsLeastFault p rule place = IsLeast (faults_of p) rule place

-- want of memory says nothing
abbrev pub IsRefusal : Program → TypeError → Type 0
IsRefusal p NoMemory = Unit {0}
IsRefusal p (TypeFault rule place) = IsLeastFault p rule place
