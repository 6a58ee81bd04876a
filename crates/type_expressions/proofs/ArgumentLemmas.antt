-- The arguments of a call, as one more is looked at.
use Rattle.std.proofs.Common.{◌≡◌, ℕ, ◌+◌, ◌<◌, ◌≤◌, Bool, ◌&&◌, Bor, List, Option, Some, None, length, get_or, drop, map, fold, refl, sym}
use Rattle.std.proofs.lemmas.Option.{slice_get_past, slice_get_read}
use Rattle.std.specs.Prelude.{slice_get}
use Rattle.std.specs.Option.{is_some, option_copied, IfSome, MatchOption}
use Rattle.c_ast.specs.declared.qualifiers.Ty.{Ty}
use Rattle.c_ast.specs.declared.program.Expression.{Expression}
use Rattle.c_ast.specs.declared.typed.Expr.{Expr}
use Rattle.type_shapes.proofs.ListLemmas.{fold_map_next}
use Rattle.type_rules.specs.declared.known.Known.{Known}
use Rattle.type_rules.specs.declared.notes.Notes.{Notes}
use Rattle.type_rules.specs.Operators.{Arguments, with_node}
use Rattle.type_rules.specs.Expressions.{argument, next_argument, type_of}

-- what a list's `get` gives
pub got : {X : Type 0} (xs : List X) (i : ℕ) (r : Option (Bor X)) (P : Bor X → Type 0)
    → IfSome r (λ x. x.now ≡ get_or xs i x.now) → MatchOption r (length xs ≤ i) (λ x. (i < length xs) × P x) → option_copied r ≡ slice_get xs i
got xs i None P is at = sym (slice_get_past xs i at)
got xs i (Some x) P is at = sym (slice_get_read xs (length xs) i x.now refl at.0 is)

pub argument_next : (known : Known) (types : List Ty) (args : List Expression) (i : ℕ) (arg : Expression)
    (nodes next_nodes : List Expr) (whole next_whole : Bool) (notes next_notes : Notes) (ty : Option Ty) (node : Option Expr) (all : Arguments)
    → i < length args → arg ≡ get_or args i arg → ty ≡ slice_get types i
    → node ≡ (argument known ty (type_of arg) notes).node → next_notes ≡ (argument known ty (type_of arg) notes).notes
    → next_nodes ≡ with_node nodes node → next_whole ≡ (whole && is_some node)
    → fold (next_argument known types) (record { done = i; nodes = nodes; whole = whole; notes = notes }) (map type_of (drop i args)) ≡ all
    → fold (next_argument known types) (record { done = i + 1; nodes = next_nodes; whole = next_whole; notes = next_notes }) (map type_of (drop (i + 1) args)) ≡ all
argument_next known types args i arg nodes next_nodes whole next_whole notes next_notes ty node all h is type_is node_is notes_are nodes_are whole_is before =
    fold_map_next (next_argument known types) type_of args i arg (record { done = i; nodes = nodes; whole = whole; notes = notes }) _ all h is
    (rw (nodes_are, whole_is, notes_are, node_is, type_is) refl) before
