-- The items of a block, as one more is looked at.
use Rattle.std.proofs.Common.{◌≡◌, ℕ, ◌+◌, ◌<◌, Bool, List, length, get_or, drop, map, fold, refl}
use Rattle.c_ast.specs.declared.program.BlockItem.{BlockItem}
use Rattle.c_ast.specs.declared.typed.Stmt.{Stmt}
use Rattle.type_shapes.proofs.ListLemmas.{fold_map_next}
use Rattle.type_rules.specs.declared.frames.Frame.{Frame}
use Rattle.type_rules.specs.declared.known.Known.{Known}
use Rattle.type_rules.specs.declared.notes.Notes.{Notes}
use Rattle.type_rules.specs.Statements.{Inside, item_typed}

abbrev inside : Known → List Stmt → Notes → Inside
inside known items notes = record { known = known; items = items; notes = notes }

pub block_next : (frame : Frame) (in_loop : Bool) (start : ℕ) (block : List BlockItem) (i : ℕ) (item : BlockItem)
    (known next_known : Known) (items next_items : List Stmt) (notes next_notes : Notes) (all : Inside)
    → i < length block → item ≡ get_or block i item
    → next_known ≡ (item_typed item frame in_loop start (inside known items notes)).known
    → next_items ≡ (item_typed item frame in_loop start (inside known items notes)).items
    → next_notes ≡ (item_typed item frame in_loop start (inside known items notes)).notes
    → fold (λ so_far rule. rule frame in_loop start so_far) (inside known items notes) (map item_typed (drop i block)) ≡ all
    → fold (λ so_far rule. rule frame in_loop start so_far) (inside next_known next_items next_notes) (map item_typed (drop (i + 1) block)) ≡ all
block_next frame in_loop start block i item known next_known items next_items notes next_notes all h is known_is items_are notes_are before =
    fold_map_next (λ so_far rule. rule frame in_loop start so_far) item_typed block i item (inside known items notes) _ all h is
    (rw (known_is, items_are, notes_are) refl) before
