-- What take and give do to a whole heap.
use Rattle.std.proofs.Common.{◌≡◌, ℕ, ◌%◌, ◌<◌, ◌≤◌, ◌||◌, inl, inr, cond, eqb, leb, Some, None, List, [], ◌∷◌, length, refl, sym, ◌∙◌, ap, subst, arith}
use Rattle.std.specs.Prelude.{find}
use Rattle.std.specs.Option.{option_map, option_map_or}
use Rattle.std.proofs.lemmas.Bool.{cases_Bool, cases_lt, or_parts, eqb-false, leb-false, lt-ltb, le-ltb}
use Rattle.std.proofs.lemmas.Option.{none-some}
use Rattle.cv_word.specs.Heap.{Span, span_between, hole_between, fresh_heap, Heap, most_blocks, block_size, hole_for, with_block, taken_at, after_take, block_at, without_block, after_give}
use Rattle.two_heaps.specs.Tiling.{Tiles, IsHeap}
use Rattle.two_heaps.specs.Tiling.Tiles.{end, last_hole}
use Rattle.two_heaps.proofs.Ordered.{either, replaced_count}
use Rattle.two_heaps.proofs.Tilings.{fits, take_tiles, give_tiles}

-- ---- a fresh heap

fresh_tiles : (start to : ℕ) → start ≤ to → start % 16 ≡ 0 → to % 16 ≡ 0 → Tiles start to (hole_between start to) []
fresh_tiles start to le aligned multiple =
    elim (cases_lt start to) [
      | inl lt ↦
          let e : hole_between start to ≡ span_between start to ∷ [] = ap (λ b. cond b (span_between start to ∷ []) []) (lt-ltb start to lt) in
          let P : List Span → Type 0 = λ l. Tiles start to l [] in
          subst P (sym e) (last_hole (record { begins = refl; ends = omega arith; some = lt; units = omega arith }))
      | inr ge ↦
          let e : hole_between start to ≡ [] = ap (λ b. cond b (span_between start to ∷ []) []) (le-ltb start to ge) in
          let P : List Span → Type 0 = λ l. Tiles start to l [] in
          subst P (sym e) (end (omega arith))
    ]

pub fresh_is_heap : (start to : ℕ) → start ≤ to → start % 16 ≡ 0 → to % 16 ≡ 0 → IsHeap start to (fresh_heap start to)
fresh_is_heap start to le aligned multiple = record { aligned = aligned; tiles = fresh_tiles start to le aligned multiple; few = omega arith }

-- ---- take

-- why a request is answered
pub record IsAnswered (heap : Heap) (n : ℕ) (hole : Span) : Type 0 where
  pub some : 0 < n
  pub few : length heap.blocks < most_blocks
  pub first : find (fits (block_size n)) heap.holes ≡ Some hole

pub answered : (heap : Heap) (n : ℕ) (hole : Span) → hole_for heap n ≡ Some hole → IsAnswered heap n hole
unfolding hole_for
answered heap n hole e =
    elim (cases_Bool (eqb n 0 || leb most_blocks (length heap.blocks))) [
      | inl refused ↦ absurd (none-some hole (sym (ap (λ b. cond b None (find (fits (block_size n)) heap.holes)) refused) ∙ e))
      | inr asked ↦
          let parts = or_parts (eqb n 0) (leb most_blocks (length heap.blocks)) asked in
          let zero_not = eqb-false n 0 parts.0 in
          let few = leb-false most_blocks (length heap.blocks) parts.1 in
          record {
            some = omega (arith, zero_not);
            few = few;
            first = sym (ap (λ b. cond b None (find (fits (block_size n)) heap.holes)) asked) ∙ e;
          }
    ]

pub after_answer : (heap : Heap) (n : ℕ) (hole : Span) → hole_for heap n ≡ Some hole → after_take heap n ≡ with_block heap (block_size n) hole
unfolding after_take
after_answer heap n hole e = ap (λ o. option_map_or (with_block heap (block_size n)) o heap) e

pub after_refusal : (heap : Heap) (n : ℕ) → hole_for heap n ≡ None → after_take heap n ≡ heap
unfolding after_take
after_refusal heap n e = ap (λ o. option_map_or (with_block heap (block_size n)) o heap) e

pub taken_answer : (heap : Heap) (n : ℕ) (hole : Span) → hole_for heap n ≡ Some hole → taken_at heap n ≡ Some hole.at
unfolding taken_at
taken_answer heap n hole e = ap (λ o. option_map (λ (hole : Span). hole.at) o) e

pub taken_refusal : (heap : Heap) (n : ℕ) → hole_for heap n ≡ None → taken_at heap n ≡ None
unfolding taken_at
taken_refusal heap n e = ap (λ o. option_map (λ (hole : Span). hole.at) o) e

size_of : (n : ℕ) → 0 < n → (0 < block_size n) × (block_size n % 16 ≡ 0)
size_of n some = (omega arith, omega arith)

pub with_block_is_heap : (start to n : ℕ) (heap : Heap) (hole : Span) → IsHeap start to heap → hole_for heap n ≡ Some hole → IsHeap start to (with_block heap (block_size n) hole)
with_block_is_heap start to n heap hole is e =
    let why = answered heap n hole e in
    let size = size_of n why.some in
    let count = replaced_count hole.at (record { at = hole.at; len = block_size n } ∷ []) heap.blocks in
    let few = why.few in
    record { aligned = is.aligned; tiles = take_tiles (block_size n) start to heap.holes heap.blocks hole size.0 size.1 is.tiles why.first; few = omega (arith, count) }

pub take_is_heap : (start to n : ℕ) (heap : Heap) → IsHeap start to heap → IsHeap start to (after_take heap n)
take_is_heap start to n heap is =
    elim (either (hole_for heap n)) [
      | inl none ↦ subst (IsHeap start to) (sym (after_refusal heap n none)) is
      | inr some ↦ subst (IsHeap start to) (sym (after_answer heap n some.0 some.1)) (with_block_is_heap start to n heap some.0 is some.1)
    ]

-- ---- give

pub after_gift : (heap : Heap) (at : ℕ) (out : Span) → block_at heap at ≡ Some out → after_give heap at ≡ without_block heap out
unfolding after_give
after_gift heap at out e = ap (λ o. option_map_or (without_block heap) o heap) e

pub after_no_gift : (heap : Heap) (at : ℕ) → block_at heap at ≡ None → after_give heap at ≡ heap
unfolding after_give
after_no_gift heap at e = ap (λ o. option_map_or (without_block heap) o heap) e

pub without_block_is_heap : (start to at : ℕ) (heap : Heap) (out : Span) → IsHeap start to heap → block_at heap at ≡ Some out → IsHeap start to (without_block heap out)
unfolding block_at
without_block_is_heap start to at heap out is e =
    let count = replaced_count out.at [] heap.blocks in
    let few = is.few in
    record { aligned = is.aligned; tiles = give_tiles at start to heap.holes heap.blocks out is.aligned is.tiles e; few = omega (arith, count) }

pub give_is_heap : (start to at : ℕ) (heap : Heap) → IsHeap start to heap → IsHeap start to (after_give heap at)
give_is_heap start to at heap is =
    elim (either (block_at heap at)) [
      | inl none ↦ subst (IsHeap start to) (sym (after_no_gift heap at none)) is
      | inr some ↦ subst (IsHeap start to) (sym (after_gift heap at some.0 some.1)) (without_block_is_heap start to at heap some.0 is some.1)
    ]
