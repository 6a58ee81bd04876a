-- What is so of every heap, offset by offset.
use Rattle.std.proofs.Common.{◌≡◌, ℕ, zero, suc, ◌+◌, ◌%◌, ◌<◌, ◌≤◌, ◌⊎◌, inl, inr, Some, None, false, List, [], ◌∷◌, length, get_or, refl, sym, ◌∙◌, ap, arith}
use Rattle.std.specs.Prelude.{All, Any, find, is_some}
use Rattle.std.proofs.lemmas.Bool.{cases_lt, leb-true, eqb-true}
use Rattle.std.proofs.lemmas.Option.{none-some, same_Some}
use Rattle.std.proofs.lemmas.List.Elements.{All-nil, All-cons, All-contains}
use Rattle.cv_word.specs.Heap.{Span, end_of, Heap, block_size, hole_for, taken_at, block_at, gives, after_give}
use Rattle.two_heaps.specs.Tiling.{Fills, Tiles, IsHeap, Has, IsUnits, IsCovered, IsFree}
use Rattle.two_heaps.specs.Tiling.Tiles.{end, last_hole, block, hole_and_block}
use Rattle.two_heaps.specs.Kept.{Rises, begins}
use Rattle.two_heaps.proofs.Ordered.{either, rises_at, find_contains, find_passes}
use Rattle.two_heaps.proofs.Tilings.{fits, fills_len, holes_rise, blocks_rise, tiles_up, tiles_apart, holes_count}
use Rattle.two_heaps.proofs.Laws.{answered, taken_answer, taken_refusal, after_no_gift}

here : (P : Span → Type 0) (x : Span) (xs : List Span) → P x → Any P (x ∷ xs)
here P x xs p = (0, x, omega arith, refl, p)

there : (P : Span → Type 0) (x : Span) (xs : List Span) → Any P xs → Any P (x ∷ xs)
there P x xs (k, y, lt, is, p) = (suc k, y, omega arith, is, p)

-- the span that fills some bytes has each of them
has : (from to offset : ℕ) (span : Span) → Fills from to span → from ≤ offset → offset < to → Has offset span
has from to offset span f low high = let b = f.begins in let e = f.ends in (omega arith, omega arith)

covered : (from to : ℕ) (holes blocks : List Span) → Tiles from to holes blocks → (offset : ℕ) → from ≤ offset → offset < to → Any (Has offset) holes ⊎ Any (Has offset) blocks
covered from to holes blocks (end e) offset low high = absurd (omega arith)
covered from to holes blocks (last_hole {hole = h} f) offset low high = inl (here (Has offset) h [] (has from to offset h f low high))
covered from to holes blocks (block {next = n} {block = b} {holes = hs} {blocks = bs} f t) offset low high =
    elim (cases_lt offset n) [
      | inl inside ↦ inr (here (Has offset) b bs (has from n offset b f low inside))
      | inr above ↦ elim (covered n to hs bs t offset above high) [ inl free ↦ inl free | inr out ↦ inr (there (Has offset) b bs out) ]
    ]
covered from to holes blocks (hole_and_block {middle = m} {next = n} {hole = h} {block = b} {holes = hs} {blocks = bs} f g t) offset low high =
    elim (cases_lt offset m) [
      | inl inside ↦ inl (here (Has offset) h hs (has from m offset h f low inside))
      | inr above ↦ elim (cases_lt offset n) [
        | inl inside ↦ inr (here (Has offset) b bs (has m n offset b g above inside))
        | inr higher ↦ elim (covered n to hs bs t offset higher high) [ inl free ↦ inl (there (Has offset) h hs free) | inr out ↦ inr (there (Has offset) b bs out) ]
      ]
    ]

apart : (from to : ℕ) (holes blocks : List Span) → Tiles from to holes blocks → (offset : ℕ) → Any (Has offset) holes → Any (Has offset) blocks → ⊥
apart from to holes blocks t offset (i, hole, in_holes, is_hole, has_hole) (j, out, in_blocks, is_out, has_out) =
    elim (tiles_apart from to holes blocks t i j hole out in_holes in_blocks) [
      | inl before ↦ omega (arith, ap end_of is_hole, ap (λ (s : Span). s.at) is_out, has_hole.1, has_out.0)
      | inr behind ↦ omega (arith, ap end_of is_out, ap (λ (s : Span). s.at) is_hole, has_hole.0, has_out.1)
    ]

pairs_apart : (gap from : ℕ) (xs : List Span) → Rises gap from xs → (i j : ℕ) (d : Span) → i < j → j < length xs → end_of (get_or xs i d) + gap ≤ (get_or xs j d).at
pairs_apart gap from [] r i j d less lt = absurd (omega arith)
pairs_apart gap from (x ∷ xs) r zero zero d less lt = absurd (omega arith)
pairs_apart gap from (x ∷ xs) r zero (suc j) d less lt = (rises_at gap (end_of x + gap) xs j d r.2 (omega arith)).0
pairs_apart gap from (x ∷ xs) r (suc i) zero d less lt = absurd (omega arith)
pairs_apart gap from (x ∷ xs) r (suc i) (suc j) d less lt = pairs_apart gap (end_of x + gap) xs r.2 i j d (omega arith) (omega arith)

units : (start from next to : ℕ) (span : Span) → start ≤ from → from % 16 ≡ 0 → Fills from next span → next ≤ to → IsUnits start to span
units start from next to span low aligned f up =
    let l = fills_len from next span f in
    record { inside = omega (arith, l.1); ends = omega (arith, l.1, l.2); some = l.0; begins = omega (arith, l.1); units = f.units }

hole_units : (start from to : ℕ) (holes blocks : List Span) → start ≤ from → from % 16 ≡ 0 → Tiles from to holes blocks → All (IsUnits start to) holes
hole_units start from to holes blocks low aligned (end e) = All-nil (IsUnits start to)
hole_units start from to holes blocks low aligned (last_hole {hole = h} f) =
    All-cons (IsUnits start to) h [] (units start from to to h low aligned f (omega arith)) (All-nil (IsUnits start to))
hole_units start from to holes blocks low aligned (block {next = n} {block = b} {holes = hs} {blocks = bs} f t) =
    let l = fills_len from n b f in
    let u = f.units in
    hole_units start n to hs bs (omega (arith, l.2)) (omega (arith, l.2)) t
hole_units start from to holes blocks low aligned (hole_and_block {middle = m} {next = n} {hole = h} {block = b} {holes = hs} {blocks = bs} f g t) =
    let k = fills_len from m h f in
    let l = fills_len m n b g in
    let u = f.units in
    let v = g.units in
    let up = tiles_up n to hs bs t in
    All-cons (IsUnits start to) h hs (units start from m to h low aligned f (omega (arith, l.2)))
    (hole_units start n to hs bs (omega (arith, k.2, l.2)) (omega (arith, k.2, l.2)) t)

block_units : (start from to : ℕ) (holes blocks : List Span) → start ≤ from → from % 16 ≡ 0 → Tiles from to holes blocks → All (IsUnits start to) blocks
block_units start from to holes blocks low aligned (end e) = All-nil (IsUnits start to)
block_units start from to holes blocks low aligned (last_hole f) = All-nil (IsUnits start to)
block_units start from to holes blocks low aligned (block {next = n} {block = b} {holes = hs} {blocks = bs} f t) =
    let l = fills_len from n b f in
    let u = f.units in
    let up = tiles_up n to hs bs t in
    All-cons (IsUnits start to) b bs (units start from n to b low aligned f up) (block_units start n to hs bs (omega (arith, l.2)) (omega (arith, l.2)) t)
block_units start from to holes blocks low aligned (hole_and_block {middle = m} {next = n} {hole = h} {block = b} {holes = hs} {blocks = bs} f g t) =
    let k = fills_len from m h f in
    let l = fills_len m n b g in
    let u = f.units in
    let v = g.units in
    let up = tiles_up n to hs bs t in
    All-cons (IsUnits start to) b bs (units start m n to b (omega (arith, k.2)) (omega (arith, k.2)) g up)
    (block_units start n to hs bs (omega (arith, k.2, l.2)) (omega (arith, k.2, l.2)) t)

pub is_covered : (start to : ℕ) (heap : Heap) → IsHeap start to heap → IsCovered start to heap
is_covered start to heap is =
    let tiles = is.tiles in
    record {
      covered = covered start to heap.holes heap.blocks tiles;
      apart = apart start to heap.holes heap.blocks tiles;
      holes_apart = λ i j d less lt. let h = pairs_apart 1 start heap.holes (holes_rise start to heap.holes heap.blocks tiles) i j d less lt in omega arith;
      blocks_apart = λ i j d less lt. let h = pairs_apart 0 start heap.blocks (blocks_rise start to heap.holes heap.blocks tiles) i j d less lt in omega arith;
      holes = hole_units start start to heap.holes heap.blocks (omega arith) is.aligned tiles;
      blocks = block_units start start to heap.holes heap.blocks (omega arith) is.aligned tiles;
      few = holes_count start to heap.holes heap.blocks tiles;
    }

free_at : (start to n at offset : ℕ) (heap : Heap) → IsHeap start to heap → taken_at heap n ≡ Some at → at ≤ offset → offset < at + block_size n → Any (Has offset) heap.holes
free_at start to n at offset heap is e low high =
    elim (either (hole_for heap n)) [
      | inl none ↦ absurd (none-some at (sym (taken_refusal heap n none) ∙ e))
      | inr (hole, answers) ↦
          let same : hole.at ≡ at = same_Some hole.at at (sym (taken_answer heap n hole answers) ∙ e) in
          let why = answered heap n hole answers in
          let holds = leb-true (block_size n) hole.len (find_passes (fits (block_size n)) heap.holes hole why.first) in
          let stands = find_contains (fits (block_size n)) heap.holes hole why.first in
          (stands.0, hole, stands.1, stands.2, (omega arith, omega arith))
    ]

pub is_free : (start to n : ℕ) (heap : Heap) → IsHeap start to heap → IsFree heap n
is_free start to n heap is = record {
  at = λ at offset e low high out. apart start to heap.holes heap.blocks is.tiles offset (free_at start to n at offset heap is e low high) out;
}

-- no block begins at the heap's end or above
no_block_beyond : (start to at : ℕ) (heap : Heap) → IsHeap start to heap → to ≤ at → block_at heap at ≡ None
unfolding block_at
no_block_beyond start to at heap is le =
    elim (either (find (begins at) heap.blocks)) [
      | inl none ↦ none
      | inr (out, found) ↦
          let here = eqb-true out.at at (find_passes (begins at) heap.blocks out found) in
          let fits = All-contains (IsUnits start to) heap.blocks out (block_units start start to heap.holes heap.blocks (omega arith) is.aligned is.tiles) (find_contains (begins at) heap.blocks out found) in
          let ends = fits.ends in
          let some = fits.some in
          absurd (omega arith)
    ]

pub none_beyond : (start to at : ℕ) (heap : Heap) → IsHeap start to heap → to ≤ at → (gives heap at ≡ false) × (after_give heap at ≡ heap)
unfolding gives
none_beyond start to at heap is le =
    let none = no_block_beyond start to at heap is le in (ap (λ o. is_some o) none, after_no_gift heap at none)
