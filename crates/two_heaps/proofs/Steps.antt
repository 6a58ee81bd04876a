-- What the calls of a heap find, and what they leave, over the lists of a heap.
use Rattle.std.proofs.Common.{◌≡◌, ℕ, suc, ◌+◌, ◌^◌, ◌<◌, ◌≤◌, ◌⊎◌, ◌||◌, inl, inr, Bool, false, cond, eqb, leb, Option, Some, None, List, [], ◌∷◌, ◌++◌, length, get_or, take, drop, sym, ◌∙◌, ap, subst, arith}
use Rattle.std.specs.Prelude.{find, position, All, is_some}
use Rattle.std.specs.List.{remove}
use Rattle.std.proofs.lemmas.Bool.{cases_Bool, leb-true, leb-false, eqb-true, or_cases, le-leb, lt-leb, eq-eqb, ne_eqb, or_from, or_left, or_right}
use Rattle.std.proofs.lemmas.List.Elements.{All-contains, All-get_or, All-weaker}
use Rattle.std.proofs.lemmas.List.{drop_more, get_or_default}
use Rattle.cv_word.specs.Heap.{Span, end_of, hole_between, starting_below, Heap, most_blocks, block_size, hole_for, with_block, block_at, without_block, gives, replaced_at, merged}
use Rattle.two_heaps.specs.Tiling.{IsHeap, IsRefused}
use Rattle.two_heaps.specs.Kept.{Rises, Avoids, IsPlace, MayJoin, begins, IsSmallHeap, IsFirstFit}
use Rattle.two_heaps.proofs.Ordered.{either, found, find_fails, fails_find, find_passes, find_contains, find_from, rises_at, rises_lower}
use Rattle.two_heaps.proofs.Tilings.{fits, holes_rise, blocks_rise, holes_inside, blocks_inside, holes_count, tiles_apart}
use Rattle.two_heaps.proofs.Places.{place, position_finds, position_fails, replaced_at_place, none_begins, rest_begins}
use Rattle.two_heaps.proofs.Laws.{answered, with_block_is_heap, without_block_is_heap}

-- ---- the hole for a request

pub none_for_zero : (heap : Heap) (n : ℕ) → n ≡ 0 → hole_for heap n ≡ None
unfolding hole_for
none_for_zero heap n e = ap (λ b. cond b None (find (fits (block_size n)) heap.holes)) (or_left (eqb n 0) (leb most_blocks (length heap.blocks)) (eq-eqb n 0 e))

pub none_where_full : (heap : Heap) (n : ℕ) → most_blocks ≤ length heap.blocks → hole_for heap n ≡ None
unfolding hole_for
none_where_full heap n le =
    ap (λ b. cond b None (find (fits (block_size n)) heap.holes)) (or_right (eqb n 0) (leb most_blocks (length heap.blocks)) (le-leb most_blocks (length heap.blocks) le))

-- a hole that is found lies in the heap
hole_inside : (heap : Heap) (hole : Span) (start to : ℕ) (p : Span → Bool) → IsHeap start to heap → find p heap.holes ≡ Some hole → (start ≤ hole.at) × (end_of hole ≤ to)
hole_inside heap hole start to p is e = (
  find_from 1 start p heap.holes hole (holes_rise start to heap.holes heap.blocks is.tiles) e,
  All-contains (λ (s : Span). end_of s ≤ to) heap.holes hole (holes_inside start to heap.holes heap.blocks is.tiles) (find_contains p heap.holes hole e),
)

pub none_for_large : (heap : Heap) (n : ℕ) → IsSmallHeap heap → 0xfffffff0 < n → hole_for heap n ≡ None
none_for_large heap n is lt =
    elim (either (hole_for heap n)) [
      | inl none ↦ none
      | inr some ↦
          let why = answered heap n some.0 some.1 in
          let inside = hole_inside heap some.0 is.start is.to (fits (block_size n)) is.is_heap why.first in
          let holds = leb-true (block_size n) some.0.len (find_passes (fits (block_size n)) heap.holes some.0 why.first) in
          let small = is.small in
          absurd (omega (arith, inside.1))
    ]

pub none_that_fits : (heap : Heap) (n size : ℕ) → size ≡ block_size n → position (fits size) heap.holes ≡ None → hole_for heap n ≡ None
unfolding hole_for
none_that_fits heap n size e none =
    let P : ℕ → Type 0 = λ m. position (fits m) heap.holes ≡ None in
    let nowhere = position_fails (fits (block_size n)) heap.holes (subst P e none) in
    elim (cases_Bool (eqb n 0 || leb most_blocks (length heap.blocks))) [
      | inl refused ↦ ap (λ b. cond b None (find (fits (block_size n)) heap.holes)) refused
      | inr asked ↦ ap (λ b. cond b None (find (fits (block_size n)) heap.holes)) asked ∙ nowhere
    ]

pub first_fit_is : (heap : Heap) (n size at : ℕ) → (n ≡ 0 → ⊥) → length heap.blocks < most_blocks → size ≡ block_size n → position (fits size) heap.holes ≡ Some at → IsFirstFit heap n at size
unfolding hole_for
first_fit_is heap n size at some few e first =
    let P : ℕ → Type 0 = λ m. position (fits m) heap.holes ≡ Some at in
    let there = subst P e first in
    let asked = or_from (eqb n 0) (leb most_blocks (length heap.blocks)) (ne_eqb n 0 some) (lt-leb most_blocks (length heap.blocks) few) in
    record {
      within = (position_finds (fits (block_size n)) heap.holes at (record { at = 0; len = 0 }) there).0;
      sized = e;
      found = λ d. ap (λ b. cond b None (find (fits (block_size n)) heap.holes)) asked ∙ (position_finds (fits (block_size n)) heap.holes at d there).1;
    }

-- ---- refusals

each_too_small : (heap : Heap) (n : ℕ) → All (λ (s : Span). fits (block_size n) s ≡ false) heap.holes → All (λ (s : Span). s.len < block_size n) heap.holes
each_too_small heap n all =
    All-weaker (λ (s : Span). fits (block_size n) s ≡ false) (λ (s : Span). s.len < block_size n) (λ s e. leb-false (block_size n) s.len e) heap.holes all

pub refused_where_none : (heap : Heap) (n : ℕ) → hole_for heap n ≡ None → IsRefused heap n
unfolding hole_for
refused_where_none heap n none =
    elim (cases_Bool (eqb n 0 || leb most_blocks (length heap.blocks))) [
      | inl refused ↦
          elim (or_cases (eqb n 0) (leb most_blocks (length heap.blocks)) refused) [
            | inl empty ↦ inl (eqb-true n 0 empty)
            | inr full ↦ inr (inl (leb-true most_blocks (length heap.blocks) full))
          ]
      | inr asked ↦
          let nowhere : find (fits (block_size n)) heap.holes ≡ None = sym (ap (λ b. cond b None (find (fits (block_size n)) heap.holes)) asked) ∙ none in
          inr (inr (each_too_small heap n (find_fails (fits (block_size n)) heap.holes nowhere)))
    ]

none_where_small : (heap : Heap) (n : ℕ) → All (λ (s : Span). s.len < block_size n) heap.holes → hole_for heap n ≡ None
unfolding hole_for
none_where_small heap n all =
    let fails = All-weaker (λ (s : Span). s.len < block_size n) (λ (s : Span). fits (block_size n) s ≡ false) (λ s e. lt-leb (block_size n) s.len e) heap.holes all in
    let nowhere = fails_find (fits (block_size n)) heap.holes fails in
    elim (cases_Bool (eqb n 0 || leb most_blocks (length heap.blocks))) [
      | inl refused ↦ ap (λ b. cond b None (find (fits (block_size n)) heap.holes)) refused
      | inr asked ↦ ap (λ b. cond b None (find (fits (block_size n)) heap.holes)) asked ∙ nowhere
    ]

pub none_where_refused : (heap : Heap) (n : ℕ) → IsRefused heap n → hole_for heap n ≡ None
none_where_refused heap n (inl empty) = none_for_zero heap n empty
none_where_refused heap n (inr (inl full)) = none_where_full heap n full
none_where_refused heap n (inr (inr small)) = none_where_small heap n small

-- ---- take

-- what is known where a hole answers
pub record Takes (heap : Heap) (n at size : ℕ) (hole : Span) : Type 0 where
  pub answers : hole_for heap n ≡ Some hole
  pub holds : size ≤ hole.len
  pub low : 16 ≤ hole.at
  pub small : end_of hole < 2 ^ 32
  pub rises : Rises 0 0 heap.blocks
  pub avoids : Avoids (record { at = hole.at; len = size }) heap.blocks
  pub some : 0 < size
  pub few : length heap.blocks < most_blocks
  pub holes : take at heap.holes ++ (hole_between (hole.at + size) (end_of hole) ++ drop (at + 1) heap.holes) ≡ (with_block heap (block_size n) hole).holes
  pub blocks : replaced_at hole.at (record { at = hole.at; len = size } ∷ []) heap.blocks ≡ (with_block heap (block_size n) hole).blocks
  pub after : IsSmallHeap (with_block heap (block_size n) hole)

cut_holes : (from at size n : ℕ) (hole : Span) (holes : List Span) → Rises 1 from holes → at < length holes → hole ≡ get_or holes at hole → size ≡ n →
    take at holes ++ (hole_between (hole.at + size) (end_of hole) ++ drop (at + 1) holes) ≡ replaced_at hole.at (hole_between (hole.at + n) (end_of hole)) holes
cut_holes from at size n hole holes r lt read e =
    let next : at + 1 ≡ suc at = omega arith in
    ap (λ m. take at holes ++ (hole_between (hole.at + m) (end_of hole) ++ drop (at + 1) holes)) e
    ∙ ap (λ m. take at holes ++ (hole_between (hole.at + n) (end_of hole) ++ drop m holes)) next
    ∙ sym (replaced_at_place 1 from (hole_between (hole.at + n) (end_of hole)) holes at hole r lt)
    ∙ ap (λ (s : Span). replaced_at s.at (hole_between (hole.at + n) (end_of hole)) holes) (sym read)

pub takes : (heap : Heap) (n at size : ℕ) (hole : Span) → IsSmallHeap heap → IsFirstFit heap n at size → hole ≡ get_or heap.holes at hole → Takes heap n at size hole
takes heap n at size hole is first read =
    let answers : hole_for heap n ≡ Some hole = first.found hole ∙ ap Some (sym read) in
    let why = answered heap n hole answers in
    let inside = hole_inside heap hole is.start is.to (fits (block_size n)) is.is_heap why.first in
    let fit = leb-true (block_size n) hole.len (find_passes (fits (block_size n)) heap.holes hole why.first) in
    let sized = first.sized in
    let holds : size ≤ hole.len = omega arith in
    let few = why.few in
    let asks = why.some in
    let limit = is.small in
    let start = is.from_sixteen in
    record {
      answers = answers;
      holds = holds;
      low = omega (arith, inside.0);
      small = omega (arith, inside.1);
      rises = rises_lower 0 0 is.start heap.blocks (omega arith) (blocks_rise is.start is.to heap.holes heap.blocks is.is_heap.tiles);
      avoids = λ k d lt.
          elim (tiles_apart is.start is.to heap.holes heap.blocks is.is_heap.tiles at k hole d first.within lt) [
            | inl before ↦ inr (omega (arith, ap end_of read))
            | inr behind ↦ inl (omega (arith, ap (λ (s : Span). s.at) read))
          ];
      some = omega arith;
      few = few;
      holes = cut_holes is.start at size (block_size n) hole heap.holes (holes_rise is.start is.to heap.holes heap.blocks is.is_heap.tiles) first.within read sized;
      blocks = ap (λ m. replaced_at hole.at (record { at = hole.at; len = m } ∷ []) heap.blocks) sized;
      after = record {
        start = is.start;
        to = is.to;
        is_heap = with_block_is_heap is.start is.to n heap hole is.is_heap answers;
        from_sixteen = is.from_sixteen;
        small = is.small;
      };
    }

-- ---- give

block_place : (heap : Heap) (at i : ℕ) → IsSmallHeap heap → i ≡ length (starting_below at heap.blocks) → IsPlace 0 at heap.blocks i
block_place heap at i is count =
    subst (IsPlace 0 at heap.blocks) (sym count) (place 0 is.start at heap.blocks (blocks_rise is.start is.to heap.holes heap.blocks is.is_heap.tiles))

block_begins : (heap : Heap) (at i : ℕ) (block : Span) → IsSmallHeap heap → i ≡ length (starting_below at heap.blocks) → i < length heap.blocks →
    block ≡ get_or heap.blocks i block → block.at ≡ at → block_at heap at ≡ Some block
unfolding block_at
block_begins heap at i block is count within read e =
    let split : drop i heap.blocks ≡ block ∷ drop (i + 1) heap.blocks =
    drop_more heap.blocks i block within ∙ ap (λ s. s ∷ drop (i + 1) heap.blocks) (sym read) in
    (block_place heap at i is count).search ∙ ap (find (begins at)) split ∙ found (begins at) block (drop (i + 1) heap.blocks) (eq-eqb block.at at e)

removed_block : (from i : ℕ) (block : Span) (blocks : List Span) → Rises 0 from blocks → i < length blocks → block ≡ get_or blocks i block →
    remove blocks i ≡ replaced_at block.at [] blocks
removed_block from i block blocks r lt read =
    sym (replaced_at_place 0 from [] blocks i block r lt) ∙ ap (λ (s : Span). replaced_at s.at [] blocks) (sym read)

pub no_block : (heap : Heap) (at i : ℕ) → IsSmallHeap heap → i ≡ length (starting_below at heap.blocks) →
    ((d : Span) → i < length heap.blocks → (get_or heap.blocks i d).at ≡ at → ⊥) → block_at heap at ≡ None
unfolding block_at
no_block heap at i is count ne =
    let spot = block_place heap at i is count in
    spot.search ∙ (none_begins 0 at (drop i heap.blocks) spot.rest (rest_begins at heap.blocks i ne)).1

-- the same by what was read at the place, if it is one
pub no_block_read : (heap : Heap) (at i n : ℕ) → IsSmallHeap heap → i ≡ length (starting_below at heap.blocks) → n ≡ length heap.blocks →
    (i ≡ n) ⊎ ((read : Span) × (read ≡ get_or heap.blocks i read) × (read.at ≡ at → ⊥)) → block_at heap at ≡ None
no_block_read heap at i n is count long (inl past) = no_block heap at i is count (λ d lt same. omega arith)
no_block_read heap at i n is count long (inr other) =
    no_block heap at i is count
    (λ d lt same. other.2 (ap (λ (s : Span). s.at) (other.1 ∙ get_or_default heap.blocks i other.0 d lt) ∙ same))

-- what is known where a block begins at an offset
pub record Gives (heap : Heap) (at i : ℕ) (block : Span) : Type 0 where
  pub begins : block_at heap at ≡ Some block
  pub may : MayJoin heap.holes block
  pub room : length (merged block heap.holes) ≤ most_blocks + 1
  pub blocks : remove heap.blocks i ≡ (without_block heap block).blocks
  pub after : IsSmallHeap (without_block heap block)

pub gives_block : (heap : Heap) (at i : ℕ) (block : Span) → IsSmallHeap heap → i ≡ length (starting_below at heap.blocks) → i < length heap.blocks →
    block ≡ get_or heap.blocks i block → block.at ≡ at → Gives heap at i block
gives_block heap at i block is count within read e =
    let begins = block_begins heap at i block is count within read e in
    let after = without_block_is_heap is.start is.to at heap block is.is_heap begins in
    let few = after.few in
    let limit = is.small in
    let tiles = is.is_heap.tiles in
    let size = rises_at 0 is.start heap.blocks i block (blocks_rise is.start is.to heap.holes heap.blocks tiles) within in
    let ends = All-get_or (λ (s : Span). end_of s ≤ is.to) heap.blocks i block within (blocks_inside is.start is.to heap.holes heap.blocks tiles) in
    record {
      begins = begins;
      may = record {
        rises = rises_lower 1 0 is.start heap.holes (omega arith) (holes_rise is.start is.to heap.holes heap.blocks tiles);
        avoids = λ k d lt.
            elim (tiles_apart is.start is.to heap.holes heap.blocks tiles k i d block lt within) [
              | inl before ↦ inl (omega (arith, ap (λ (s : Span). s.at) read))
              | inr behind ↦ inr (omega (arith, ap end_of read))
            ];
        some = omega (arith, size.1, ap (λ (s : Span). s.len) read);
        small = λ k d lt. let h = holes_inside is.start is.to heap.holes heap.blocks tiles k d lt in omega arith;
        ends = omega (arith, ends, ap end_of read);
      };
      room = omega (arith, holes_count is.start is.to (without_block heap block).holes (without_block heap block).blocks after.tiles);
      blocks = removed_block is.start i block heap.blocks (blocks_rise is.start is.to heap.holes heap.blocks tiles) within read;
      after = record { start = is.start; to = is.to; is_heap = after; from_sixteen = is.from_sixteen; small = is.small };
    }

-- ---- heaps by their two lists

pub same_heap : (holes blocks holes' blocks' : List Span) → holes ≡ holes' → blocks ≡ blocks' → ◌≡◌ {A = Heap} (record { holes = holes; blocks = blocks }) (record { holes = holes'; blocks = blocks' })
same_heap holes blocks holes' blocks' e g = cc

pub gives_is : (heap : Heap) (at : ℕ) (o : Option Span) → block_at heap at ≡ o → gives heap at ≡ is_some o
unfolding gives
gives_is heap at o e = ap (λ r. is_some r) e
