-- What every heap is: from its start to its end, holes and blocks lie end to end. And what follows, offset by offset.
use Rattle.std.specs.Prelude.{◌≡◌, ℕ, ◌+◌, ◌%◌, ◌<◌, ◌≤◌, ◌⊎◌, List, [], ◌∷◌, length, All, Any, AllPairs, Some}
use Rattle.cv_word.specs.Heap.{Span, end_of, Heap, most_blocks, block_size, taken_at}

-- a span takes the bytes from one offset up to another: some, and a multiple of 16
pub record Fills (from to : ℕ) (span : Span) : Type 0 where
  pub begins : span.at ≡ from
  pub ends : end_of span ≡ to
  pub some : from < to
  pub units : span.len % 16 ≡ 0

-- from one offset up to another, these holes and these blocks lie end to end, each list by offset; behind a hole comes a
-- block or the end, so that no two holes touch
pub data Tiles : ℕ → ℕ → List Span → List Span → Type 0 where
  end : {from to : ℕ} → from ≡ to → Tiles from to [] []
  last_hole : {from to : ℕ} {hole : Span} → Fills from to hole → Tiles from to (hole ∷ []) []
  block : {from next to : ℕ} {block : Span} {holes blocks : List Span}
      → Fills from next block → Tiles next to holes blocks → Tiles from to holes (block ∷ blocks)
  hole_and_block : {from middle next to : ℕ} {hole block : Span} {holes blocks : List Span}
      → Fills from middle hole → Fills middle next block → Tiles next to holes blocks
      → Tiles from to (hole ∷ holes) (block ∷ blocks)

-- a heap from a start, a multiple of 16, to an end: no more blocks are out than may be
pub record IsHeap (start to : ℕ) (heap : Heap) : Type 0 where
  pub aligned : start % 16 ≡ 0
  pub tiles : Tiles start to heap.holes heap.blocks
  pub few : length heap.blocks ≤ most_blocks

-- ---- offset by offset

-- a span has the byte at an offset
abbrev pub Has : ℕ → Span → Type 0
Has offset span = (span.at ≤ offset) × (offset < end_of span)

-- a span lies inside the heap, begins at a multiple of 16 and has a multiple of 16 bytes, but not none
pub record IsUnits (start to : ℕ) (span : Span) : Type 0 where
  pub inside : start ≤ span.at
  pub ends : end_of span ≤ to
  pub some : 0 < span.len
  pub begins : span.at % 16 ≡ 0
  pub units : span.len % 16 ≡ 0

-- what is so of every heap: each byte of it is in a hole or in a block and never in two; holes don't touch
pub record IsCovered (start to : ℕ) (heap : Heap) : Type 0 where
  pub covered : (offset : ℕ) → start ≤ offset → offset < to → Any (Has offset) heap.holes ⊎ Any (Has offset) heap.blocks
  pub apart : (offset : ℕ) → Any (Has offset) heap.holes → Any (Has offset) heap.blocks → ⊥
  pub holes_apart : AllPairs (λ lower upper. end_of lower < upper.at) heap.holes
  pub blocks_apart : AllPairs (λ lower upper. end_of lower ≤ upper.at) heap.blocks
  pub holes : All (IsUnits start to) heap.holes
  pub blocks : All (IsUnits start to) heap.blocks
  pub few : length heap.holes ≤ length heap.blocks + 1

-- no byte of the block that answers a request is in a block that is out
pub record IsFree (heap : Heap) (n : ℕ) : Type 0 where
  pub at : (at offset : ℕ) → taken_at heap n ≡ Some at → at ≤ offset → offset < at + block_size n → Any (Has offset) heap.blocks → ⊥

-- why no block answers a request: it is for no bytes, the most blocks are out, or each hole is too small
abbrev pub IsRefused : Heap → ℕ → Type 0
IsRefused heap n = (n ≡ 0) ⊎ ((most_blocks ≤ length heap.blocks) ⊎ All (λ hole. hole.len < block_size n) heap.holes)
