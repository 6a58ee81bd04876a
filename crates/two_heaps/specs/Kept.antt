-- Spans in a list by offset, and what the two vectors of a heap hold.
use Rattle.std.specs.Prelude.{◌≡◌, ℕ, ◌+◌, ◌^◌, ◌<◌, ◌≤◌, ◌⊎◌, List, [], ◌∷◌, length, take, drop, find, ◌==◌, Bool, Some, slice_index_or, All}
use Rattle.cv_word.specs.Heap.{Span, end_of, starting_below, starting_above, Heap, most_blocks, block_size, hole_for}
use Rattle.two_heaps.specs.Tiling.{IsHeap}

-- none is empty, the first begins at an offset or above, and each further one at least so many bytes behind the one before
abbrev pub Rises : ℕ → ℕ → List Span → Type 0
Rises gap from [] = Unit {0}
Rises gap from (span ∷ spans) = (from ≤ span.at) × (0 < span.len) × Rises gap (end_of span + gap) spans

-- none has a byte in common with a span
abbrev pub Avoids : Span → List Span → Type 0
Avoids span spans = All (λ other. (end_of other ≤ span.at) ⊎ (end_of span ≤ other.at)) spans

abbrev pub begins : ℕ → Span → Bool
begins at span = span.at == at

-- so many spans of a list begin below an offset: they are the list's front, and what begins at the offset or above, the rest
pub record IsPlace (gap at : ℕ) (spans : List Span) (place : ℕ) : Type 0 where
  pub within : place ≤ length spans
  pub front : starting_below at spans ≡ take place spans
  pub above : starting_above at spans ≡ starting_above at (drop place spans)
  pub rest : Rises gap at (drop place spans)
  pub search : find (begins at) spans ≡ find (begins at) (drop place spans)

-- a span stands at a place of a list
pub record StandsAt (spans : List Span) (place : ℕ) (span : Span) : Type 0 where
  pub within : place < length spans
  pub is : slice_index_or spans place span ≡ span

-- a block may join these holes
pub record MayJoin (holes : List Span) (block : Span) : Type 0 where
  pub rises : Rises 1 0 holes
  pub avoids : Avoids block holes
  pub some : 0 < block.len
  pub small : All (λ hole. end_of hole < 2 ^ 32) holes
  pub ends : end_of block < 2 ^ 32

-- a heap below 2 ^ 32
pub record IsSmallHeap (heap : Heap) : Type 0 where
  pub start : ℕ
  pub to : ℕ
  pub is_heap : IsHeap start to heap
  pub from_sixteen : 16 ≤ start
  pub small : to < 2 ^ 32

-- the capacities have room for the most blocks, and for one hole more
pub record HasRoom (hole_room block_room : ℕ) : Type 0 where
  pub holes : most_blocks + 1 ≤ hole_room
  pub blocks : most_blocks ≤ block_room

-- the hole at a place answers a request, with a block of that size
pub record IsFirstFit (heap : Heap) (n place size : ℕ) : Type 0 where
  pub within : place < length heap.holes
  pub sized : size ≡ block_size n
  pub found : (d : Span) → hole_for heap n ≡ Some (slice_index_or heap.holes place d)
