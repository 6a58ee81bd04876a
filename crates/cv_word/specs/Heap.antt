-- The heap of a segment: two lists by offset, its holes, which are free, and its blocks, which are out. A request takes the
-- front of the first hole that holds it; a block that is given back joins the holes, merged with those that it touches.
-- Offsets and sizes are plain numbers, so that a request near 2 ^ 64 is rounded up like any other.
use Rattle.std.specs.Prelude.{ℕ, ◌+◌, ◌-◌, ◌*◌, ◌/◌, Bool, ◌==◌, ◌||◌, nat_lt, nat_le, if◌then◌else◌, Option, None, is_some, List, [], ◌∷◌, ◌++◌, length, filter, find}
use Rattle.std.specs.Option.{option_map, option_map_or}

-- so many bytes from an offset on
pub record Span : Type 0 where
  pub at : ℕ
  pub len : ℕ

abbrev pub end_of : Span → ℕ
end_of span = span.at + span.len

abbrev pub span_between : ℕ → ℕ → Span
span_between from to = record { at = from; len = to - from }

pub record Heap : Type 0 where
  pub holes : List Span
  pub blocks : List Span

-- the blocks of one heap that may be out
abbrev pub most_blocks : ℕ
most_blocks = 4096

-- the hole from an offset up to another, or none where no byte lies between
abbrev pub hole_between : ℕ → ℕ → List Span
hole_between from to = if nat_lt from to then span_between from to ∷ [] else []

-- a heap from an offset up to another, of which nothing is out
abbrev pub fresh_heap : ℕ → ℕ → Heap
fresh_heap start end = record { holes = hole_between start end; blocks = [] }

-- the spans of a list that begin below an offset, that begin above one, and that end below one
abbrev pub starting_below : ℕ → List Span → List Span
starting_below at spans = filter (λ span. nat_lt span.at at) spans

abbrev pub starting_above : ℕ → List Span → List Span
starting_above at spans = filter (λ span. nat_lt at span.at) spans

abbrev pub ending_below : ℕ → List Span → List Span
ending_below at spans = filter (λ span. nat_lt (end_of span) at) spans

-- a list by offset with these spans at an offset, in place of the one that began there, if one did
abbrev pub replaced_at : ℕ → List Span → List Span → List Span
replaced_at at new spans = starting_below at spans ++ (new ++ starting_above at spans)

-- ---- take

-- a request rounded up to a multiple of 16
abbrev pub block_size : ℕ → ℕ
block_size n = (n + 15) / 16 * 16

-- the first hole that holds a request; none where it is for no bytes, or where the most blocks are out
unfoldable pub hole_for : Heap → ℕ → Option Span
hole_for heap n =
    if (n == 0) || nat_le most_blocks (length heap.blocks) then None
    else find (λ hole. nat_le (block_size n) hole.len) heap.holes

-- the heap with the front of one of its holes made a block of this size
abbrev pub with_block : Heap → ℕ → Span → Heap
with_block heap size hole = record {
  holes = replaced_at hole.at (hole_between (hole.at + size) (end_of hole)) heap.holes;
  blocks = replaced_at hole.at (record { at = hole.at; len = size } ∷ []) heap.blocks;
}

-- where the block begins that answers a request, if one does
unfoldable pub taken_at : Heap → ℕ → Option ℕ
taken_at heap n = option_map (λ hole. hole.at) (hole_for heap n)

-- the heap after a request; as before where no block answers it
unfoldable pub after_take : Heap → ℕ → Heap
after_take heap n = option_map_or (with_block heap (block_size n)) (hole_for heap n) heap

-- ---- give

-- the block that begins exactly at an offset
unfoldable pub block_at : Heap → ℕ → Option Span
block_at heap at = find (λ block. block.at == at) heap.blocks

-- where the hole begins that ends at an offset, or the offset itself
abbrev pub free_from : ℕ → List Span → ℕ
free_from at holes = option_map_or (λ hole. hole.at) (find (λ hole. end_of hole == at) holes) at

-- where the hole ends that begins at an offset, or the offset itself
abbrev pub free_to : ℕ → List Span → ℕ
free_to at holes = option_map_or end_of (find (λ hole. hole.at == at) holes) at

-- the holes and a block as one more, merged with those that it touches
abbrev pub merged : Span → List Span → List Span
merged block holes =
    ending_below block.at holes
    ++ span_between (free_from block.at holes) (free_to (end_of block) holes) ∷ starting_above (end_of block) holes

-- the heap with one of its blocks made a hole
abbrev pub without_block : Heap → Span → Heap
without_block heap block = record {
  holes = merged block heap.holes;
  blocks = replaced_at block.at [] heap.blocks;
}

-- whether a block begins exactly at an offset
unfoldable pub gives : Heap → ℕ → Bool
gives heap at = is_some (block_at heap at)

-- the heap after the block at an offset is given back; as before where none begins there
unfoldable pub after_give : Heap → ℕ → Heap
after_give heap at = option_map_or (without_block heap) (block_at heap at) heap
