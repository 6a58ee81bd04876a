-- The memory that all cores share: the code, and two segments that never meet.
use Rattle.std.specs.Prelude.{ℕ, zero, suc, ◌+◌, ◌-◌, ◌==◌, Bool, ◌&&◌, ◌||◌, List, [], ◌∷◌, ◌++◌, length, replicate, nat_le, slice_index}
use Rattle.cv_word.specs.Words.{spliced}
use Rattle.cv_word.specs.MemoryMap.{code_base, first_mapped, is_mapped}
use Rattle.cv_word.specs.declared.registers.Taint.{Taint}
use Rattle.cv_word.specs.declared.registers.Taint.TheVariants.{Pub, Priv}

-- The code, and the bytes of each segment by offset. Both segments have one size in bytes; which offsets are mapped is
-- said by that size alone, and never by a list's length.
pub record Memory : Type 0 where
  pub size : ℕ
  pub code : List ℕ
  pub public : List ℕ
  pub private : List ℕ

-- So many items of a list, from a place on. A place past the end reads as 0, so that there are always so many.
unfoldable pub items_at : List ℕ → ℕ → ℕ → List ℕ
items_at items at zero = []
items_at items at (suc count) = slice_index items at ∷ items_at items (suc at) count

-- ---- ranges of a segment

-- so many bytes of a segment, from an offset on
pub record Range : Type 0 where
  pub segment : Taint
  pub at : ℕ
  pub len : ℕ

-- A range is good in segments of that size where it has no bytes, or where all of them are mapped.
abbrev pub is_good : ℕ → Range → Bool
is_good size range = (range.len == 0) || is_mapped size range.at range.len

-- the bytes of a segment, by offset
abbrev pub bytes_of : Taint → Memory → List ℕ
bytes_of Pub m = m.public
bytes_of Priv m = m.private

abbrev pub with_bytes : Taint → List ℕ → Memory → Memory
with_bytes Pub bytes m = record m { public = bytes }
with_bytes Priv bytes m = record m { private = bytes }

-- the bytes of a range, and the memory with these bytes from its offset on
abbrev pub range_read : Memory → Range → List ℕ
range_read m range = items_at (bytes_of range.segment m) range.at range.len

abbrev pub range_written : Memory → Range → List ℕ → Memory
range_written m range bytes = with_bytes range.segment (spliced (bytes_of range.segment m) range.at bytes) m

-- ---- words at flat addresses

-- the 8 bytes at a flat address lie in the code, or are mapped in the segment with that base
abbrev pub is_code_word : Memory → ℕ → Bool
is_code_word m address = nat_le code_base address && nat_le (address + 8) (code_base + length m.code)

abbrev pub is_segment_word : Memory → ℕ → ℕ → Bool
is_segment_word m base address = nat_le base address && is_mapped m.size (address - base) 8

-- ---- the start

-- so many zeros, some bytes, and zeros up to a size
unfoldable pub padded : ℕ → ℕ → List ℕ → List ℕ
padded before size bytes = replicate before 0 ++ bytes ++ replicate (size - (before + length bytes)) 0

-- the memory at the start: in each segment the start bytes lie from the first mapped offset on, and all else is 0
abbrev pub start_memory : ℕ → List ℕ → List ℕ → List ℕ → Memory
start_memory size code public private =
    record { size = size; code = code; public = padded first_mapped size public; private = padded first_mapped size private }
