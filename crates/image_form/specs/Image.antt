-- Images, version 1: their limits, and the bytes that spell them.
use Rattle.std.specs.Prelude.{◌≡◌, ℕ, ◌+◌, ◌*◌, ◌%◌, ◌^◌, ◌<◌, ◌≤◌, List, [], ◌∷◌, length, slice_index}
use Rattle.std.specs.List.{concat, flat_map}
use Rattle.cv_word.specs.Words.{word_bytes}

-- what an image file holds, as plain data
pub record Image : Type 0 where
  -- the six bytes that mark the words of the code
  pub prefix : List ℕ
  -- how many bytes each segment has
  pub seg_size : ℕ
  -- how many bytes each core's stack has
  pub stack_size : ℕ
  -- for each core the offset in the code at which it starts
  pub entries : List ℕ
  -- the bytes of the code
  pub code : List ℕ
  -- the start bytes of the public and of the private segment, which lie from offset 4096 on
  pub public : List ℕ
  pub private : List ℕ

-- a segment is a whole number of pages of 4096 bytes, from 65,536 bytes to 64 MiB
abbrev pub IsSegmentSize : ℕ → Type 0
IsSegmentSize size = (size % 4096 ≡ 0) × (65536 ≤ size) × (size ≤ 67108864)

-- so many stacks of the size fit into the segment, behind its first 4096 bytes, which no access reaches
abbrev pub IsStackSize : ℕ → ℕ → ℕ → Type 0
IsStackSize count segment size =
    (size % 16 ≡ 0) × (256 ≤ size) × (4096 + count * size ≤ segment)

-- one entry for each core
abbrev pub IsEntryCount : ℕ → Type 0
IsEntryCount count = (1 ≤ count) × (count ≤ 8)

-- the code has a byte at least, and at most 4 MiB
abbrev pub IsCodeLength : ℕ → Type 0
IsCodeLength len = (1 ≤ len) × (len ≤ 4194304)

-- so many start bytes fit between a segment's first 4096 bytes and its stacks
abbrev pub HasRoom : ℕ → ℕ → ℕ → ℕ → Type 0
HasRoom count segment stack len = 4096 + len + count * stack ≤ segment

-- the limits of an image
pub record IsGood (image : Image) : Type 0 where
  pub prefix_len : length image.prefix ≡ 6
  pub seg_size : IsSegmentSize image.seg_size
  pub stack_size : IsStackSize (length image.entries) image.seg_size image.stack_size
  pub entry_count : IsEntryCount (length image.entries)
  pub entries : (k : ℕ) → slice_index image.entries k < 2 ^ 32
  pub code : IsCodeLength (length image.code)
  pub public : HasRoom (length image.entries) image.seg_size image.stack_size (length image.public)
  pub private : HasRoom (length image.entries) image.seg_size image.stack_size (length image.private)

-- `CFVI`
abbrev pub signature : List ℕ
signature = 67 ∷ 70 ∷ 86 ∷ 73 ∷ []

-- a number in four bytes, lowest byte first
abbrev pub word : ℕ → List ℕ
word n = word_bytes 4 n

-- the bytes of an image: the header of 40 bytes, the entries, the code, and the start bytes of both segments
unfoldable pub spelling : Image → List ℕ
spelling image = concat (
    signature
    ∷ (1 ∷ [])
    ∷ (length image.entries ∷ [])
    ∷ (0 ∷ 0 ∷ [])
    ∷ image.prefix
    ∷ (0 ∷ 0 ∷ [])
    ∷ word image.seg_size
    ∷ word image.stack_size
    ∷ word (length image.code)
    ∷ word (length image.public)
    ∷ word (length image.private)
    ∷ (0 ∷ 0 ∷ 0 ∷ 0 ∷ [])
    ∷ flat_map word image.entries
    ∷ image.code
    ∷ image.public
    ∷ image.private
    ∷ [])
