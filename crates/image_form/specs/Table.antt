-- The table of an image file's fields, and where a file that is no image is wrong.
use Rattle.std.specs.Prelude.{◌≡◌, ℕ, ◌+◌, ◌*◌, ◌<◌, ◌≤◌, ◌⊎◌, List, [], ◌∷◌, ◌++◌, length, take, drop, slice_index}
use Rattle.cv_word.specs.Words.{little_endian}
use Rattle.image_form.specs.Image.{IsSegmentSize, IsStackSize, IsEntryCount, IsCodeLength, HasRoom, signature}

-- so many bytes at a place, and the number that four bytes there spell, lowest byte first
abbrev pub bytes_at : List ℕ → ℕ → ℕ → List ℕ
bytes_at file place width = take width (drop place file)

abbrev pub number_at : List ℕ → ℕ → ℕ
number_at file place = little_endian (bytes_at file place 4)

-- what the header says
abbrev pub count_in : List ℕ → ℕ
count_in file = slice_index file 5

abbrev pub segment_in : List ℕ → ℕ
segment_in file = number_at file 16

abbrev pub stack_in : List ℕ → ℕ
stack_in file = number_at file 20

abbrev pub code_len_in : List ℕ → ℕ
code_len_in file = number_at file 24

abbrev pub public_len_in : List ℕ → ℕ
public_len_in file = number_at file 28

abbrev pub private_len_in : List ℕ → ℕ
private_len_in file = number_at file 32

-- where by that the code, the start bytes of both segments and the end of the file come
abbrev pub code_place : List ℕ → ℕ
code_place file = 40 + 4 * count_in file

abbrev pub public_place : List ℕ → ℕ
public_place file = code_place file + code_len_in file

abbrev pub private_place : List ℕ → ℕ
private_place file = public_place file + public_len_in file

abbrev pub end_place : List ℕ → ℕ
end_place file = private_place file + private_len_in file

-- A field: the place of its first byte, how many bytes it has, and what must hold of them.
pub record Field : Type 1 where
  pub place : ℕ
  pub width : ℕ
  pub IsRight : Type 0

abbrev field : ℕ → ℕ → Type 0 → Field
field place width IsRight = record { place = place; width = width; IsRight = IsRight }

-- any bytes will do
abbrev pub AnyBytes : Type 0
AnyBytes = Unit {0}

-- The table, in the order of the places: what the file is, and the sizes,
abbrev pub front_fields : List ℕ → List Field
front_fields file =
    field 0 4 (bytes_at file 0 4 ≡ signature)
    -- the version
    ∷ field 4 1 (bytes_at file 4 1 ≡ 1 ∷ [])
    -- the number of entries
    ∷ field 5 1 (IsEntryCount (count_in file))
    ∷ field 6 2 (bytes_at file 6 2 ≡ 0 ∷ 0 ∷ [])
    -- the prefix
    ∷ field 8 6 AnyBytes
    ∷ field 14 2 (bytes_at file 14 2 ≡ 0 ∷ 0 ∷ [])
    -- the size of a segment and of a stack
    ∷ field 16 4 (IsSegmentSize (segment_in file))
    ∷ field 20 4 (IsStackSize (count_in file) (segment_in file) (stack_in file))
    ∷ []

-- the lengths of the code and of the start bytes, which the file must be long enough for,
abbrev pub length_fields : List ℕ → List Field
length_fields file =
    field 24 4 (IsCodeLength (code_len_in file) × (public_place file ≤ length file))
    ∷ field 28 4 (HasRoom (count_in file) (segment_in file) (stack_in file) (public_len_in file) × (private_place file ≤ length file))
    ∷ field 32 4 (HasRoom (count_in file) (segment_in file) (stack_in file) (private_len_in file) × (end_place file ≤ length file))
    ∷ field 36 4 (bytes_at file 36 4 ≡ 0 ∷ 0 ∷ 0 ∷ 0 ∷ [])
    ∷ []

-- and what stands behind the header, which is whole wherever the lengths are good.
abbrev pub body_fields : List ℕ → List Field
body_fields file =
    -- the entries, four bytes each
    field 40 (4 * count_in file) AnyBytes
    -- the code, and the start bytes of both segments
    ∷ field (code_place file) (code_len_in file) AnyBytes
    ∷ field (public_place file) (public_len_in file) AnyBytes
    ∷ field (private_place file) (private_len_in file) AnyBytes
    -- the end: a byte that stands here is one too many
    ∷ field (end_place file) 0 (length file ≤ end_place file)
    ∷ []

abbrev pub fields : List ℕ → List Field
fields file = front_fields file ++ (length_fields file ++ body_fields file)

-- A field is good where the file holds it whole and it is right.
abbrev pub IsGoodField : List ℕ → Field → Type 0
IsGoodField file one = (one.place + one.width ≤ length file) × one.IsRight

abbrev pub AreGood : List ℕ → List Field → Type 0
AreGood file [] = Unit {0}
AreGood file (one ∷ others) = IsGoodField file one × AreGood file others

-- a wrong field of the list begins at the place
abbrev pub HasWrongAt : List ℕ → List Field → ℕ → Type 0
HasWrongAt file [] place = ⊥
HasWrongAt file (one ∷ others) place =
    ((place ≡ one.place) × ¬ IsGoodField file one) ⊎ HasWrongAt file others place

-- A file is an image where each field of the table is good.
unfoldable pub IsImageFile : List ℕ → Type 0
IsImageFile file = AreGood file (fields file)

unfoldable pub IsWrongAt : List ℕ → ℕ → Type 0
IsWrongAt file place = HasWrongAt file (fields file) place

-- Otherwise its fault is the least place of a wrong field, the end among them.
pub record IsFault (file : List ℕ) (place : ℕ) : Type 0 where
  pub wrong : IsWrongAt file place
  pub least : (other : ℕ) → other < place → ¬ IsWrongAt file other
