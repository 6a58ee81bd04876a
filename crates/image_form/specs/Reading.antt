-- The fields of a file, read from the left.
use Rattle.std.specs.Prelude.{◌≡◌, ℕ, zero, suc, ◌⊎◌, List, [], ◌∷◌, take, drop}
use Rattle.cv_word.specs.Words.{little_endian}
use Rattle.image_form.specs.declared.reading.Header.{Header}
use Rattle.image_form.specs.Image.{Image}
use Rattle.image_form.specs.Table.{Field, IsGoodField, bytes_at, count_in, segment_in, stack_in, code_len_in, public_len_in, private_len_in, code_place, public_place, private_place}

-- the place is that of the first field of the list that is wrong
abbrev pub IsFirstWrong : List ℕ → List Field → ℕ → Type 0
IsFirstWrong file [] place = ⊥
IsFirstWrong file (one ∷ others) place =
    ((place ≡ one.place) × ¬ IsGoodField file one) ⊎ (IsGoodField file one × IsFirstWrong file others place)

-- so many numbers of four bytes
abbrev pub numbers : ℕ → List ℕ → List ℕ
numbers zero bytes = []
numbers (suc count) bytes = little_endian (take 4 bytes) ∷ numbers count (drop 4 bytes)

-- what the fields of a file say
unfoldable pub image_in : List ℕ → Image
image_in file = record {
  prefix = bytes_at file 8 6;
  seg_size = segment_in file;
  stack_size = stack_in file;
  entries = numbers (count_in file) (drop 40 file);
  code = bytes_at file (code_place file) (code_len_in file);
  public = bytes_at file (public_place file) (public_len_in file);
  private = bytes_at file (private_place file) (private_len_in file);
}

-- the numbers of the header
pub record IsHeaderOf (file : List ℕ) (header : Header) : Type 0 where
  pub count : header.count ≡ count_in file
  pub seg_size : header.seg_size ≡ segment_in file
  pub stack_size : header.stack_size ≡ stack_in file
  pub code_len : header.code_len ≡ code_len_in file
  pub public_len : header.public_len ≡ public_len_in file
  pub private_len : header.private_len ≡ private_len_in file
