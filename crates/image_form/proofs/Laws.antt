-- What callers use: a file has one fault at most, and only where it is no image; an image has one spelling.
use Rattle.std.proofs.Common.{◌≡◌, ℕ, List, [], ◌∷◌, sym, ap, ◌∙◌, inl, inr}
use Rattle.image_form.specs.Image.{Image, IsGood, spelling}
use Rattle.image_form.specs.Table.{Field, AreGood, HasWrongAt, IsWrongAt, IsImageFile, fields}
use Rattle.image_form.specs.Reading.{image_in}
use Rattle.image_form.proofs.Spelled.{read_again}

good_has_no_wrong : (file : List ℕ) (fs : List Field) (place : ℕ) → AreGood file fs → HasWrongAt file fs place → ⊥
good_has_no_wrong file [] place g h = h
good_has_no_wrong file (one ∷ others) place g (inl w) = w.1 g.0
good_has_no_wrong file (one ∷ others) place g (inr w) = good_has_no_wrong file others place g.1 w

pub image_has_no_wrong : (file : List ℕ) (place : ℕ) → IsImageFile file → IsWrongAt file place → ⊥
unfolding IsImageFile IsWrongAt
image_has_no_wrong file place g w = good_has_no_wrong file (fields file) place g w

-- what spells a good image is an image file, and the other way round
pub IsImageFile-spelling : (image : Image) → IsGood image → IsImageFile (spelling image)
unfolding IsImageFile
IsImageFile-spelling image good = (read_again image good).good

pub spelling_is_one : (a b : Image) → IsGood a → IsGood b → spelling a ≡ spelling b → a ≡ b
spelling_is_one a b good_a good_b e =
    sym (read_again a good_a).image_is ∙ (ap image_in e ∙ (read_again b good_b).image_is)
