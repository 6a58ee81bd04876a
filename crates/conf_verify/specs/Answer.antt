-- What `verify` answers.
use Rattle.std.specs.Prelude.{◌≡◌, ℕ, List}
use Rattle.image_form.specs.Image.{Image}
use Rattle.image_form.specs.View.{view}
use Rattle.image_form.specs.declared.parts.Parts.{Parts}
use Rattle.code_sweep.specs.declared.item.Placed.{Placed}
use Rattle.conf_verify.specs.declared.verdict.VerifyError.{VerifyError}
use Rattle.conf_verify.specs.declared.verdict.VerifyError.TheVariants.{NoMemory, Refused}
use Rattle.conf_verify.specs.Rules.{call_words, other_items}
use Rattle.conf_verify.specs.Verdict.{IsVerdict, HasListing}

-- an image that was checked, with the numbers of its procedures and of its items that are no words
pub record Checked : Type 0 where
  pub image : Image
  pub procedures : ℕ
  pub items : ℕ

-- the image that the parts are
abbrev pub image_of : Parts → Image
image_of parts = view parts

abbrev pub checked_of : Parts → ℕ → ℕ → Checked
checked_of parts procedures items = record { image = view parts; procedures = procedures; items = items }

-- the numbers are those of the image's listing
pub record HasCounts (checked : Checked) : Type 0 where
  pub listing : List Placed
  pub is : HasListing checked.image listing
  pub procedures_is : call_words listing ≡ checked.procedures
  pub items_is : other_items listing ≡ checked.items

-- a refusal tells the verdict; want of memory tells nothing
abbrev pub IsRefusal : List ℕ → VerifyError → Type 0
IsRefusal bytes NoMemory = Unit {0}
IsRefusal bytes (Refused rule at) = IsVerdict bytes rule at
