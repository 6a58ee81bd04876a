-- The bytes of an image as one chain of items, or why there is none.
use Rattle.std.specs.Prelude.{◌≡◌, ℕ, Bool, true, false, List}
use Rattle.code_sweep.specs.declared.item.Placed.{Placed}
use Rattle.image_form.specs.Image.{Image}
use Rattle.conf_verify.specs.declared.rule.Rule.{Rule}
use Rattle.conf_verify.specs.declared.rule.Rule.TheVariants.{V1, V2}
use Rattle.conf_verify.specs.declared.verdict.VerifyError.{VerifyError}
use Rattle.conf_verify.specs.declared.verdict.VerifyError.TheVariants.{NoMemory, Refused}
use Rattle.conf_verify.specs.Verdict.{IsImage, HasListing, IsVerdict}

-- the bytes are those of a good image, and this is its code, with the chain of its items
pub record IsListed (bytes code : List ℕ) (items : List Placed) : Type 0 where
  pub image : Image
  pub is : IsImage bytes image
  pub code_is : code ≡ image.code
  pub listing : HasListing image items

-- the rules without which there is no listing; those after them speak of the listing
abbrev pub is_listing_rule : Rule → Bool
is_listing_rule V1 = true
is_listing_rule V2 = true
is_listing_rule _ = false

-- a refusal is by one of these rules
abbrev pub IsByListingRule : VerifyError → Type 0
IsByListingRule NoMemory = Unit {0}
IsByListingRule (Refused rule at) = is_listing_rule rule ≡ true

-- the verdict on the bytes is by one of these rules
pub record IsUnlisted (bytes : List ℕ) (rule : Rule) (at : ℕ) : Type 0 where
  pub verdict : IsVerdict bytes rule at
  pub by_listing : is_listing_rule rule ≡ true

-- a refusal to list the bytes tells their verdict, and that is by one of these rules; want of memory tells nothing
abbrev pub IsListRefusal : List ℕ → VerifyError → Type 0
IsListRefusal bytes NoMemory = Unit {0}
IsListRefusal bytes (Refused rule at) = IsUnlisted bytes rule at
