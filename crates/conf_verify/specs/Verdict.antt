-- The verdict on a list of bytes: accepted, or the rule that is told and where.
use Rattle.std.specs.Prelude.{◌≡◌, ℕ, ◌+◌, ◌<◌, Bool, true, false, ◌⊎◌, List}
use Rattle.cv_word.specs.MemoryMap.{code_base}
use Rattle.code_sweep.specs.declared.item.Placed.{Placed}
use Rattle.code_sweep.specs.Listing.{IsListing, BreaksAt}
use Rattle.taint_flow.specs.Flow.{Labelling, MeetsFlow}
use Rattle.image_form.specs.Image.{Image, IsGood, spelling}
use Rattle.image_form.specs.Table.{IsWrongAt}
use Rattle.conf_verify.specs.declared.rule.Rule.{Rule}
use Rattle.conf_verify.specs.declared.rule.Rule.TheVariants.{V1, V2}
use Rattle.conf_verify.specs.Rules.{BreaksShape, BreaksFlow, BreaksUnder, is_flow_rule, rule_number}

-- the bytes are those of a good image
pub record IsImage (bytes : List ℕ) (image : Image) : Type 0 where
  pub good : IsGood image
  pub spelled : bytes ≡ spelling image

-- the image's code is this chain of items
abbrev pub HasListing : Image → List Placed → Type 0
HasListing image items = IsListing image.prefix image.code items

-- An image's code breaks a rule after V1 at an address. V3 and the rules after it speak of the listing.
abbrev pub BreaksCode : Rule → Image → ℕ → Type 0
BreaksCode V2 image at = (place : ℕ) × (at ≡ code_base + place) × BreaksAt image.prefix image.code place
BreaksCode rule image at =
    (items : List Placed) × (place : ℕ) × HasListing image items × (at ≡ code_base + place) ×
    (BreaksShape rule image items place ⊎ ((is_flow_rule rule ≡ true) × BreaksFlow rule items place))

-- Bytes break a rule: V1 at a place in the file where the form is wrong, the others at an address.
abbrev pub Breaks : Rule → List ℕ → ℕ → Type 0
Breaks V1 bytes at = IsWrongAt bytes at
Breaks rule bytes at = (image : Image) × IsImage bytes image × BreaksCode rule image at

-- What is told first: V1 to V9 by their number and then by the place; after these V10 to V16, by the address and then by
-- their number.
abbrev pub Precedes : Bool → Bool → ℕ → ℕ → ℕ → ℕ → Type 0
Precedes false false number there other at = (number < other) ⊎ ((number ≡ other) × (there < at))
Precedes false true number there other at = Unit {0}
Precedes true false number there other at = ⊥
Precedes true true number there other at = (there < at) ⊎ ((there ≡ at) × (number < other))

abbrev pub IsBefore : Rule → ℕ → Rule → ℕ → Type 0
IsBefore rule there other at = Precedes (is_flow_rule rule) (is_flow_rule other) (rule_number rule) there (rule_number other) at

-- the verdict: this rule is broken there, and nothing that would be told before it is
pub record IsVerdict (bytes : List ℕ) (rule : Rule) (at : ℕ) : Type 0 where
  pub broken : Breaks rule bytes at
  pub first : (other : Rule) (there : ℕ) → IsBefore other there rule at → Breaks other bytes there → ⊥

-- An image is accepted where its code has a listing that breaks none of V3 to V9, and some labelling that meets the flow
-- rules breaks none of V10 to V16. (The least labelling is such a one exactly where none of these rules is broken by every
-- labelling.)
pub record IsAcceptedImage (image : Image) : Type 0 where
  pub items : List Placed
  pub listing : HasListing image items
  pub shape : (rule : Rule) (place : ℕ) → BreaksShape rule image items place → ⊥
  pub labels : Labelling
  pub meets : MeetsFlow items labels
  pub flow : (rule : Rule) (place : ℕ) → BreaksUnder rule items labels place → ⊥

-- the bytes are accepted
pub record IsAccepted (bytes : List ℕ) : Type 0 where
  pub image : Image
  pub is : IsImage bytes image
  pub accepted : IsAcceptedImage image
