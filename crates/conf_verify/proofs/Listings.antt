-- The listing of bytes is one, and which verdicts leave it.
use Rattle.std.proofs.Common.{◌≡◌, ℕ, Bool, true, false, List, refl, sym, ◌∙◌, ap, subst, Result, Ok, Err, IfErr}
use Rattle.code_sweep.specs.declared.item.Placed.{Placed}
use Rattle.image_form.specs.Image.{Image}
use Rattle.conf_verify.specs.declared.rule.Rule.{Rule}
use Rattle.conf_verify.specs.declared.rule.Rule.TheVariants.{V1, V2, V3, V4, V5, V6, V7, V8, V9, V10, V11, V12, V13, V14, V15, V16}
use Rattle.conf_verify.specs.declared.verdict.VerifyError.{VerifyError}
use Rattle.conf_verify.specs.declared.verdict.VerifyError.TheVariants.{NoMemory, Refused}
use Rattle.conf_verify.specs.Verdict.{IsImage, HasListing, Breaks}
use Rattle.conf_verify.specs.Answer.{IsRefusal}
use Rattle.conf_verify.specs.Steps.{IsCodeRefusal}
use Rattle.conf_verify.specs.Listed.{IsListed, is_listing_rule, IsByListingRule, IsUnlisted, IsListRefusal}
use Rattle.conf_verify.proofs.One.{one_image, one_chain, no_break, form_is_right}
use Rattle.conf_verify.proofs.Ends.{raise}

-- a refusal with the verdict, by a rule without which there is no listing
pub list_refusal : (bytes : List ℕ) (error : VerifyError) → IsRefusal bytes error → IsByListingRule error → IsListRefusal bytes error
list_refusal bytes NoMemory r e = tt
list_refusal bytes (Refused rule at) r e = record { verdict = r; by_listing = e }

pub code_list_refusal : (bytes : List ℕ) (image : Image) (error : VerifyError) → IsImage bytes image → IsCodeRefusal image error → IsByListingRule error → IsListRefusal bytes error
code_list_refusal bytes image error is r e = list_refusal bytes error (raise bytes image error is r) e

pub result_refusal : {A : Type 0} (bytes : List ℕ) (image : Image) (result : Result A VerifyError) → IsImage bytes image →
    IfErr result (λ error. IsCodeRefusal image error) → IfErr result (λ error. IsByListingRule error) → IfErr result (λ error. IsListRefusal bytes error)
result_refusal bytes image (Ok a) is r e = tt
result_refusal bytes image (Err error) is r e = code_list_refusal bytes image error is r e

pub one_code : (bytes code other : List ℕ) (items others : List Placed) → IsListed bytes code items → IsListed bytes other others → code ≡ other
one_code bytes code other items others x y = x.code_is ∙ ap (λ (i : Image). i.code) (one_image bytes x.image y.image x.is y.is) ∙ sym y.code_is

pub one_items : (bytes code other : List ℕ) (items others : List Placed) → IsListed bytes code items → IsListed bytes other others → items ≡ others
one_items bytes code other items others x y =
    let yours : HasListing x.image others = subst (λ (i : Image). HasListing i others) (one_image bytes y.image x.image y.is x.is) y.listing in
    one_chain x.image.prefix x.image.code items others 0 x.listing yours

true_is_false : (b : Bool) → b ≡ true → b ≡ false → ⊥
true_is_false b e f = cc

unbroken : (bytes code : List ℕ) (items : List Placed) (rule : Rule) (at : ℕ) → IsListed bytes code items → is_listing_rule rule ≡ true → Breaks rule bytes at → ⊥
unbroken bytes code items V1 at x e broken = form_is_right bytes x.image at x.is broken
unbroken bytes code items V2 at x e broken =
    let mine : HasListing broken.0 items = subst (λ (i : Image). HasListing i items) (one_image bytes x.image broken.0 x.is broken.1) x.listing in
    let break = broken.2.2 in
    no_break broken.0.prefix broken.0.code break.before items 0 broken.2.0 break.chain mine break.inside break.none
unbroken bytes code items _ at x e broken = absurd (true_is_false false e refl)

pub no_listing : (bytes code : List ℕ) (items : List Placed) (rule : Rule) (at : ℕ) → IsListed bytes code items → IsUnlisted bytes rule at → ⊥
no_listing bytes code items rule at x y = unbroken bytes code items rule at x y.by_listing y.verdict.broken

-- some code and some items are the listing of the bytes
abbrev pub HasItems : List ℕ → Type 0
HasItems bytes = (code : List ℕ) × (items : List Placed) × IsListed bytes code items

pub listed : (bytes : List ℕ) (image : Image) (items : List Placed) → IsImage bytes image → HasListing image items → HasItems bytes
listed bytes image items is listing = (image.code, items, record { image = image; is = is; code_is = refl; listing = listing })

pub broken_later : (bytes : List ℕ) (rule : Rule) (at : ℕ) → Breaks rule bytes at → is_listing_rule rule ≡ false → HasItems bytes
broken_later bytes V1 at broken e = absurd (true_is_false _ refl e)
broken_later bytes V2 at broken e = absurd (true_is_false _ refl e)
broken_later bytes V3 at broken e = listed bytes broken.0 broken.2.0 broken.1 broken.2.2
broken_later bytes V4 at broken e = listed bytes broken.0 broken.2.0 broken.1 broken.2.2
broken_later bytes V5 at broken e = listed bytes broken.0 broken.2.0 broken.1 broken.2.2
broken_later bytes V6 at broken e = listed bytes broken.0 broken.2.0 broken.1 broken.2.2
broken_later bytes V7 at broken e = listed bytes broken.0 broken.2.0 broken.1 broken.2.2
broken_later bytes V8 at broken e = listed bytes broken.0 broken.2.0 broken.1 broken.2.2
broken_later bytes V9 at broken e = listed bytes broken.0 broken.2.0 broken.1 broken.2.2
broken_later bytes V10 at broken e = listed bytes broken.0 broken.2.0 broken.1 broken.2.2
broken_later bytes V11 at broken e = listed bytes broken.0 broken.2.0 broken.1 broken.2.2
broken_later bytes V12 at broken e = listed bytes broken.0 broken.2.0 broken.1 broken.2.2
broken_later bytes V13 at broken e = listed bytes broken.0 broken.2.0 broken.1 broken.2.2
broken_later bytes V14 at broken e = listed bytes broken.0 broken.2.0 broken.1 broken.2.2
broken_later bytes V15 at broken e = listed bytes broken.0 broken.2.0 broken.1 broken.2.2
broken_later bytes V16 at broken e = listed bytes broken.0 broken.2.0 broken.1 broken.2.2
