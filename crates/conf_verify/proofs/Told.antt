-- From what breaks a rule to the verdict that is told.
use Rattle.std.proofs.Common.{◌≡◌, ◌≢◌, ℕ, ◌+◌, ◌<◌, Bool, true, false, List, refl, sym, subst, arith, ◌⊎◌, inl, inr}
use Rattle.std.proofs.lemmas.Bool.{true≢false}
use Rattle.cv_word.specs.MemoryMap.{code_base}
use Rattle.code_sweep.specs.declared.item.Placed.{Placed}
use Rattle.code_sweep.specs.Listing.{BreaksAt}
use Rattle.image_form.specs.Image.{Image}
use Rattle.image_form.specs.Table.{IsWrongAt}
use Rattle.conf_verify.specs.declared.rule.Rule.{Rule}
use Rattle.conf_verify.specs.declared.rule.Rule.TheVariants.{V1, V2, V3, V4, V5, V6, V7, V8, V9, V10, V11, V12, V13, V14, V15, V16}
use Rattle.conf_verify.specs.Rules.{BreaksShape, BreaksFlow, is_flow_rule, rule_number}
use Rattle.conf_verify.specs.Verdict.{IsImage, HasListing, BreaksCode, Breaks, Precedes, IsBefore, IsVerdict}
use Rattle.conf_verify.specs.Steps.{IsCodeVerdict, HoldsBelow}
use Rattle.conf_verify.proofs.Order.{same_number}
use Rattle.conf_verify.proofs.One.{one_image, one_chain, one_break, no_break, form_is_right}

-- V1: the least wrong place
only_form : (bytes : List ℕ) (at : ℕ) → ((other : ℕ) → other < at → IsWrongAt bytes other → ⊥) → (rule : Rule) (there : ℕ) → IsBefore rule there V1 at → Breaks rule bytes there → ⊥
only_form bytes at least V1 there (inl h) b = omega arith
only_form bytes at least V1 there (inr h) b = least there h.1 b
only_form bytes at least V2 there (inl h) b = omega arith
only_form bytes at least V2 there (inr h) b = let e = h.0 in omega arith
only_form bytes at least V3 there (inl h) b = omega arith
only_form bytes at least V3 there (inr h) b = let e = h.0 in omega arith
only_form bytes at least V4 there (inl h) b = omega arith
only_form bytes at least V4 there (inr h) b = let e = h.0 in omega arith
only_form bytes at least V5 there (inl h) b = omega arith
only_form bytes at least V5 there (inr h) b = let e = h.0 in omega arith
only_form bytes at least V6 there (inl h) b = omega arith
only_form bytes at least V6 there (inr h) b = let e = h.0 in omega arith
only_form bytes at least V7 there (inl h) b = omega arith
only_form bytes at least V7 there (inr h) b = let e = h.0 in omega arith
only_form bytes at least V8 there (inl h) b = omega arith
only_form bytes at least V8 there (inr h) b = let e = h.0 in omega arith
only_form bytes at least V9 there (inl h) b = omega arith
only_form bytes at least V9 there (inr h) b = let e = h.0 in omega arith
only_form bytes at least V10 there h b = h
only_form bytes at least V11 there h b = h
only_form bytes at least V12 there h b = h
only_form bytes at least V13 there h b = h
only_form bytes at least V14 there h b = h
only_form bytes at least V15 there h b = h
only_form bytes at least V16 there h b = h

pub told_form : (bytes : List ℕ) (at : ℕ) → IsWrongAt bytes at → ((other : ℕ) → other < at → IsWrongAt bytes other → ⊥) → IsVerdict bytes V1 at
told_form bytes at wrong least = record { broken = wrong; first = only_form bytes at least }

-- ---- the bytes of an image break what its code breaks

no_form : (image : Image) (at : ℕ) → BreaksCode V1 image at → ⊥
no_form image at b = elim b.4 [ inl shape ↦ shape | inr flow ↦ true≢false (sym flow.0) ]

in_bytes : (bytes : List ℕ) (image : Image) → IsImage bytes image → (rule : Rule) (at : ℕ) → BreaksCode rule image at → Breaks rule bytes at
in_bytes bytes image is V1 at b = absurd (no_form image at b)
in_bytes bytes image is V2 at b = (image, is, b)
in_bytes bytes image is V3 at b = (image, is, b)
in_bytes bytes image is V4 at b = (image, is, b)
in_bytes bytes image is V5 at b = (image, is, b)
in_bytes bytes image is V6 at b = (image, is, b)
in_bytes bytes image is V7 at b = (image, is, b)
in_bytes bytes image is V8 at b = (image, is, b)
in_bytes bytes image is V9 at b = (image, is, b)
in_bytes bytes image is V10 at b = (image, is, b)
in_bytes bytes image is V11 at b = (image, is, b)
in_bytes bytes image is V12 at b = (image, is, b)
in_bytes bytes image is V13 at b = (image, is, b)
in_bytes bytes image is V14 at b = (image, is, b)
in_bytes bytes image is V15 at b = (image, is, b)
in_bytes bytes image is V16 at b = (image, is, b)

same_code : (bytes : List ℕ) (image : Image) → IsImage bytes image → (rule : Rule) (at : ℕ) → (other : Image) × IsImage bytes other × BreaksCode rule other at → BreaksCode rule image at
same_code bytes image is rule at b = subst (λ (x : Image). BreaksCode rule x at) (one_image bytes b.0 image b.1 is) b.2

in_code : (bytes : List ℕ) (image : Image) → IsImage bytes image → (rule : Rule) (at : ℕ) → Breaks rule bytes at → BreaksCode rule image at
in_code bytes image is V1 at b = absurd (form_is_right bytes image at is b)
in_code bytes image is V2 at b = same_code bytes image is V2 at b
in_code bytes image is V3 at b = same_code bytes image is V3 at b
in_code bytes image is V4 at b = same_code bytes image is V4 at b
in_code bytes image is V5 at b = same_code bytes image is V5 at b
in_code bytes image is V6 at b = same_code bytes image is V6 at b
in_code bytes image is V7 at b = same_code bytes image is V7 at b
in_code bytes image is V8 at b = same_code bytes image is V8 at b
in_code bytes image is V9 at b = same_code bytes image is V9 at b
in_code bytes image is V10 at b = same_code bytes image is V10 at b
in_code bytes image is V11 at b = same_code bytes image is V11 at b
in_code bytes image is V12 at b = same_code bytes image is V12 at b
in_code bytes image is V13 at b = same_code bytes image is V13 at b
in_code bytes image is V14 at b = same_code bytes image is V14 at b
in_code bytes image is V15 at b = same_code bytes image is V15 at b
in_code bytes image is V16 at b = same_code bytes image is V16 at b

pub told_code : (bytes : List ℕ) (image : Image) → IsImage bytes image → (rule : Rule) (at : ℕ) → IsCodeVerdict image rule at → IsVerdict bytes rule at
told_code bytes image is rule at v = record {
  broken = in_bytes bytes image is rule at v.broken;
  first = λ other there h b. v.first other there h (in_code bytes image is other there b);
}

-- ---- what a code breaks, by the kind of the rule

pub data Seen (image : Image) (rule : Rule) (there : ℕ) : Type 0 where
  seen_break : rule ≡ V2 → (place : ℕ) → there ≡ code_base + place → BreaksAt image.prefix image.code place → Seen image rule there
  seen_shape : (items : List Placed) (place : ℕ) → HasListing image items → there ≡ code_base + place → BreaksShape rule image items place → Seen image rule there
  seen_flow : (items : List Placed) (place : ℕ) → is_flow_rule rule ≡ true → HasListing image items → there ≡ code_base + place → BreaksFlow rule items place → Seen image rule there

abbrev OfListing : Rule → Image → ℕ → Type 0
OfListing rule image at = (items : List Placed) × (place : ℕ) × HasListing image items × (at ≡ code_base + place) ×
    (BreaksShape rule image items place ⊎ ((is_flow_rule rule ≡ true) × BreaksFlow rule items place))

see_listing : (image : Image) (rule : Rule) (there : ℕ) → OfListing rule image there → Seen image rule there
see_listing image rule there b =
    elim b.4 [ inl shape ↦ seen_shape b.0 b.1 b.2 b.3 shape | inr flow ↦ seen_flow b.0 b.1 flow.0 b.2 b.3 flow.1 ]

pub see : (image : Image) (rule : Rule) (there : ℕ) → BreaksCode rule image there → Seen image rule there
see image V1 there b = see_listing image V1 there b
see image V2 there b = seen_break refl b.0 b.1 b.2
see image V3 there b = see_listing image V3 there b
see image V4 there b = see_listing image V4 there b
see image V5 there b = see_listing image V5 there b
see image V6 there b = see_listing image V6 there b
see image V7 there b = see_listing image V7 there b
see image V8 there b = see_listing image V8 there b
see image V9 there b = see_listing image V9 there b
see image V10 there b = see_listing image V10 there b
see image V11 there b = see_listing image V11 there b
see image V12 there b = see_listing image V12 there b
see image V13 there b = see_listing image V13 there b
see image V14 there b = see_listing image V14 there b
see image V15 there b = see_listing image V15 there b
see image V16 there b = see_listing image V16 there b

-- a listing's break of a rule is a break of the code's
no_shape_two : (image : Image) (items : List Placed) (place : ℕ) (rule : Rule) → rule ≡ V2 → BreaksShape rule image items place → ⊥
no_shape_two image items place rule two b = subst (λ (r : Rule). BreaksShape r image items place) two b

pub of_listing : (image : Image) (rule : Rule) (there : ℕ) → rule ≢ V2 → OfListing rule image there → BreaksCode rule image there
of_listing image V1 there not b = b
of_listing image V2 there not b = absurd (not refl)
of_listing image V3 there not b = b
of_listing image V4 there not b = b
of_listing image V5 there not b = b
of_listing image V6 there not b = b
of_listing image V7 there not b = b
of_listing image V8 there not b = b
of_listing image V9 there not b = b
of_listing image V10 there not b = b
of_listing image V11 there not b = b
of_listing image V12 there not b = b
of_listing image V13 there not b = b
of_listing image V14 there not b = b
of_listing image V15 there not b = b
of_listing image V16 there not b = b

-- ---- V2: where the chain breaks

before_break : (image : Image) (place : ℕ) → BreaksAt image.prefix image.code place → (rule : Rule) (there : ℕ) → IsBefore rule there V2 (code_base + place) → Seen image rule there → ⊥
before_break image place b rule there h (seen_break two place' here b') =
    let same = one_break image.prefix image.code place' place b' b in
    let g : IsBefore V2 there V2 (code_base + place) = subst (λ (r : Rule). IsBefore r there V2 (code_base + place)) two h in
    elim g [ inl l ↦ omega arith | inr l ↦ let m = l.1 in omega arith ]
before_break image place b rule there h (seen_shape items place' listing here shape) = no_break image.prefix image.code b.before items 0 place b.chain listing b.inside b.none
before_break image place b rule there h (seen_flow items place' flow listing here broken) = no_break image.prefix image.code b.before items 0 place b.chain listing b.inside b.none

pub told_break : (image : Image) (place : ℕ) → BreaksAt image.prefix image.code place → IsCodeVerdict image V2 (code_base + place)
told_break image place b = record {
  broken = (place, refl, b);
  first = λ other there h c. before_break image place b other there h (see image other there c);
}

-- ---- V3 to V9: the least place of the least rule that is broken

before_shape : (f g : Bool) (n there m at : ℕ) → g ≡ false → Precedes f g n there m at → (n < m) ⊎ ((n ≡ m) × (there < at))
before_shape false false n there m at e h = h
before_shape true false n there m at e h = absurd h
before_shape f true n there m at e h = absurd (true≢false e)

not_both : (f g : Bool) (n there m at : ℕ) → f ≡ true → g ≡ false → Precedes f g n there m at → ⊥
not_both true false n there m at e f h = h
not_both false g n there m at e f h = true≢false (sym e)
not_both true true n there m at e f h = true≢false f

sooner_shape : (image : Image) (items : List Placed) → HasListing image items → (rule : Rule) (place : ℕ) → is_flow_rule rule ≡ false →
    ((other : ℕ) → other < place → BreaksShape rule image items other → ⊥) → HoldsBelow image items (rule_number rule) →
    (other : Rule) (there : ℕ) → IsBefore other there rule (code_base + place) → Seen image other there → ⊥
sooner_shape image items listing rule place shape least below other there h (seen_break two place' here b) =
    no_break image.prefix image.code b.before items 0 place' b.chain listing b.inside b.none
sooner_shape image items listing rule place shape least below other there h (seen_shape items' place' listing' here b) =
    let same = one_chain image.prefix image.code items' items 0 listing' listing in
    let b' = subst (λ (l : List Placed). BreaksShape other image l place') same b in
    elim (before_shape (is_flow_rule other) (is_flow_rule rule) (rule_number other) there (rule_number rule) (code_base + place) shape h) [
      | inl lower ↦ below other place' lower b'
      | inr at ↦ let l = at.1 in least place' (omega arith) (subst (λ (r : Rule). BreaksShape r image items place') (same_number other rule at.0) b')
    ]
sooner_shape image items listing rule place shape least below other there h (seen_flow items' place' flow listing' here b) =
    not_both (is_flow_rule other) (is_flow_rule rule) (rule_number other) there (rule_number rule) (code_base + place) flow shape h

pub told_shape : (image : Image) (items : List Placed) → HasListing image items → (rule : Rule) (place : ℕ) → is_flow_rule rule ≡ false →
    BreaksShape rule image items place → ((other : ℕ) → other < place → BreaksShape rule image items other → ⊥) → HoldsBelow image items (rule_number rule) →
    IsCodeVerdict image rule (code_base + place)
told_shape image items listing rule place shape b least below = record {
  broken = of_listing image rule (code_base + place) (λ two. no_shape_two image items place rule two b) (items, place, listing, refl, inl b);
  first = λ other there h c. sooner_shape image items listing rule place shape least below other there h (see image other there c);
}
