-- The least bad entry, one entry more each time.
use Rattle.std.proofs.Common.{◌≡◌, ℕ, ◌+◌, ◌<◌, min, Bool, true, false, not, List, length, slice_index, Option, Some, None, refl, sym, ◌∙◌, ap, subst, arith, ◌⊎◌, inl, inr}
use Rattle.std.proofs.lemmas.Bool.{cases_order, cases_lt}
use Rattle.std.proofs.lemmas.Option.{slice_get_within, slice_get-get_or, get_or_from_slice_get}
use Rattle.code_sweep.specs.declared.item.Placed.{Placed}
use Rattle.conf_verify.specs.Rules.{BreaksEntries, FollowsCallWord}
use Rattle.conf_verify.specs.Search.{IsLeastBad, least_of}

-- the same numbers are bad
least_same : (Bad Other : ℕ → Type 0) (r : Option ℕ) → ((n : ℕ) → Bad n → Other n) → ((n : ℕ) → Other n → Bad n) → IsLeastBad Bad r → IsLeastBad Other r
least_same Bad Other (Some low) to from is = (to low is.0, λ n below bad. is.1 n below (from n bad))
least_same Bad Other None to from is = λ n bad. is n (from n bad)

-- one more number is bad
least_more : (Bad More : ℕ → Type 0) (before : Option ℕ) (here : ℕ) → IsLeastBad Bad before → ((n : ℕ) → Bad n → More n) → More here →
    ((n : ℕ) → More n → Bad n ⊎ (n ≡ here)) → IsLeastBad More (least_of before true here)
least_more Bad More None here is to bad from =
    (bad, λ n below more. elim (from n more) [ inl old ↦ is n old | inr same ↦ omega arith ])
least_more Bad More (Some low) here is to bad from =
    elim (cases_lt low here) [
      | inl lower ↦
          let e : min low here ≡ low = omega arith in
          (subst (λ (n : ℕ). More n) (sym e) (to low is.0), λ n below more. elim (from n more) [ inl old ↦ is.1 n (omega arith) old | inr same ↦ omega arith ])
      | inr above ↦
          let e : min low here ≡ here = omega arith in
          (subst (λ (n : ℕ). More n) (sym e) bad, λ n below more. elim (from n more) [ inl old ↦ is.1 n (omega arith) old | inr same ↦ omega arith ])
    ]

-- a number that isn't bad changes nothing
least_stays : (before : Option ℕ) (n : ℕ) → before ≡ least_of before false n
least_stays (Some low) n = refl
least_stays None n = refl

-- one of the first entries, so many, is the place, and follows no call word
abbrev pub BreaksBelow : List ℕ → List Placed → ℕ → ℕ → Type 0
BreaksBelow entries items bound place = (n : ℕ) × (n < bound) × (slice_index entries n ≡ place) × (FollowsCallWord items place → ⊥)

below_more : (entries : List ℕ) (items : List Placed) (k place : ℕ) → BreaksBelow entries items k place → BreaksBelow entries items (k + 1) place
below_more entries items k place b = (b.0, let low = b.1 in omega arith, b.2, b.3)

below_last : (entries : List ℕ) (items : List Placed) (k place : ℕ) → BreaksBelow entries items (k + 1) place → BreaksBelow entries items k place ⊎ (place ≡ slice_index entries k)
below_last entries items k place b =
    elim (cases_order b.0 k) [
      | inl same ↦ inr (sym b.2 ∙ ap (λ n. slice_index entries n) same)
      | inr h ↦ elim h [ inl low ↦ inl (b.0, low, b.2, b.3) | inr high ↦ absurd (let low = b.1 in omega arith) ]
    ]

below_good : (entries : List ℕ) (items : List Placed) (k : ℕ) → FollowsCallWord items (slice_index entries k) → (place : ℕ) → BreaksBelow entries items (k + 1) place →
    BreaksBelow entries items k place
below_good entries items k good place b =
    elim (below_last entries items k place b) [
      | inl low ↦ low
      | inr same ↦ absurd (b.3 (subst (λ (n : ℕ). FollowsCallWord items n) (sym same) good))
    ]

next : (entries : List ℕ) (items : List Placed) (k : ℕ) (before : Option ℕ) (follows : Bool) → IsLeastBad (BreaksBelow entries items k) before →
    (follows ≡ true → FollowsCallWord items (slice_index entries k)) → (follows ≡ false → FollowsCallWord items (slice_index entries k) → ⊥) →
    IsLeastBad (BreaksBelow entries items (k + 1)) (least_of before (not follows) (slice_index entries k))
next entries items k before false is does doesnt =
    least_more (BreaksBelow entries items k) (BreaksBelow entries items (k + 1)) before (slice_index entries k) is (below_more entries items k)
    (k, omega arith, refl, doesnt refl) (below_last entries items k)
next entries items k before true is does doesnt =
    subst (λ (r : Option ℕ). IsLeastBad (BreaksBelow entries items (k + 1)) r) (least_stays before (slice_index entries k))
    (least_same (BreaksBelow entries items k) (BreaksBelow entries items (k + 1)) before (below_more entries items k) (below_good entries items k (does refl)) is)

-- what the loop finds
pub least_next : (entries : List ℕ) (items : List Placed) (k : ℕ) (before after : Option ℕ) (follows : Bool) → IsLeastBad (BreaksBelow entries items k) before →
    after ≡ least_of before (not follows) (slice_index entries k) →
    (follows ≡ true → FollowsCallWord items (slice_index entries k)) → (follows ≡ false → FollowsCallWord items (slice_index entries k) → ⊥) →
    IsLeastBad (BreaksBelow entries items (k + 1)) after
least_next entries items k before after follows is e does doesnt =
    subst (λ (r : Option ℕ). IsLeastBad (BreaksBelow entries items (k + 1)) r) (sym e) (next entries items k before follows is does doesnt)

-- of all entries
from_below : (entries : List ℕ) (items : List Placed) (place : ℕ) → BreaksBelow entries items (length entries) place → BreaksEntries entries items place
from_below entries items place b = (b.0, place, slice_get-get_or entries b.0 0 b.1 ∙ ap Some b.2, refl, b.3)

to_below : (entries : List ℕ) (items : List Placed) (place : ℕ) → BreaksEntries entries items place → BreaksBelow entries items (length entries) place
to_below entries items place b =
    (b.0, slice_get_within entries b.0 b.1 b.2, get_or_from_slice_get entries b.0 b.1 0 b.2 ∙ b.3, b.4)

pub least_all : (entries : List ℕ) (items : List Placed) (k : ℕ) (r : Option ℕ) → k ≡ length entries → IsLeastBad (BreaksBelow entries items k) r → IsLeastBad (BreaksEntries entries items) r
least_all entries items k r e is =
    least_same (BreaksBelow entries items (length entries)) (BreaksEntries entries items) r (from_below entries items) (to_below entries items)
    (subst (λ (n : ℕ). IsLeastBad (BreaksBelow entries items n) r) e is)
