-- The first bad number, one number more each time.
use Rattle.std.proofs.Common.{◌≡◌, ℕ, ◌+◌, Bool, true, false, Option, Some, None, refl, sym, subst, arith, below_more}
use Rattle.conf_verify.specs.Search.{IsFirstBad, first_of}

-- a number that isn't bad changes nothing
pub first_stays : (Bad : ℕ → Type 0) (i : ℕ) (before : Option ℕ) → IsFirstBad Bad i before → (Bad i → ⊥) → IsFirstBad Bad (i + 1) before
first_stays Bad i (Some j) is fine = let low = is.0 in (omega (arith, low), is.1, is.2)
first_stays Bad i None is fine = below_more _ _ is fine

first_more : (Bad : ℕ → Type 0) (i : ℕ) (before : Option ℕ) (bad : Bool) → IsFirstBad Bad i before → (bad ≡ true → Bad i) → (bad ≡ false → Bad i → ⊥) →
    IsFirstBad Bad (i + 1) (first_of before bad i)
first_more Bad i (Some j) bad is bad_is bad_isnt = let low = is.0 in (omega (arith, low), is.1, is.2)
first_more Bad i None true is bad_is bad_isnt = (omega arith, bad_is refl, is)
first_more Bad i None false is bad_is bad_isnt = first_stays Bad i None is (bad_isnt refl)

-- the same, of what a loop finds
pub first_next : (Bad : ℕ → Type 0) (i : ℕ) (before after : Option ℕ) (bad : Bool) → IsFirstBad Bad i before → after ≡ first_of before bad i →
    (bad ≡ true → Bad i) → (bad ≡ false → Bad i → ⊥) → IsFirstBad Bad (i + 1) after
first_next Bad i before after bad is e bad_is bad_isnt =
    subst (λ (r : Option ℕ). IsFirstBad Bad (i + 1) r) (sym e) (first_more Bad i before bad is bad_is bad_isnt)

pub first_all : (Bad : ℕ → Type 0) (i bound : ℕ) (r : Option ℕ) → i ≡ bound → IsFirstBad Bad i r → IsFirstBad Bad bound r
first_all Bad i bound r e is = subst (λ (n : ℕ). IsFirstBad Bad n r) e is
