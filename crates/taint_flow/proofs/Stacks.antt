-- How often a number stands on a stack, and how many flags are set.
use Rattle.std.proofs.Common.{subst, ◌≡◌, ℕ, ◌+◌, ◌<◌, ◌≤◌, Bool, true, false, cond, eqb, List, [], ◌∷◌, ◌++◌, length, set, get_or, refl, sym, ap, arith}
use Rattle.std.specs.List.{count_by}
use Rattle.std.proofs.lemmas.Bool.{eq-eqb, ne_eqb}
use Rattle.std.specs.List.{All}
use Rattle.std.proofs.lemmas.List.{append-nil, length-append, length_push}
use Rattle.std.proofs.lemmas.List.Elements.{All-head, All-tail, All-cons}
use Rattle.std.proofs.lemmas.List.Sums.{sum_by-set, sum_by_push, sum_by-append}

-- one, where a flag is set
abbrev pub one_if : Bool → ℕ
one_if b = cond b 1 0

pub one_most : (b : Bool) → one_if b ≤ 1
one_most true = omega arith
one_most false = omega arith

abbrev pub times_on : List ℕ → ℕ → ℕ
times_on stack k = count_by (λ n. eqb n k) stack

abbrev pub flags_set : List Bool → ℕ
flags_set flags = count_by (λ b. b) flags

-- a number is pushed, and another one
pub pushed_same : (stack : List ℕ) (j k : ℕ) → k ≡ j → times_on (stack ++ j ∷ []) k ≡ times_on stack k + 1
pushed_same stack j k e =
    let more : times_on (stack ++ j ∷ []) k ≡ times_on stack k + one_if (eqb j k) = sum_by_push (λ (n : ℕ). one_if (eqb n k)) stack j in
    let here : one_if (eqb j k) ≡ 1 = ap one_if (eq-eqb j k (sym e)) in
    omega arith

pub pushed_other : (stack : List ℕ) (j k : ℕ) → (k ≡ j → ⊥) → times_on (stack ++ j ∷ []) k ≡ times_on stack k
pushed_other stack j k n =
    let more : times_on (stack ++ j ∷ []) k ≡ times_on stack k + one_if (eqb j k) = sum_by_push (λ (m : ℕ). one_if (eqb m k)) stack j in
    let other : one_if (eqb j k) ≡ 0 = ap one_if (ne_eqb j k (λ e. n (sym e))) in
    omega arith

-- a number is taken off a stack, from below those above it
pub record TakesOff (stack : List ℕ) (i : ℕ) (rest : List ℕ) : Type 0 where
  pub long : length stack ≡ length rest + 1
  pub same : times_on stack i ≡ times_on rest i + 1
  pub other : (k : ℕ) → (k ≡ i → ⊥) → times_on stack k ≡ times_on rest k
  pub small : (count : ℕ) → All (λ k. k < count) stack → (i < count) × All (λ k. k < count) rest

each_taken : (P : ℕ → Type 0) (below above : List ℕ) (i : ℕ) → All P ((below ++ i ∷ []) ++ above) → P i × All P (below ++ above)
each_taken P [] above i h = (All-head P i above h, All-tail P i above h)
each_taken P (b ∷ bs) above i h =
    let rest = each_taken P bs above i (All-tail P b ((bs ++ i ∷ []) ++ above) h) in
    (rest.0, All-cons P b (bs ++ above) (All-head P b ((bs ++ i ∷ []) ++ above) h) rest.1)

times_both : (xs ys : List ℕ) (k : ℕ) → times_on (xs ++ ys) k ≡ times_on xs k + times_on ys k
times_both xs ys k = sum_by-append (λ (n : ℕ). one_if (eqb n k)) xs ys

pub taken_off : (below above : List ℕ) (i : ℕ) → TakesOff ((below ++ i ∷ []) ++ above) i (below ++ above)
taken_off below above i = record {
  long = (let all = length-append (below ++ i ∷ []) above in
      let most = length-append below above in
      let one = length_push below i in
      omega (arith, all, most, one));
  same = (let all = times_both (below ++ i ∷ []) above i in
      let most = times_both below above i in
      let one = pushed_same below i i refl in
      omega (arith, all, most, one));
  other = λ k n.
      (let all = times_both (below ++ i ∷ []) above k in
      let most = times_both below above k in
      let none = pushed_other below i k n in
      omega (arith, all, most, none));
  small = λ count h. each_taken (λ k. k < count) below above i h;
}

pub top_taken_off : (stack rest : List ℕ) (i : ℕ) → stack ≡ rest ++ i ∷ [] → TakesOff stack i rest
top_taken_off stack rest i e =
    subst (λ (xs : List ℕ). TakesOff xs i rest) (sym e)
    (subst (λ (xs : List ℕ). TakesOff xs i rest) (append-nil (rest ++ i ∷ []))
    (subst (λ (xs : List ℕ). TakesOff ((rest ++ i ∷ []) ++ []) i xs) (append-nil rest) (taken_off rest [] i)))

-- a flag is set, or cleared
pub flag_set : (flags : List Bool) (j : ℕ) → j < length flags → get_or flags j false ≡ false → flags_set (set flags j true) ≡ flags_set flags + 1
flag_set flags j h f =
    let e : flags_set (set flags j true) + one_if (get_or flags j false) ≡ flags_set flags + 1 = sum_by-set one_if flags j true false h in
    let none : one_if (get_or flags j false) ≡ 0 = ap one_if f in
    omega arith

pub flag_cleared : (flags : List Bool) (j : ℕ) → j < length flags → one_if (get_or flags j false) ≡ 1 → flags_set (set flags j false) + 1 ≡ flags_set flags
flag_cleared flags j h one =
    let e : flags_set (set flags j false) + one_if (get_or flags j false) ≡ flags_set flags + 0 = sum_by-set one_if flags j false false h in
    omega arith
