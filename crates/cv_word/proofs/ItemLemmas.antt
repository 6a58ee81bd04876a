-- So many items of a list, from a place on.
use Rattle.std.proofs.Common.{◌≡◌, ℕ, zero, suc, ◌+◌, ◌-◌, ◌<◌, ◌≤◌, List, ◌∷◌, ◌++◌, length, take, drop, get_or, replicate, min, refl, sym, ◌∙◌, ap, arith, inl, inr, drop-cons, length-take, length-drop}
use Rattle.std.proofs.lemmas.Bool.{cases_lt}
use Rattle.std.proofs.lemmas.Grind.{common_steps}
use Rattle.std.proofs.lemmas.List.{get_or_past}
use Rattle.cv_word.specs.Memory.{items_at}
use Rattle.cv_word.specs.Words.{AreBytes, spliced}

pub length-items_at : (xs : List ℕ) (at count : ℕ) → length (items_at xs at count) ≡ count
unfolding items_at
length-items_at xs at zero = refl
length-items_at xs at (suc count) = ap suc (length-items_at xs (suc at) count)

-- inside a list they are a part of it
pub items_at-inside : (count : ℕ) (xs : List ℕ) (at : ℕ) → at + count ≤ length xs → items_at xs at count ≡ take count (drop at xs)
unfolding items_at
items_at-inside zero xs at h = refl
items_at-inside (suc count) xs at h =
    let first : drop at xs ≡ get_or xs at 0 ∷ drop (suc at) xs = drop-cons xs at 0 (omega arith) in
    ap (λ (l : List ℕ). get_or xs at 0 ∷ l) (items_at-inside count xs (suc at) (omega arith)) ∙ ap (λ (l : List ℕ). take (suc count) l) (sym first)

-- past the end they are zeros
pub items_at-past : (count : ℕ) (xs : List ℕ) (at : ℕ) → length xs ≤ at → items_at xs at count ≡ replicate count 0
unfolding items_at
items_at-past zero xs at h = refl
items_at-past (suc count) xs at h =
    let past : get_or xs at 0 ≡ 0 = get_or_past xs at 0 h in
    let rest : items_at xs (suc at) count ≡ replicate count 0 = items_at-past count xs (suc at) (omega arith) in
    cc

-- some, and those behind them
pub items_at-parts : (first rest : ℕ) (xs : List ℕ) (at : ℕ) → items_at xs at (first + rest) ≡ items_at xs at first ++ items_at xs (at + first) rest
unfolding items_at
items_at-parts zero rest xs at =
    let here : 0 + rest ≡ rest = omega arith in let there : at + 0 ≡ at = omega arith in rw (here, there) refl
items_at-parts (suc first) rest xs at =
    let more : suc first + rest ≡ suc (first + rest) = omega arith in
    let there : suc at + first ≡ at + suc first = omega arith in
    rw (more, ← there) (ap (λ (l : List ℕ). get_or xs at 0 ∷ l) (items_at-parts first rest xs (suc at)))

-- items of a list of bytes are bytes
pub items_at-bytes : (count : ℕ) (xs : List ℕ) (at : ℕ) → AreBytes xs → AreBytes (items_at xs at count)
unfolding items_at
items_at-bytes zero xs at are i = omega arith
items_at-bytes (suc count) xs at are zero = are at
items_at-bytes (suc count) xs at are (suc i) = items_at-bytes count xs (suc at) are i

past_where : (xs : List ℕ) (at count : ℕ) → (0 < count → length xs ≤ at) → items_at xs at count ≡ replicate count 0
unfolding items_at
past_where xs at zero h = refl
past_where xs at (suc count) h = items_at-past (suc count) xs at (h (omega arith))

joined : {a b c d : List ℕ} → a ≡ b → c ≡ d → a ++ c ≡ b ++ d
joined e f = cc

-- so many items are those that the list has, and then zeros
pub items_at-padded : (xs : List ℕ) (at count start have : ℕ) → start ≡ min at (length xs) → have ≡ min count (length xs - start)
    → take have (drop start xs) ++ replicate (count - have) 0 ≡ items_at xs at count
items_at-padded xs at count start have s h =
    elim (cases_lt at (length xs)) [
      | inl inside ↦
          let there : start ≡ at = omega arith in
          let all : count ≡ have + (count - have) = omega arith in
          let front : items_at xs at have ≡ take have (drop at xs) = items_at-inside have xs at (omega arith) in
          let back : items_at xs (at + have) (count - have) ≡ replicate (count - have) 0 = past_where xs (at + have) (count - have) (λ some. omega arith) in
          let both : items_at xs at (have + (count - have)) ≡ items_at xs at have ++ items_at xs (at + have) (count - have) = items_at-parts have (count - have) xs at in
          rw (there) (sym (ap (λ (n : ℕ). items_at xs at n) all ∙ both ∙ joined front back))
      | inr past ↦
          let none : have ≡ 0 = omega arith in
          let all : count - 0 ≡ count = omega arith in
          rw (none, all) (sym (items_at-past count xs at (omega arith)))
    ]

front_of : (old piece : List ℕ) (have : ℕ) → length piece ≡ have → have ≤ length old
    → take have (spliced old 0 piece) ++ replicate (length (spliced old 0 piece) - have) 0 ≡ piece ++ replicate (length old - have) 0
front_of old piece have long h = grind (arith, common_steps)

-- items written to the front, and zeros behind them
pub filled : (old xs : List ℕ) (at start have : ℕ) → start ≡ min at (length xs) → have ≡ min (length old) (length xs - start)
    → take have (spliced old 0 (take (start + have - start) (drop start xs))) ++ replicate (length (spliced old 0 (take (start + have - start) (drop start xs))) - have) 0
    ≡ items_at xs at (length old)
filled old xs at start have s h =
    let piece : List ℕ = take have (drop start xs) in
    let long : length piece ≡ have = simp (length-take, length-drop) (omega arith) in
    let e : start + have - start ≡ have = omega arith in
    rw (e) (front_of old piece have long (omega arith) ∙ items_at-padded xs at (length old) start have s h)
