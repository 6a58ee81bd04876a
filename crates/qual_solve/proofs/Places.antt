-- Places of a list with one item more.
use Rattle.std.proofs.Common.{◌≡◌, ℕ, ◌+◌, ◌-◌, ◌<◌, inl, inr, List, [], ◌∷◌, ◌++◌, length, get_or, refl, ◌∙◌, ap, arith, length-append}
use Rattle.std.proofs.lemmas.Bool.{cases_lt}
use Rattle.std.proofs.lemmas.List.{get_or_append_left, get_or-append_right}

-- a place of the longer list is one of the list, or the new one
pub data Place (xs : List ℕ) (x i : ℕ) : Type 0 where
  old : i < length xs → get_or (xs ++ x ∷ []) i 0 ≡ get_or xs i 0 → Place xs x i
  last : i ≡ length xs → get_or (xs ++ x ∷ []) i 0 ≡ x → Place xs x i

pub place_of : (xs : List ℕ) (x i : ℕ) → i < length (xs ++ x ∷ []) → Place xs x i
place_of xs x i lt =
    let long : length (xs ++ x ∷ []) ≡ length xs + 1 = length-append xs (x ∷ []) in
    elim (cases_lt i (length xs)) [
      | inl below ↦ old below (get_or_append_left xs (x ∷ []) 0 i below)
      | inr above ↦
          let e : i ≡ length xs = omega (arith, long) in
          let zero : i - length xs ≡ 0 = omega arith in
          last e (get_or-append_right xs (x ∷ []) (length xs) i 0 refl above ∙ ap (λ k. get_or (x ∷ []) k 0) zero)
    ]
