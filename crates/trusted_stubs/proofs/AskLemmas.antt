-- An answer in the front of a slice.
use Rattle.std.proofs.Common.{◌≡◌, ℕ, ◌≤◌, arith, length, length-take, List, ◌++◌, take, Result, sym, subst}
use Rattle.std.proofs.lemmas.Grind.{common_steps}
use Rattle.cv_io.specs.Releasers.{Asks, Classes}

pub front : (n : ℕ) (xs ys : List ℕ) → n ≡ length xs → take n (xs ++ ys) ≡ xs
front n xs ys e = grind (arith, common_steps)

pub asks_front : {T E : Type 0} (answer : Result T E) (class : ℕ) (from to rest items : List ℕ) (old new : Classes) → Asks answer class from to old new
    → length to ≡ length (take (length from) items) → length from ≤ length items → Asks answer class from (take (length from) (to ++ rest)) old new
asks_front answer class from to rest items old new asks e room =
    subst (λ (l : List ℕ). Asks answer class from l old new) (sym (front (length from) to rest (omega (arith, length-take (length from) items)))) asks
