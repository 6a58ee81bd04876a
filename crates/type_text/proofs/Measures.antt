-- How many levels a type has, for the measures of recursions.
use Rattle.std.proofs.Common.{◌≡◌, ℕ, zero, suc, ◌+◌, ◌<◌, ◌≤◌, List, [], ◌∷◌, length, get_or, map, sum, ap, arith}
use Rattle.std.proofs.lemmas.List.Sums.{sum_by-cons}
use Rattle.c_ast.specs.declared.qualifiers.Ty.{Ty}
use Rattle.c_ast.specs.declared.qualifiers.Ty.TheOpen.{Ty-F, Ptr, Array, Fun}
use Rattle.c_ast.specs.declared.qualifiers.Ty.TheFolds.{fold-Ty}

abbrev pub levels_step : Ty-F ℕ → ℕ
levels_step (Ptr to q) = 1 + to
levels_step (Array elem len) = 1 + elem
levels_step (Fun ret params) = 1 + ret + sum params
levels_step other = 1

abbrev pub levels_in : Ty → ℕ
levels_in = fold-Ty ℕ levels_step

-- a part has no more than all
pub one_part : {X : Type 0} (count : X → ℕ) (parts : List X) (i : ℕ) (x : X) → i < length parts → x ≡ get_or parts i x → count x ≤ sum (map count parts)
one_part count [] i x h is = absurd (omega arith)
one_part count (p ∷ parts) zero x h is = omega (arith, sum_by-cons (λ n. n) (count p) (map count parts), ap count is)
one_part count (p ∷ parts) (suc i) x h is =
    let inner : count x ≤ sum (map count parts) = one_part count parts i x (omega arith) is in
    omega (arith, sum_by-cons (λ n. n) (count p) (map count parts))
