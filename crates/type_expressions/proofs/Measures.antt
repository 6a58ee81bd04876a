-- How many expressions there are in one, for the measures of recursions.
use Rattle.std.proofs.Common.{◌≡◌, ℕ, zero, suc, ◌+◌, ◌<◌, ◌≤◌, List, [], ◌∷◌, length, get_or, map, sum, ap, arith}
use Rattle.std.proofs.lemmas.List.Sums.{sum_by-cons}
use Rattle.c_ast.specs.declared.program.Expression.{Expression}
use Rattle.c_ast.specs.declared.program.ExpressionKind.TheOpen.{ExpressionKind-F, Bracket, Prefix, Cast, Infix, Choice, Assign, Call, Index, Member, Arrow}
use Rattle.c_ast.specs.declared.program.ExpressionKind.TheFolds.{fold-Expression}

abbrev pub parts_step : ExpressionKind-F ℕ ℕ → ℕ
parts_step (Bracket inner) = 1 + inner
parts_step (Prefix op operand) = 1 + operand
parts_step (Cast type operand) = 1 + operand
parts_step (Infix op left right) = 1 + left + right
parts_step (Choice on first second) = 1 + on + first + second
parts_step (Assign to from) = 1 + to + from
parts_step (Call callee args) = 1 + callee + sum args
parts_step (Index array at) = 1 + array + at
parts_step (Member object name place) = 1 + object
parts_step (Arrow object name place) = 1 + object
parts_step other = 1

abbrev pub parts_in : Expression → ℕ
parts_in = fold-Expression ℕ ℕ parts_step (λ e. e.kind)

-- a part holds no more than all
pub one_part : {X : Type 0} (count : X → ℕ) (parts : List X) (i : ℕ) (x : X) → i < length parts → x ≡ get_or parts i x → count x ≤ sum (map count parts)
one_part count [] i x h is = absurd (omega arith)
one_part count (p ∷ parts) zero x h is = omega (arith, sum_by-cons (λ n. n) (count p) (map count parts), ap count is)
one_part count (p ∷ parts) (suc i) x h is =
    let inner : count x ≤ sum (map count parts) = one_part count parts i x (omega arith) is in
    omega (arith, sum_by-cons (λ n. n) (count p) (map count parts))
