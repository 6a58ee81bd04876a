-- How many statements there are in one, declarations among them, for the measures of recursions.
use Rattle.std.proofs.Common.{◌≡◌, ℕ, zero, suc, ◌+◌, ◌<◌, ◌≤◌, List, [], ◌∷◌, Option, Some, None, length, get_or, map, sum, ap, arith}
use Rattle.std.proofs.lemmas.List.Sums.{sum_by-cons}
use Rattle.c_ast.specs.declared.typed.Stmt.{Stmt}
use Rattle.c_ast.specs.declared.typed.StmtKind.TheOpen.{StmtKind-F, Block, If, While, DoWhile, For}
use Rattle.c_ast.specs.declared.typed.StmtKind.TheFolds.{fold-Stmt}

abbrev pub perhaps : Option ℕ → ℕ
perhaps None = 0
perhaps (Some n) = n

abbrev pub statements_step : StmtKind-F ℕ ℕ → ℕ
statements_step (Block items) = 1 + sum items
statements_step (If on first second) = 1 + first + perhaps second
statements_step (While on body) = 1 + body
statements_step (DoWhile body on) = 1 + body
statements_step (For first on after body) = 1 + body
statements_step other = 1

abbrev pub statements_in : Stmt → ℕ
statements_in = fold-Stmt ℕ ℕ statements_step (λ s. s.kind)

-- in a branch that may be missing
abbrev pub statements_in_branch : Option Stmt → ℕ
statements_in_branch None = 0
statements_in_branch (Some s) = statements_in s

-- a part holds no more than all
pub one_part : {X : Type 0} (count : X → ℕ) (parts : List X) (i : ℕ) (x : X) → i < length parts → x ≡ get_or parts i x → count x ≤ sum (map count parts)
one_part count [] i x h is = absurd (omega arith)
one_part count (p ∷ parts) zero x h is = omega (arith, sum_by-cons (λ n. n) (count p) (map count parts), ap count is)
one_part count (p ∷ parts) (suc i) x h is =
    let inner : count x ≤ sum (map count parts) = one_part count parts i x (omega arith) is in
    omega (arith, sum_by-cons (λ n. n) (count p) (map count parts))
