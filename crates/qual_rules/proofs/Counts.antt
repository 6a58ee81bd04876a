-- How much a type and a statement hold, for the measures of recursions.
use Rattle.std.proofs.Common.{ℕ, zero, suc, ◌+◌, ◌<◌, ◌≤◌, ◌≡◌, List, [], ◌∷◌, Option, Some, None, length, get_or, map, sum, ap, arith}
use Rattle.std.proofs.lemmas.List.Sums.{sum_by-cons}
use Rattle.c_ast.specs.declared.qualifiers.Ty.{Ty}
use Rattle.c_ast.specs.declared.qualifiers.Ty.TheOpen.{Ty-F, Ptr, Array, Fun}
use Rattle.c_ast.specs.declared.qualifiers.Ty.TheFolds.{fold-Ty}
use Rattle.c_ast.specs.declared.typed.Stmt.{Stmt}
use Rattle.c_ast.specs.declared.typed.StmtKind.TheOpen.{StmtKind-F, Block, If, While, DoWhile, For}
use Rattle.c_ast.specs.declared.typed.StmtKind.TheFolds.{fold-Stmt}

abbrev pub levels_step : Ty-F ℕ → ℕ
levels_step (Ptr to q) = 1 + to
levels_step (Array elem len) = 1 + elem
levels_step (Fun ret params) = 1 + ret + sum params
levels_step other = 1

-- how many levels a type has
abbrev pub levels_of : Ty → ℕ
levels_of = fold-Ty ℕ levels_step

abbrev pub perhaps_count : Option ℕ → ℕ
perhaps_count None = 0
perhaps_count (Some n) = n

abbrev pub statements_step : StmtKind-F ℕ ℕ → ℕ
statements_step (Block items) = 1 + sum items
statements_step (If on first second) = 1 + first + perhaps_count second
statements_step (While on body) = 1 + body
statements_step (DoWhile body on) = 1 + body
statements_step (For first on after body) = 1 + body
statements_step other = 1

-- how many statements one holds
abbrev pub statements_of : Stmt → ℕ
statements_of = fold-Stmt ℕ ℕ statements_step (λ s. s.kind)

-- a part holds no more than all
pub one_part : {X : Type 0} (count : X → ℕ) (parts : List X) (i : ℕ) (x : X) → i < length parts → x ≡ get_or parts i x → count x ≤ sum (map count parts)
one_part count [] i x h is = absurd (omega arith)
one_part count (p ∷ parts) zero x h is = omega (arith, sum_by-cons (λ n. n) (count p) (map count parts), ap count is)
one_part count (p ∷ parts) (suc i) x h is =
    let inner : count x ≤ sum (map count parts) = one_part count parts i x (omega arith) is in
    omega (arith, sum_by-cons (λ n. n) (count p) (map count parts))
