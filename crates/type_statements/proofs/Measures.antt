-- How many statements there are in one, for the measures of recursions.
use Rattle.std.proofs.Common.{◌≡◌, ℕ, zero, suc, ◌+◌, ◌<◌, ◌≤◌, List, [], ◌∷◌, Option, Some, None, length, get_or, map, sum, ap, arith}
use Rattle.std.proofs.lemmas.List.Sums.{sum_by-cons}
use Rattle.c_ast.specs.declared.program.Statement.{Statement}
use Rattle.c_ast.specs.declared.program.BlockItem.{BlockItem}
use Rattle.c_ast.specs.declared.program.BlockItem.TheOpen.{BlockItem-F, StatementKind-F, Declare, Run, Block, If, While, DoWhile, For}
use Rattle.c_ast.specs.declared.program.BlockItem.TheFolds.{fold-Statement, fold-BlockItem}

abbrev pub perhaps_some : Option ℕ → ℕ
perhaps_some None = 0
perhaps_some (Some n) = 1 + n

abbrev pub item_step : {K B : Type 0} → BlockItem-F ℕ K B ℕ → ℕ
item_step (Declare declaration) = 1
item_step (Run statement) = 1 + statement

abbrev pub kind_step : {I K : Type 0} → StatementKind-F I K ℕ ℕ → ℕ
kind_step (Block block) = 1 + block
kind_step (If on first second) = 1 + first + perhaps_some second
kind_step (While on body) = 1 + body
kind_step (DoWhile body on) = 1 + body
kind_step (For first on after body) = 1 + body
kind_step other = 1

abbrev pub statements_in : Statement → ℕ
statements_in = fold-Statement ℕ ℕ ℕ ℕ item_step kind_step (λ b. sum b.items) (λ s. s.kind)

abbrev pub statements_of_item : BlockItem → ℕ
statements_of_item = fold-BlockItem ℕ ℕ ℕ ℕ item_step kind_step (λ b. sum b.items) (λ s. s.kind)

abbrev pub statements_of_branch : Option Statement → ℕ
statements_of_branch None = 0
statements_of_branch (Some s) = 1 + statements_in s

-- a part holds no more than all
pub one_part : {X : Type 0} (count : X → ℕ) (parts : List X) (i : ℕ) (x : X) → i < length parts → x ≡ get_or parts i x → count x ≤ sum (map count parts)
one_part count [] i x h is = absurd (omega arith)
one_part count (p ∷ parts) zero x h is = omega (arith, sum_by-cons (λ n. n) (count p) (map count parts), ap count is)
one_part count (p ∷ parts) (suc i) x h is =
    let inner : count x ≤ sum (map count parts) = one_part count parts i x (omega arith) is in
    omega (arith, sum_by-cons (λ n. n) (count p) (map count parts))
