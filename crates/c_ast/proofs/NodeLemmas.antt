-- One more part of a node.
use Rattle.std.proofs.Common.{◌≡◌, ℕ, ◌+◌, ◌<◌, ◌≤◌, List, length, get_or, drop, map, sum, ap, arith}
use Rattle.std.proofs.lemmas.List.{drop_more}
use Rattle.std.proofs.lemmas.List.Sums.{sum_by-cons}
use Rattle.c_ast.specs.declared.typed.Expr.{Expr}
use Rattle.c_ast.specs.Nodes.{nodes_of}

-- a part that comes next has no more nodes than all that come
pub next_part : (parts : List Expr) (i : ℕ) (x : Expr) → i < length parts → x ≡ get_or parts i x → nodes_of x ≤ sum (map nodes_of (drop i parts))
next_part parts i x h is =
    omega (arith, ap (λ l. sum (map nodes_of l)) (drop_more parts i x h), sum_by-cons (λ n. n) (nodes_of (get_or parts i x)) (map nodes_of (drop (i + 1) parts)), ap nodes_of is)
