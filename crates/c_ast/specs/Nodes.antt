-- How many nodes an expression has.
use Rattle.std.specs.Prelude.{ℕ, ◌+◌, sum}
use Rattle.c_ast.specs.declared.typed.Expr.{Expr}
use Rattle.c_ast.specs.declared.typed.ExprKind.TheOpen.{ExprKind-F, Unary, Binary, Logic, Cond, Assign, Call, Index, Member, Arrow, Deref, Addr, Cast, Num, Str, Local, Global, Func, Stub}
use Rattle.c_ast.specs.declared.typed.ExprKind.TheFolds.{fold-Expr}

-- a node, with the number of nodes of each part in its place
abbrev pub nodes_step : ExprKind-F ℕ ℕ → ℕ
nodes_step (Num value) = 1
nodes_step (Str string) = 1
nodes_step (Local number) = 1
nodes_step (Global number) = 1
nodes_step (Func number) = 1
nodes_step (Stub number) = 1
nodes_step (Unary op e) = 1 + e
nodes_step (Binary op a b) = 1 + a + b
nodes_step (Logic op a b) = 1 + a + b
nodes_step (Cond on first second) = 1 + on + first + second
nodes_step (Assign to from) = 1 + to + from
nodes_step (Call callee args) = 1 + callee + sum args
nodes_step (Index of at) = 1 + of + at
nodes_step (Member of member) = 1 + of
nodes_step (Arrow of member) = 1 + of
nodes_step (Deref e) = 1 + e
nodes_step (Addr e) = 1 + e
nodes_step (Cast e) = 1 + e

-- an expression's nodes: itself and those of its parts
abbrev pub nodes_of : Expr → ℕ
nodes_of = fold-Expr ℕ ℕ nodes_step (λ e. e.kind)
