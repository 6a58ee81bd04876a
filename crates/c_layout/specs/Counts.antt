-- How much there is in a function: expression nodes, statements, and values that are passed at once.
use Rattle.std.specs.Prelude.{ℕ, ◌+◌, max, List, Option, None, Some, length, map, fold, sum}
use Rattle.c_ast.specs.Nodes.{nodes_of}
use Rattle.c_ast.specs.declared.typed.Expr.{Expr}
use Rattle.c_ast.specs.declared.typed.ExprKind.TheOpen.{ExprKind-F, Unary, Binary, Logic, Cond, Assign, Call, Index, Member, Arrow, Deref, Addr, Cast}
use Rattle.c_ast.specs.declared.typed.ExprKind.TheFolds.{fold-Expr}
use Rattle.c_ast.specs.declared.typed.Stmt.{Stmt}
use Rattle.c_ast.specs.declared.typed.StmtKind.TheOpen.{StmtKind-F, Block, Declare, Eval, If, While, DoWhile, For, Return, Break, Continue}
use Rattle.c_ast.specs.declared.typed.StmtKind.TheFolds.{fold-Stmt}
use Rattle.c_ast.specs.declared.typed.Function.{Function}
use Rattle.c_layout.specs.declared.counts.Counts.{Counts}

-- EXPRESSIONS

-- the greatest of some numbers
abbrev pub greatest : List ℕ → ℕ
greatest numbers = fold max 0 numbers

-- one node, with the greatest number in each part in its place; a call has its own arguments too
abbrev pub arguments_step : ExprKind-F ℕ ℕ → ℕ
arguments_step (Unary op e) = e
arguments_step (Binary op a b) = max a b
arguments_step (Logic op a b) = max a b
arguments_step (Cond on first second) = max (max on first) second
arguments_step (Assign to from) = max to from
arguments_step (Call callee args) = max (max (length args) callee) (greatest args)
arguments_step (Index of at) = max of at
arguments_step (Member of member) = of
arguments_step (Arrow of member) = of
arguments_step (Deref e) = e
arguments_step (Addr e) = e
arguments_step (Cast e) = e
arguments_step other = 0

-- the greatest number of arguments of a call in an expression
abbrev pub most_arguments : Expr → ℕ
most_arguments = fold-Expr ℕ ℕ arguments_step (λ e. e.kind)

-- STATEMENTS

-- where there is nothing
abbrev pub no_counts : Counts
no_counts = record { expressions = 0; statements = 0; arguments = 0 }

-- what there is in two parts
unfoldable pub both : Counts → Counts → Counts
both a b = record {
  expressions = a.expressions + b.expressions;
  statements = a.statements + b.statements;
  arguments = max a.arguments b.arguments;
}

-- what there is in all parts
abbrev pub all : List Counts → Counts
all parts = fold both no_counts parts

-- an expression has its nodes
unfoldable pub in_expression : Expr → Counts
in_expression e = record { expressions = nodes_of e; statements = 0; arguments = most_arguments e }

-- an expression that may be missing
abbrev pub in_optional : Option Expr → Counts
in_optional None = no_counts
in_optional (Some e) = in_expression e

-- a branch that may be missing
abbrev pub in_branch : Option Counts → Counts
in_branch None = no_counts
in_branch (Some counts) = counts

-- a statement counts beside its parts
unfoldable pub statement : Counts → Counts
statement parts = record parts { statements = 1 + parts.statements }

-- a declaration is no statement, but its initialiser counts
abbrev pub counts_step : StmtKind-F Counts Counts → Counts
counts_step (Block items) = statement (all items)
counts_step (Declare local start) = in_optional start
counts_step (Eval e) = statement (in_optional e)
counts_step (If on first second) = statement (both (both (in_expression on) first) (in_branch second))
counts_step (While on body) = statement (both (in_expression on) body)
counts_step (DoWhile body on) = statement (both body (in_expression on))
counts_step (For first on after body) =
    statement (both (both (in_optional first) (in_optional on)) (both (in_optional after) body))
counts_step (Return e) = statement (in_optional e)
counts_step Break = statement no_counts
counts_step Continue = statement no_counts

-- what there is in a statement
abbrev pub counts_of : Stmt → Counts
counts_of = fold-Stmt Counts Counts counts_step (λ s. s.kind)

-- FUNCTIONS

-- the expression nodes and statements of a function; its body's block is a statement
abbrev pub function_nodes : Function → ℕ
function_nodes f = (counts_of f.body).expressions + (counts_of f.body).statements

-- the greatest of a function's number of parameters and the number of arguments of each call in it
abbrev pub most_values : Function → ℕ
most_values f = max (length f.params) (counts_of f.body).arguments

-- the expression nodes and statements of a program
abbrev pub nodes_in : List Function → ℕ
nodes_in functions = sum (map function_nodes functions)
