-- The constraints of a whole program, in the order of its source.
use Rattle.std.specs.Prelude.{List, [], ◌++◌, Option, Some, None}
use Rattle.std.specs.List.{flat_map}
use Rattle.c_ast.specs.declared.qualifiers.Ty.{Ty}
use Rattle.c_ast.specs.declared.typed.Expr.{Expr}
use Rattle.c_ast.specs.declared.typed.Function.{Function}
use Rattle.c_ast.specs.declared.typed.Stmt.{Stmt}
use Rattle.c_ast.specs.declared.typed.StmtKind.TheOpen.{StmtKind-F, Block, Declare, Eval, If, While, DoWhile, For, Return, Break, Continue}
use Rattle.c_ast.specs.declared.typed.StmtKind.TheFolds.{fold-Stmt}
use Rattle.c_ast.specs.declared.typed.Typed.{Typed}
use Rattle.qual_solve.specs.declared.constraint.Constraint.{Constraint}
use Rattle.qual_rules.specs.declared.flow.Source.{Source}
use Rattle.qual_rules.specs.Flows.{Flow, flow_of, public, passed, same_below}

-- the constraints of an expression and its parts
abbrev pub constraints_in : Expr → List Constraint
constraints_in e = (flow_of e).constraints

abbrev pub perhaps : Option Expr → List Constraint
perhaps None = []
perhaps (Some e) = constraints_in e

abbrev pub perhaps_sources : Option Expr → List Source
perhaps_sources None = []
perhaps_sources (Some e) = (flow_of e).sources

-- a condition is public
abbrev pub condition : Expr → List Constraint
condition e = public (flow_of e).sources

-- a returned value flows to its function's result
abbrev pub returned : Ty → Option Expr → List Constraint
returned result None = []
returned result (Some e) =
    let value : Flow = flow_of e in
    value.constraints ++ passed value.sources result ++ same_below value.place value.ty result

-- the constraints of a statement in a function with a result of this type
abbrev pub StatementRule : Type 0
StatementRule = Ty → List Constraint

abbrev pub perhaps_part : Option StatementRule → StatementRule
perhaps_part None result = []
perhaps_part (Some part) result = part result

-- those of a statement's parts come in the order of its fields, branches and bodies too, before its own
abbrev pub statement_step : StmtKind-F StatementRule StatementRule → StatementRule
statement_step (Block items) result = flat_map (λ item. item result) items
statement_step (Declare local start) result = perhaps start
statement_step (Eval e) result = perhaps e
statement_step (If on first second) result = constraints_in on ++ first result ++ perhaps_part second result ++ condition on
statement_step (While on body) result = constraints_in on ++ body result ++ condition on
statement_step (DoWhile body on) result = body result ++ constraints_in on ++ condition on
statement_step (For first on after body) result =
    perhaps first ++ perhaps on ++ perhaps after ++ body result ++ public (perhaps_sources on)
statement_step (Return e) result = returned result e
statement_step Break result = []
statement_step Continue result = []

abbrev pub statement_constraints : Stmt → StatementRule
statement_constraints = fold-Stmt StatementRule StatementRule statement_step (λ s. s.kind)

abbrev pub function_constraints : Function → List Constraint
function_constraints f = statement_constraints f.body f.ret

-- the constraints of a program
abbrev pub constraints_of : Typed → List Constraint
constraints_of typed = flat_map function_constraints typed.functions
