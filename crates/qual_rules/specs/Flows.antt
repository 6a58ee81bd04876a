-- What may make an expression's value private, and the constraints on it and its parts. The types are those of a typed
-- program, in which arguments and parameters are as many, and what flows has one shape with what it flows to.
use Rattle.std.specs.Prelude.{ℕ, List, [], ◌∷◌, ◌++◌, Option, Some, None, map}
use Rattle.std.specs.List.{flat_map}
use Rattle.cv_word.specs.declared.registers.Taint.TheVariants.{Pub, Priv}
use Rattle.c_ast.specs.declared.qualifiers.Qual.{Qual}
use Rattle.c_ast.specs.declared.qualifiers.Qual.TheVariants.{Fixed}
use Rattle.c_ast.specs.declared.qualifiers.Ty.{Ty}
use Rattle.c_ast.specs.declared.typed.Expr.{Expr}
use Rattle.c_ast.specs.declared.typed.BinaryOp.{BinaryOp}
use Rattle.c_ast.specs.declared.typed.BinaryOp.TheVariants.{Div, Rem}
use Rattle.c_ast.specs.declared.typed.ExprKind.TheOpen.{ExprKind-F, Num, Str, Local, Global, Func, Stub, Unary, Binary, Logic, Cond, Assign, Call, Index, Member, Arrow, Deref, Addr, Cast}
use Rattle.c_ast.specs.declared.typed.ExprKind.TheFolds.{fold-Expr}
use Rattle.qual_solve.specs.declared.constraint.Constraint.{Constraint}
use Rattle.qual_rules.specs.declared.flow.Source.{Source}
use Rattle.qual_rules.specs.Levels.{Pair, own_qualifier, pairs_between, parameters_of}

-- what is known of an expression: its place, its type, its sources, and the constraints of it and its parts
pub record Flow : Type 0 where
  pub place : ℕ
  pub ty : Ty
  pub sources : List Source
  pub constraints : List Constraint

abbrev pub flow : ℕ → Ty → List Source → List Constraint → Flow
flow place ty sources constraints = record { place = place; ty = ty; sources = sources; constraints = constraints }

-- SOURCES: the qualifiers that may make a value private

abbrev pub source : ℕ → Qual → Source
source place q = record { q = q; place = place }

abbrev pub source_of : ℕ → Option Qual → List Source
source_of place None = []
source_of place (Some q) = source place q ∷ []

-- an object of this type has its qualifier, and so have a result and what is assigned; a place of an array type has no source
abbrev pub own : ℕ → Ty → List Source
own place ty = source_of place (own_qualifier ty)

-- a cast whose outermost level is written private; a level that isn't written is a variable
abbrev pub if_private : ℕ → Option Qual → List Source
if_private place (Some (Fixed Priv)) = source place (Fixed Priv) ∷ []
if_private place other = []

-- CONSTRAINTS

abbrev pub constraint : ℕ → Qual → Qual → Constraint
constraint place from to = record { from = from; to = to; place = place }

-- each source flows to this, at the place of the source's own node
abbrev pub into : Qual → List Source → List Constraint
into to sources = map (λ s. constraint s.place s.q to) sources

abbrev pub into_level : Option Qual → List Source → List Constraint
into_level None sources = []
into_level (Some to) sources = into to sources

-- a source may not be private
abbrev pub public : List Source → List Constraint
public sources = into (Fixed Pub) sources

-- two levels have the same qualifier: each flows to the other
abbrev pub both_ways : ℕ → Pair → List Constraint
both_ways place p = constraint place p.first p.second ∷ constraint place p.second p.first ∷ []

-- where a pointer flows, joins another in `?:`, or is cast to a pointer, each pair of levels below it has the same
-- qualifier, at the pointer's place
abbrev pub same_below : ℕ → Ty → Ty → List Constraint
same_below place from to = flat_map (both_ways place) (pairs_between from to)

-- a value flows to an object, a parameter or a result of this type
abbrev pub passed : List Source → Ty → List Constraint
passed sources to = into_level (own_qualifier to) sources

-- operands of a division and of a remainder are public
abbrev pub divided : BinaryOp → List Source → List Constraint
divided Div sources = public sources
divided Rem sources = public sources
divided other sources = []

-- all arguments to their parameters
abbrev pub passed_all : List (List Source) → List Ty → List Constraint
passed_all (sources ∷ more) (t ∷ ts) = passed sources t ++ passed_all more ts
passed_all args ts = []

abbrev pub same_below_all : List Flow → List Ty → List Constraint
same_below_all (a ∷ more) (t ∷ ts) = same_below a.place a.ty t ++ same_below_all more ts
same_below_all args ts = []

-- Each kind of expression at its place. First come the constraints of its parts, then those of what flows, of pointers,
-- and of what must be public: in a call those of what flows to all parameters, then of all pointers, then of the callee.
abbrev pub flow_step : ExprKind-F (ℕ → Ty → Flow) Flow → ℕ → Ty → Flow
flow_step (Num value) place ty = flow place ty [] []
flow_step (Str string) place ty = flow place ty [] []
flow_step (Local number) place ty = flow place ty (own place ty) []
flow_step (Global number) place ty = flow place ty (own place ty) []
flow_step (Func number) place ty = flow place ty [] []
flow_step (Stub number) place ty = flow place ty [] []
flow_step (Unary op e) place ty = flow place ty e.sources e.constraints
flow_step (Binary op a b) place ty =
    flow place ty (a.sources ++ b.sources) (a.constraints ++ b.constraints ++ divided op (a.sources ++ b.sources))
flow_step (Logic op a b) place ty = flow place ty [] (a.constraints ++ b.constraints ++ public (a.sources ++ b.sources))
flow_step (Cond on first second) place ty =
    flow place ty (first.sources ++ second.sources)
    (on.constraints ++ first.constraints ++ second.constraints ++ same_below first.place first.ty second.ty ++ public on.sources)
flow_step (Assign to from) place ty =
    flow place ty (own place to.ty) (to.constraints ++ from.constraints ++ passed from.sources to.ty ++ same_below from.place from.ty to.ty)
flow_step (Call callee args) place ty =
    flow place ty (own place ty)
    (callee.constraints ++ flat_map (λ a. a.constraints) args ++ passed_all (map (λ a. a.sources) args) (parameters_of callee.ty)
    ++ same_below_all args (parameters_of callee.ty) ++ public callee.sources)
flow_step (Index of at) place ty =
    flow place ty (own place ty) (of.constraints ++ at.constraints ++ public (of.sources ++ at.sources))
flow_step (Member of member) place ty = flow place ty (own place ty) of.constraints
flow_step (Arrow of member) place ty = flow place ty (own place ty) (of.constraints ++ public of.sources)
flow_step (Deref e) place ty = flow place ty (own place ty) (e.constraints ++ public e.sources)
flow_step (Addr e) place ty = flow place ty [] e.constraints
flow_step (Cast e) place ty =
    flow place ty (e.sources ++ if_private place (own_qualifier ty)) (e.constraints ++ same_below e.place e.ty ty)

abbrev pub flow_of : Expr → Flow
flow_of = fold-Expr (ℕ → Ty → Flow) Flow flow_step (λ e. e.kind e.place e.ty)
