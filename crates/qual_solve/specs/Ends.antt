-- The ends of constraints as nodes of a graph: 0 is the constant private, 1 the constant public, and the variables follow.
use Rattle.std.specs.Prelude.{◌≡◌, ℕ, ◌+◌, ◌<◌, List, Bool, true, false, not, map, filter, nat_lt, if◌then◌else◌, Some, slice_index}
use Rattle.std.specs.List.{slice_get}
use Rattle.c_ast.specs.declared.qualifiers.Qual.{Qual}
use Rattle.c_ast.specs.declared.qualifiers.Qual.TheVariants.{Fixed, Var}
use Rattle.cv_word.specs.declared.registers.Taint.{Taint}
use Rattle.cv_word.specs.declared.registers.Taint.TheVariants.{Pub, Priv}
use Rattle.qual_solve.specs.declared.constraint.Constraint.{Constraint}
use Rattle.qual_solve.specs.Leaks.{IsChain}
use Rattle.qual_solve.specs.Distances.{AreDistances}

-- the node of an end
abbrev pub node_of : Qual → ℕ
node_of (Fixed Priv) = 0
node_of (Fixed Pub) = 1
node_of (Var variable) = variable + 2

-- whether an end is the constant public
abbrev pub is_constant_public : Qual → Bool
is_constant_public (Fixed Pub) = true
is_constant_public (Fixed Priv) = false
is_constant_public (Var variable) = false

-- the constraints that aren't closing
abbrev pub open_of : List Constraint → List Constraint
open_of list = filter (λ (constraint : Constraint). not (is_constant_public constraint.to)) list

-- the nodes of the left ends
abbrev pub lefts_of : List Constraint → List ℕ
lefts_of list = map (λ (constraint : Constraint). node_of constraint.from) list

-- the nodes of the right ends
abbrev pub rights_of : List Constraint → List ℕ
rights_of list = map (λ (constraint : Constraint). node_of constraint.to) list

-- the taint of a variable whose node has this distance from the constant private: private where the node is reached
abbrev pub taint_at : ℕ → ℕ → Taint
taint_at unreached distance = if nat_lt distance unreached then Priv else Pub

-- the constraint with this number is closing, and its left end is reached
pub record IsReachedClosing (list : List Constraint) (unreached : ℕ) (distances : List ℕ) (number : ℕ) : Type 0 where
  pub constraint : Constraint
  pub numbered : slice_get list number ≡ Some constraint
  pub closing : is_constant_public constraint.to ≡ true
  pub reached : slice_index distances (node_of constraint.from) < unreached

-- no constraint below a number is closing with a left end that is reached
abbrev pub NoneBelow : List Constraint → ℕ → List ℕ → ℕ → Type 0
NoneBelow list unreached distances end = (number : ℕ) → number < end → IsReachedClosing list unreached distances number → ⊥

-- the nodes of both ends are among so many
pub record HasNodes (nodes : ℕ) (constraint : Constraint) : Type 0 where
  pub from : node_of constraint.from < nodes
  pub to : node_of constraint.to < nodes

-- how many constraints lead from each node to the left end of the one with this number
pub record AreDistancesTo (list : List Constraint) (at unreached : ℕ) (distances : List ℕ) : Type 0 where
  pub constraint : Constraint
  pub numbered : slice_get list at ≡ Some constraint
  pub are : AreDistances (rights_of list) (lefts_of list) (node_of constraint.from) unreached distances

-- how many constraints that aren't closing lead to each node from the constant private
abbrev pub AreDistancesFrom : List Constraint → ℕ → List ℕ → Type 0
AreDistancesFrom list unreached distances =
    AreDistances (lefts_of (open_of list)) (rights_of (open_of list)) (node_of (Fixed Priv)) unreached distances

-- a chain leads from the constant private to the constraint with this number
abbrev pub HasChain : List Constraint → ℕ → Type 0
HasChain list at = (chain : List ℕ) × IsChain list at chain
