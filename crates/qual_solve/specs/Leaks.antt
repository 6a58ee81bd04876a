-- Where a list of constraints can't be satisfied: which constraint is named, and which chain leads to it.
use Rattle.std.specs.Prelude.{◌≡◌, ℕ, ◌<◌, ◌≤◌, List, [], ◌∷◌, ◌++◌, length, All, Some}
use Rattle.std.specs.List.{slice_get}
use Rattle.c_ast.specs.declared.qualifiers.Qual.{Qual}
use Rattle.c_ast.specs.declared.qualifiers.Qual.TheVariants.{Fixed}
use Rattle.cv_word.specs.declared.registers.Taint.{Taint}
use Rattle.cv_word.specs.declared.registers.Taint.TheVariants.{Pub, Priv}
use Rattle.qual_solve.specs.declared.constraint.Constraint.{Constraint}
use Rattle.qual_solve.specs.Assignments.{IsAssignment, IsPrivate, Meets, Satisfies}

-- a constraint is closing where its right end is the constant public
abbrev pub IsClosing : Constraint → Type 0
IsClosing constraint = constraint.to ≡ Fixed Pub

-- an assignment meets all constraints that aren't closing (the open ones)
abbrev pub MeetsOpen : List Taint → List Constraint → Type 0
MeetsOpen assignment list = All (λ constraint. ¬ IsClosing constraint → Meets assignment constraint) list

-- an end is forced where it is private in every assignment that meets all constraints that aren't closing
abbrev pub IsForced : ℕ → List Constraint → Qual → Type 0
IsForced vars list end = (assignment : List Taint) → IsAssignment vars assignment → MeetsOpen assignment list → IsPrivate assignment end

-- The constraint with this number is closing, and its left end is forced: no assignment that meets the open ones meets it.
pub record IsBroken (vars : ℕ) (list : List Constraint) (number : ℕ) : Type 0 where
  pub constraint : Constraint
  pub numbered : slice_get list number ≡ Some constraint
  pub closing : IsClosing constraint
  pub forced : IsForced vars list constraint.from

-- the number of the first closing constraint whose left end is forced
pub record IsFirstBroken (vars : ℕ) (list : List Constraint) (at : ℕ) : Type 0 where
  pub broken : IsBroken vars list at
  pub first : (number : ℕ) → IsBroken vars list number → at ≤ number

-- the constraints with these numbers lead on from an end: the end is the left end of the first, and the left end of each
-- further one is the right end of the one before it
abbrev pub LeadsFrom : List Constraint → Qual → List ℕ → Type 0
LeadsFrom list end [] = Unit {0}
LeadsFrom list end (number ∷ rest) =
    (constraint : Constraint) × (slice_get list number ≡ Some constraint) × (constraint.from ≡ end) × LeadsFrom list constraint.to rest

-- A chain from an end to a constraint: its numbers lead on from the end, and it ends with the constraint. It may pass
-- through the constant public, as through any end.
pub record IsChainFrom (list : List Constraint) (end : Qual) (at : ℕ) (chain : List ℕ) : Type 0 where
  pub leads : LeadsFrom list end chain
  pub before : List ℕ
  pub last : chain ≡ before ++ at ∷ []

-- a chain to a constraint begins at the constant private: that is the left end of its first constraint
abbrev pub IsChain : List Constraint → ℕ → List ℕ → Type 0
IsChain list at chain = IsChainFrom list (Fixed Priv) at chain

-- the order of a dictionary: at the first place where two lists differ the former has the lower number, or has ended; or
-- they are equal
pub data InOrder : List ℕ → List ℕ → Type 0 where
  ends : {later : List ℕ} → InOrder [] later
  lower : {x y : ℕ} {former later : List ℕ} → x < y → InOrder (x ∷ former) (y ∷ later)
  equal : {x : ℕ} {former later : List ℕ} → InOrder former later → InOrder (x ∷ former) (x ∷ later)

-- of all chains from an end to a constraint this one is the shortest, and of the shortest the first in the order of a dictionary
pub record IsBestFrom (list : List Constraint) (end : Qual) (at : ℕ) (chain : List ℕ) : Type 0 where
  pub is_chain : IsChainFrom list end at chain
  pub shortest : (other : List ℕ) → IsChainFrom list end at other → length chain ≤ length other
  pub first : (other : List ℕ) → IsChainFrom list end at other → length other ≡ length chain → InOrder chain other

-- a leak: no assignment satisfies the list, `at` is the number of the first closing constraint whose left end is forced, and of
-- all chains to it from the constant private this one is among the shortest, and the first of them in the order of a dictionary
pub record IsLeak (vars : ℕ) (list : List Constraint) (at : ℕ) (chain : List ℕ) : Type 0 where
  pub unsatisfied : (assignment : List Taint) → IsAssignment vars assignment → Satisfies assignment list → ⊥
  pub first : IsFirstBroken vars list at
  pub best : IsBestFrom list (Fixed Priv) at chain
