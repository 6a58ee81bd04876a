-- Assignments of taints to variables, which constraints they meet, and the least that meets all.
use Rattle.std.specs.Prelude.{◌≡◌, ℕ, ◌<◌, List, length, All}
use Rattle.std.specs.List.{slice_index_or}
use Rattle.c_ast.specs.declared.qualifiers.Qual.{Qual}
use Rattle.c_ast.specs.declared.qualifiers.Qual.TheVariants.{Fixed, Var}
use Rattle.cv_word.specs.declared.registers.Taint.{Taint}
use Rattle.cv_word.specs.declared.registers.Taint.TheVariants.{Pub, Priv}
use Rattle.qual_solve.specs.declared.constraint.Constraint.{Constraint}

-- an end of a constraint is a constant, or one of so many variables
abbrev pub IsEnd : ℕ → Qual → Type 0
IsEnd vars (Fixed taint) = Unit {0}
IsEnd vars (Var variable) = variable < vars

-- both ends of a constraint are constants or among so many variables
pub record IsOver (vars : ℕ) (constraint : Constraint) : Type 0 where
  pub from : IsEnd vars constraint.from
  pub to : IsEnd vars constraint.to

-- an assignment has a taint for each variable, at the variable's number
abbrev pub IsAssignment : ℕ → List Taint → Type 0
IsAssignment vars assignment = length assignment ≡ vars

-- the taint of an end under an assignment; public for a variable that the assignment lacks
abbrev pub taint_of : List Taint → Qual → Taint
taint_of assignment (Fixed taint) = taint
taint_of assignment (Var variable) = slice_index_or assignment variable Pub

-- an end is private under an assignment
abbrev pub IsPrivate : List Taint → Qual → Type 0
IsPrivate assignment end = taint_of assignment end ≡ Priv

-- an end is public under an assignment
abbrev pub IsPublic : List Taint → Qual → Type 0
IsPublic assignment end = taint_of assignment end ≡ Pub

-- an assignment meets a constraint: it isn't so that the left end is private and the right end public
abbrev pub Meets : List Taint → Constraint → Type 0
Meets assignment constraint = IsPrivate assignment constraint.from → IsPublic assignment constraint.to → ⊥

-- an assignment satisfies a list: no constraint has a private left end and a public right end
abbrev pub Satisfies : List Taint → List Constraint → Type 0
Satisfies assignment list = All (Meets assignment) list

-- the least assignment satisfies the list, and is private only where every one that satisfies it is
pub record IsLeast (vars : ℕ) (list : List Constraint) (assignment : List Taint) : Type 0 where
  pub entries : IsAssignment vars assignment
  pub satisfies : Satisfies assignment list
  pub least : (variable : ℕ) → variable < vars → IsPrivate assignment (Var variable) →
      (other : List Taint) → IsAssignment vars other → Satisfies other list → IsPrivate other (Var variable)
