-- What each error of the solver says.
use Rattle.std.specs.Prelude.{ℕ, List}
use Rattle.qual_solve.specs.declared.constraint.Constraint.{Constraint}
use Rattle.qual_solve.specs.declared.leak.SolveError.{SolveError}
use Rattle.qual_solve.specs.declared.leak.SolveError.TheVariants.{NoMemory, Leak}
use Rattle.qual_solve.specs.Leaks.{IsLeak}

-- what an error means: want of memory says nothing, and a leak names its constraint and its chain
abbrev pub IsReason : ℕ → List Constraint → SolveError → Type 0
IsReason vars list NoMemory = Unit {0}
IsReason vars list (Leak at chain) = IsLeak vars list at chain
