-- What `sweep` refuses.
use Rattle.std.specs.Prelude.{ℕ, List}
use Rattle.code_sweep.specs.Listing.{BreaksAt}
use Rattle.code_sweep.specs.declared.sweeping.SweepError.{SweepError}
use Rattle.code_sweep.specs.declared.sweeping.SweepError.TheVariants.{NoMemory, NoItem}

-- a refusal names the place where the chain breaks; want of memory tells nothing
abbrev pub IsBreak : List ℕ → List ℕ → SweepError → Type 0
IsBreak prefix code NoMemory = Unit {0}
IsBreak prefix code (NoItem at) = BreaksAt prefix code at
