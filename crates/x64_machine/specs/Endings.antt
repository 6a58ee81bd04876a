-- Ends of a run: what a step says of them, and the laws of a machine that ended and of a step that faults.
use Rattle.std.specs.Prelude.{◌≡◌, ℕ, Bool, true, false}
use Rattle.x64_machine.specs.declared.outcome.Outcome.{Outcome}
use Rattle.x64_machine.specs.declared.outcome.Outcome.TheVariants as outcome
use Rattle.x64_machine.specs.declared.schedule.Progress.{Progress}
use Rattle.x64_machine.specs.declared.schedule.Progress.TheVariants as progress
use Rattle.x64_machine.specs.Run.{Configuration, is_running, step, with_outcome}

-- what a step answers, by the outcome after it
abbrev pub progress_of : Outcome → Progress
progress_of outcome.Running = progress.Running
progress_of _ = progress.Ended

-- the run ended in a fault, or since a tape ran out
abbrev pub has_failed : Outcome → Bool
has_failed (outcome.Fault core at kind) = true
has_failed (outcome.Tape core at class) = true
has_failed _ = false

-- once a run has ended, no step changes anything
abbrev pub EndedStays : Type 0
EndedStays = (i : ℕ) (c : Configuration) → is_running c.state.outcome ≡ false → step i c ≡ c

-- a step that fails changes nothing but the outcome
abbrev pub FailingKeepsTheRest : Type 0
FailingKeepsTheRest =
    (i : ℕ) (c : Configuration) → is_running c.state.outcome ≡ true → has_failed (step i c).state.outcome ≡ true →
    step i c ≡ with_outcome (step i c).state.outcome c
