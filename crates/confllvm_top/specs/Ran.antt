-- What a machine that has run a loaded image leaves.
use Rattle.std.specs.Prelude.{ℕ, List, Option}
use Rattle.command_line.specs.Commands.{RunFiles}
use Rattle.cv_io.specs.Releasers.{Classes}
use Rattle.cv_word.specs.GateStep.{Releasers, Tape}
use Rattle.x64_machine.specs.Run.{State}
use Rattle.confllvm_top.specs.Inputs.{finding_in}
use Rattle.confllvm_top.specs.Loading.{Loaded}
use Rattle.confllvm_top.specs.Released.{HasReleased, HasUsed}
use Rattle.confllvm_top.specs.Running.{RunsTo}

-- what was loaded is one thing for each list of tapes: the machine has run with those that the releasers told in the run
pub record HasRunWith (loaded : List (Option Tape) → Loaded) (steps : ℕ) (files : RunFiles) (m : State) (old new : Classes) : Type 0 where
  pub tapes : List (Option Tape)
  pub released : HasReleased tapes old new
  pub releasers : Releasers
  pub runs : RunsTo (loaded tapes) steps files (finding_in m releasers)
  pub used : HasUsed released.events released.failure (finding_in m releasers)
