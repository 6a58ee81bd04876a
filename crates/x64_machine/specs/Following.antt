-- How a machine follows the model's run while real releasers answer, and the failed request that ended a run.
use Rattle.std.specs.Prelude.{◌≡◌, ℕ, List, Option, Some, None, slice_get, if◌then◌else◌}
use Rattle.cv_io.specs.Releasers.{Classes}
use Rattle.cv_word.specs.GateStep.{arguments_of}
use Rattle.trusted_stubs.specs.Events.{Request, Plays}
use Rattle.x64_machine.specs.declared.outcome.Outcome.{Outcome}
use Rattle.x64_machine.specs.declared.outcome.Outcome.TheVariants as outcome
use Rattle.x64_machine.specs.Run.{Core, State, configuration, is_running, run}

-- how many bytes a core at the gate Release asks for: what it has in rdx
abbrev pub asked_by : Option Core → ℕ
asked_by None = 0
asked_by (Some core) = (arguments_of core.registers).third

-- The failed request that ended a run, if one did. The failing step changed nothing but the outcome, so the core's rdx still has the
-- number of bytes.
abbrev pub unanswered : Outcome → List Core → Option Request
unanswered (outcome.Tape core at class) cores = Some (record { class = class; count = asked_by (slice_get cores core) })
unanswered _ cores = None

-- the failed request that ended a run between two states, if one did: none where it had ended before
abbrev pub failure_between : State → State → Option Request
failure_between old new = if is_running old.outcome then unanswered new.outcome new.cores else None

-- The machine has gone from the old state to the new one by these entries, exactly as the model's run does, and the releasers of
-- all classes from the old classes to the new ones.
abbrev pub HasRun : List ℕ → Classes → Classes → State → State → Type 0
HasRun schedule classes classes' old new =
    Plays (failure_between old new) classes classes' old.world.visible.audit new.world.visible.audit
    (λ before after. configuration new after ≡ run schedule (configuration old before))
