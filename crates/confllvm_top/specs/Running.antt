-- What `run` finds.
use Rattle.std.specs.Prelude.{◌≡◌, ℕ, List, [], ◌∷◌, ◌++◌, length, min, take, Option, Some, None, is_some, if◌then◌else◌}
use Rattle.command_line.specs.Commands.{RunFiles}
use Rattle.cv_word.specs.GateStep.{Releasers}
use Rattle.trusted_stubs.specs.Events.{Request}
use Rattle.image_form.specs.Image.{Image}
use Rattle.conf_verify.specs.Verdict.{IsImage}
use Rattle.x64_machine.specs.declared.outcome.Outcome.{Outcome}
use Rattle.x64_machine.specs.declared.outcome.Outcome.TheVariants as outcome
use Rattle.x64_machine.specs.declared.schedule.Schedule.TheVariants.{RoundRobin}
use Rattle.x64_machine.specs.Run.{Configuration, run}
use Rattle.x64_machine.specs.Start.{Shared, Secret, start}
use Rattle.x64_machine.specs.Entries.{entries}
use Rattle.x64_machine.specs.Following.{unanswered}
use Rattle.confllvm_top.specs.declared.status.Status.{Status}
use Rattle.confllvm_top.specs.declared.status.Status.TheVariants.{Done, Fault, Steps, TrustFault}
use Rattle.confllvm_top.specs.Lines.{exit_line, fault_line, steps_line, trust_fault_line}
use Rattle.confllvm_top.specs.Loading.{Loaded}
use Rattle.confllvm_top.specs.Plans.{Plan, Saving}

-- what a run leaves: the outcome, the request that ended it unanswered, if one did, and what was put out; and of the releasers what is
-- left of their tapes and what each was asked
pub record Finding : Type 0 where
  pub outcome : Outcome
  pub unanswered : Option Request
  pub public_output : List ℕ
  pub private_output : List ℕ
  pub audit : List ℕ
  pub releasers : Releasers

abbrev pub finding_of : Configuration → Finding
finding_of c = record {
  outcome = c.state.outcome;
  unanswered = unanswered c.state.outcome c.state.cores;
  public_output = c.state.world.visible.public_output;
  private_output = c.state.world.private_output;
  audit = c.state.world.visible.audit;
  releasers = c.releasers;
}

-- the entries of a run of n cores: the first of the schedule's bytes, or a round robin where no schedule is named
abbrev pub schedule_of : RunFiles → ℕ → Loaded → ℕ → List ℕ
schedule_of files steps loaded n = if is_some files.schedule then take steps loaded.schedule else entries (RoundRobin steps) n

-- how many they are
abbrev pub used_of : RunFiles → ℕ → Loaded → ℕ
used_of files steps loaded = if is_some files.schedule then min steps (length loaded.schedule) else steps

-- The run of the loaded image comes to this, from its start with the loaded inputs and tapes. The private segment starts with the
-- image's private bytes.
pub record RunsTo (loaded : Loaded) (steps : ℕ) (files : RunFiles) (finding : Finding) : Type 0 where
  pub image : Image
  pub is : IsImage loaded.image image
  pub shared : Shared
  pub secret : Secret
  pub public_input : shared.public_input ≡ loaded.public_input
  pub tapes : shared.tapes ≡ loaded.tapes
  pub segment : secret.segment ≡ image.private
  pub private_input : secret.private_input ≡ loaded.private_input
  pub comes_to : finding ≡ finding_of (run (schedule_of files steps loaded (length image.entries)) (start image shared secret))

-- the status that tells the outcome of a run over so many entries, and its line
abbrev pub status_of : ℕ → Outcome → Status
status_of used outcome.Running = Steps used
status_of used (outcome.Exited status) = Done
status_of used (outcome.Fault core at kind) = Fault core at kind
status_of used (outcome.Tape core at class) = TrustFault class

abbrev pub outcome_line : ℕ → Outcome → List ℕ
outcome_line used outcome.Running = steps_line used
outcome_line used (outcome.Exited status) = exit_line status
outcome_line used (outcome.Fault core at kind) = fault_line core at kind
outcome_line used (outcome.Tape core at class) = trust_fault_line class

-- a file to save, if one is named
abbrev pub saving : Option (List ℕ) → List ℕ → List Saving
saving None bytes = []
saving (Some name) bytes = record { name = name; bytes = bytes } ∷ []

-- what `run` tells: the public output, the private output and the audit where they are named, and the line of the outcome
abbrev pub plan_of : RunFiles → ℕ → Finding → Plan
plan_of files used finding = record {
  out = finding.public_output;
  saves = saving files.private_output finding.private_output ++ saving files.audit finding.audit;
  err = outcome_line used finding.outcome;
}
