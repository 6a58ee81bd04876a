-- What each command answers to what it has loaded, and what it means to tell.
use Rattle.std.specs.Prelude.{◌≡◌, ℕ, true, List}
use Rattle.command_line.specs.Commands.{Command, Verify, Run, Disasm, RunFiles}
use Rattle.conf_verify.specs.Listed.{IsUnlisted}
use Rattle.conf_verify.specs.Verdict.{IsAccepted, IsVerdict}
use Rattle.x64_machine.specs.Noninterference.{Noninterfering}
use Rattle.confllvm_top.specs.declared.status.Status.{Status}
use Rattle.confllvm_top.specs.declared.status.Status.TheVariants.{Done, Refused, Fault, Steps, TrustFault}
use Rattle.confllvm_top.specs.Lines.{refused_line}
use Rattle.confllvm_top.specs.Listing.{CanBeListed, TellsListing}
use Rattle.confllvm_top.specs.Loading.{Loaded}
use Rattle.confllvm_top.specs.Plans.{Plan, line_err, line_out}
use Rattle.confllvm_top.specs.Running.{Finding, RunsTo, plan_of, status_of, used_of}
use Rattle.confllvm_top.specs.Statuses.{checks, is_passed}
use Rattle.confllvm_top.specs.Verifying.{TellsCounts}

-- the image is accepted, and its run comes to what this status tells
pub record EndsRun (status : Status) (steps : ℕ) (files : RunFiles) (loaded : Loaded) : Type 0 where
  pub accepted : IsAccepted loaded.image
  pub finding : Finding
  pub runs : RunsTo loaded steps files finding
  pub status_is : status ≡ status_of (used_of files steps loaded) finding.outcome

-- How a command ends with what it has loaded, where nothing fails. `verify` and `run` refuse bytes by their verdict alone, and
-- `disasm` only where it is by V1 or V2. `verify` is done with accepted bytes, `disasm` with those that have a listing; `run` ends
-- by the outcome of the run of accepted ones.
abbrev pub Answers : Status → Command → Loaded → Type 0
Answers (Refused rule at) (Verify name) loaded = IsVerdict loaded.image rule at
Answers (Refused rule at) (Run name steps files) loaded = IsVerdict loaded.image rule at
Answers (Refused rule at) (Disasm name) loaded = IsUnlisted loaded.image rule at
Answers Done (Verify name) loaded = IsAccepted loaded.image
Answers Done (Disasm name) loaded = CanBeListed loaded.image
Answers Done (Run name steps files) loaded = EndsRun Done steps files loaded
Answers (Fault core at kind) (Run name steps files) loaded = EndsRun (Fault core at kind) steps files loaded
Answers (Steps used) (Run name steps files) loaded = EndsRun (Steps used) steps files loaded
Answers (TrustFault class) (Run name steps files) loaded = EndsRun (TrustFault class) steps files loaded
Answers _ command loaded = ⊥

-- what tells the end of a run
pub record TellsRun (steps : ℕ) (files : RunFiles) (loaded : Loaded) (plan : Plan) : Type 0 where
  pub finding : Finding
  pub runs : RunsTo loaded steps files finding
  pub is : plan ≡ plan_of files (used_of files steps loaded) finding

-- what tells such an end: `run` tells by `err`, and the other commands by `out`
abbrev pub IsPlan : Status → Command → Loaded → Plan → Type 0
IsPlan (Refused rule at) (Run name steps files) loaded plan = plan ≡ line_err (refused_line rule at)
IsPlan (Refused rule at) command loaded plan = plan ≡ line_out (refused_line rule at)
IsPlan status (Run name steps files) loaded plan = TellsRun steps files loaded plan
IsPlan Done (Verify name) loaded plan = (line : List ℕ) × TellsCounts loaded.image line × (plan ≡ line_out line)
IsPlan Done (Disasm name) loaded plan = (line : List ℕ) × TellsListing loaded.image line × (plan ≡ line_out line)
IsPlan _ command loaded plan = ⊥

-- The command ends so, and this tells it. Where it checked the bytes and passed them, they are noninterfering.
pub record IsAnswer (status : Status) (command : Command) (loaded : Loaded) (plan : Plan) : Type 0 where
  pub answers : Answers status command loaded
  pub noninterfering : checks command ≡ true → is_passed status ≡ true → Noninterfering loaded.image
  pub tells : IsPlan status command loaded plan
