-- What the releasers of all classes did in a call, and the tapes of a run in which they did that.
use Rattle.std.specs.Prelude.{◌≡◌, ℕ, suc, Bool, List, [], ◌∷◌, length, Option, Some, None, is_some, if◌then◌else◌}
use Rattle.command_line.specs.Commands.{Command, Run}
use Rattle.cv_io.specs.Releasers.{Classes, held_of}
use Rattle.cv_word.specs.GateStep.{Tape}
use Rattle.trusted_stubs.specs.Events.{Event, Request, asked_of, audit_of, of_class, told_by, known_after, FailsAt, IsKnownAfter}
use Rattle.confllvm_top.specs.declared.status.Status.{Status}
use Rattle.confllvm_top.specs.declared.status.Status.TheVariants.{Refused}
use Rattle.confllvm_top.specs.Loading.{Loaded}
use Rattle.confllvm_top.specs.Running.{Finding, RunsTo}

-- the tape of a class: all bytes that its releaser told; it is limited to the number of releases that it answered, or has no limit
abbrev pub tape_of : Bool → List Event → ℕ → Tape
tape_of limited events class = record {
  bytes = told_by class events;
  releases = if limited then Some (length (of_class class events)) else None;
}

-- the tapes of all classes from a number on, where these have a releaser
abbrev pub tapes_from : Bool → List Event → ℕ → List Bool → List (Option Tape)
tapes_from limited events class [] = []
tapes_from limited events class (held ∷ rest) =
    (if held then Some (tape_of limited events class) else None) ∷ tapes_from limited events (suc class) rest

-- The releasers went from the old classes to the new ones: they answered these events, and then, if there is a request, one failed
-- at it. The tapes are what they told, limited where one failed.
pub record HasReleased (tapes : List (Option Tape)) (old new : Classes) : Type 0 where
  pub events : List Event
  pub failure : Option Request
  pub known : IsKnownAfter failure events old new
  pub tapes_are : tapes ≡ tapes_from (is_some failure) events 0 (held_of old)

-- what a run with these tapes finds: the audit lists the events, every tape is used to its last byte, each class was asked with
-- the sources of its events, and the run ended at this request, if any
pub record HasUsed (events : List Event) (failure : Option Request) (finding : Finding) : Type 0 where
  pub listed : finding.audit ≡ audit_of events
  pub used : (class : ℕ) → (finding.releasers.tapes class).left.bytes ≡ []
  pub asked : (class : ℕ) → finding.releasers.asked class ≡ asked_of class events
  pub unanswered : finding.unanswered ≡ failure

-- the run of the loaded image found that, the one finding that it has; another command has no events and no failed request
abbrev pub RunsWith : Loaded → Command → List Event → Option Request → Type 0
RunsWith loaded (Run name steps files) events failure = (finding : Finding) × RunsTo loaded steps files finding × HasUsed events failure finding
RunsWith loaded _ events failure = (events ≡ []) × (failure ≡ None)

-- What the releasers did where a command ended so: in a run, what its tapes and its audit tell; else, and where bytes are refused,
-- nothing.
abbrev pub IsAsked : Status → Command → Loaded → List Event → Option Request → Type 0
IsAsked (Refused rule at) command loaded events failure = (events ≡ []) × (failure ≡ None)
IsAsked status command loaded events failure = RunsWith loaded command events failure

pub record IsServed (status : Status) (command : Command) (loaded : Loaded) (old new : Classes) : Type 0 where
  pub released : HasReleased loaded.tapes old new
  pub asked : IsAsked status command loaded released.events released.failure

-- the releaser of a class failed at a request, after it and the others had answered some events: its count of faults has risen, and it
-- keeps the length of that request
pub record HasFailedToAnswer (class : ℕ) (old new : Classes) : Type 0 where
  pub events : List Event
  pub request : Request
  pub class_is : request.class ≡ class
  pub failed : FailsAt request (known_after events old) new
