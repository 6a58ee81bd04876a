-- How a command ends.
use Rattle.std.specs.Prelude.{◌≡◌, ◌⊎◌, ℕ, List, Option, Some, []}
use Rattle.cv_io.specs.Files.{Files}
use Rattle.cv_io.specs.Releasers.{Classes}
use Rattle.command_line.specs.Commands.{Command, IsCommand}
use Rattle.conf_verify.specs.Verdict.{IsAccepted}
use Rattle.x64_machine.specs.Noninterference.{Noninterfering}
use Rattle.confllvm_top.specs.declared.status.Status.{Status}
use Rattle.confllvm_top.specs.declared.status.Status.TheVariants.{StoreFault, SinkFault, NoMemory}
use Rattle.cv_word.specs.GateStep.{Tape}
use Rattle.confllvm_top.specs.Answers.{Answers, IsAnswer}
use Rattle.confllvm_top.specs.Lines.{no_memory_line, store_fault_line}
use Rattle.confllvm_top.specs.Loading.{Loaded, AreLoaded, HasInputs, LacksInput, Loads, named_by}
use Rattle.confllvm_top.specs.Plans.{Plan, Shelf, HasSaved, HasFaulted, IsTold, IsCutOff, IsUnsaved, RanOut, PlanEnds}
use Rattle.confllvm_top.specs.Released.{HasReleased, IsServed}
use Rattle.confllvm_top.specs.Streams.{Stream, HasGotNothing, HasFailed, MayHaveGot}

-- what a call sees of the outside: both sinks, the store, and what is known of the releasers before and after it
pub record Outside : Type 0 where
  pub out : Stream
  pub err : Stream
  pub store : Shelf
  pub classes_before : Classes
  pub classes : Classes

-- the command that the words say, with what it has loaded and what the releasers told, was about to end with a status, which this plan
-- tells
pub record IsAbout (words : List (List ℕ)) (o : Outside) (status : Status) (plan : Plan) : Type 0 where
  pub command : Command
  pub loaded : Loaded
  pub are_loaded : AreLoaded words o.store.files_before command loaded
  pub served : IsServed status command loaded o.classes_before o.classes
  pub answer : IsAnswer status command loaded plan

-- it ended with that status, and all is told
pub record HasEnded (status : Status) (words : List (List ℕ)) (o : Outside) : Type 0 where
  pub plan : Plan
  pub about : IsAbout words o status plan
  pub told : IsTold plan o.out o.err o.store

-- it was about to end, and a put failed
pub record HasFailedToEnd (words : List (List ℕ)) (o : Outside) : Type 0 where
  pub status : Status
  pub plan : Plan
  pub about : IsAbout words o status plan
  pub cut_off : IsCutOff plan o.out o.err o.store

-- it was about to end, and a save failed
pub record HasFailedToSave (words : List (List ℕ)) (o : Outside) : Type 0 where
  pub status : Status
  pub plan : Plan
  pub about : IsAbout words o status plan
  pub unsaved : IsUnsaved plan o.out o.err o.store

-- it was about to end, and memory was refused
pub record HasRunOut (words : List (List ℕ)) (o : Outside) : Type 0 where
  pub status : Status
  pub plan : Plan
  pub about : IsAbout words o status plan
  pub ran_out : RanOut plan o.out o.err o.store

-- nothing was put to `out` or saved
pub record IsQuiet (o : Outside) : Type 0 where
  pub out : HasGotNothing o.out
  pub store : HasSaved [] o.store

-- a load of a command failed, and so nothing was put or saved but the line of that, and no releaser was asked
pub record HasFailedToLoad (command : Command) (o : Outside) : Type 0 where
  pub quiet : IsQuiet o
  pub unasked : o.classes ≡ o.classes_before
  pub name : List ℕ
  pub loads : Loads command name
  pub tells : MayHaveGot (store_fault_line name) o.err

-- a load of the command that the words say failed
pub record HasNotLoaded (words : List (List ℕ)) (o : Outside) : Type 0 where
  pub command : Command
  pub said : IsCommand words command
  pub failed : HasFailedToLoad command o

-- memory was refused before the command was about to end, and no releaser was asked
pub record HasNoMemory (o : Outside) : Type 0 where
  pub quiet : IsQuiet o
  pub unasked : o.classes ≡ o.classes_before
  pub tells : MayHaveGot no_memory_line o.err

-- ---- with the bytes of the command's file

-- the files are told, and this is so of them
abbrev pub ToldAnd : Option Files → (Files → Type 0) → Type 0
ToldAnd told P = (files : Files) × (told ≡ Some files) × P files

-- the image is accepted, and an input was not loaded: the store failed, or has no such file
pub record MissesInput (command : Command) (image : List ℕ) (o : Outside) : Type 0 where
  pub accepted : IsAccepted image
  pub failed : HasFailedToLoad command o
  pub cause : HasFaulted o.store ⊎ ToldAnd o.store.files_before (λ files. LacksInput files (named_by command))

-- the command was about to end with a status, and its plan was carried out
pub record CarriesOut (result : Status) (command : Command) (image : List ℕ) (o : Outside) : Type 0 where
  pub loaded : Loaded
  pub image_is : loaded.image ≡ image
  pub inputs : IsAccepted loaded.image → HasInputs o.store.files_before (named_by command) loaded
  pub status : Status
  pub plan : Plan
  pub served : IsServed status command loaded o.classes_before o.classes
  pub answer : IsAnswer status command loaded plan
  pub ends : PlanEnds result status plan o.out o.err o.store

-- what doing a command with the bytes of its file comes to
abbrev pub Does : Status → Command → List ℕ → Outside → Type 0
Does result command image o =
    ((result ≡ NoMemory) × HasNoMemory o)
    ⊎ ((result ≡ StoreFault) × MissesInput command image o)
    ⊎ CarriesOut result command image o

-- the bytes that the command has loaded are accepted and noninterfering
pub record IsChecked (words : List (List ℕ)) (told : Option Files) (command : Command) : Type 0 where
  pub loaded : Loaded
  pub are_loaded : AreLoaded words told command loaded
  pub accepted : IsAccepted loaded.image
  pub noninterfering : Noninterfering loaded.image

-- the command answers so to what it has loaded, with what the releasers told in the call
pub record AnswersWith (status : Status) (command : Command) (loaded : Loaded) (o : Outside) : Type 0 where
  pub tapes : List (Option Tape)
  pub released : HasReleased tapes o.classes_before o.classes
  pub answers : Answers status command (record loaded { tapes = tapes })

-- it answers so with every list of tapes that fits what is known of the releasers before and after the call
abbrev pub AnswersAlways : Status → Command → Loaded → Outside → Type 0
AnswersAlways status command loaded o =
    (tapes : List (Option Tape)) → HasReleased tapes o.classes_before o.classes → Answers status command (record loaded { tapes = tapes })

-- a fault of the store or of a sink, or want of memory, came in place of the answer
abbrev pub IsFault : Status → Outside → Type 0
IsFault status o =
    ((status ≡ StoreFault) × HasFaulted o.store) ⊎ ((status ≡ SinkFault) × (HasFailed o.out ⊎ HasFailed o.err)) ⊎ (status ≡ NoMemory)
