-- What a command loads: the file of its name, and behind that the inputs of `run`, in this order.
use Rattle.std.specs.Prelude.{◌≡◌, ◌⊎◌, ℕ, List, [], Option, Some, None}
use Rattle.cv_io.specs.Files.{Files, HasFile}
use Rattle.command_line.specs.Commands.{Command, Run, RunFiles, IsCommand, name_of}
use Rattle.conf_verify.specs.Verdict.{IsAccepted}
use Rattle.cv_word.specs.GateStep.{Tape}

-- What a command gets from outside: the bytes of the file of its name; and of `run` the schedule and both inputs, each empty where no
-- file is named for it, and for each class the tape of what its releaser tells, None where it has none.
pub record Loaded : Type 0 where
  pub image : List ℕ
  pub schedule : List ℕ
  pub public_input : List ℕ
  pub private_input : List ℕ
  pub tapes : List (Option Tape)

abbrev pub no_files : RunFiles
no_files = record { schedule = None; public_input = None; private_input = None; private_output = None; audit = None }

-- the files that a command names beside its first
abbrev pub named_by : Command → RunFiles
named_by (Run name steps files) = files
named_by _ = no_files

-- a name is that of an input; a command loads the file of this name
abbrev pub IsInput : RunFiles → List ℕ → Type 0
IsInput names name = (names.schedule ≡ Some name) ⊎ (names.public_input ≡ Some name) ⊎ (names.private_input ≡ Some name)

abbrev pub Loads : Command → List ℕ → Type 0
Loads command name = (name ≡ name_of command) ⊎ IsInput (named_by command) name

-- ---- where the store may or may not tell its files

abbrev pub HasInput : Option Files → Option (List ℕ) → List ℕ → Type 0
HasInput told None bytes = bytes ≡ []
HasInput told (Some name) bytes = HasFile told name bytes

pub record HasInputs (told : Option Files) (files : RunFiles) (loaded : Loaded) : Type 0 where
  pub schedule : HasInput told files.schedule loaded.schedule
  pub public_input : HasInput told files.public_input loaded.public_input
  pub private_input : HasInput told files.private_input loaded.private_input

-- The words say the command, and this is loaded: the inputs only where the image is accepted. Where the store doesn't tell its
-- files, they may be any bytes.
pub record AreLoaded (words : List (List ℕ)) (told : Option Files) (command : Command) (loaded : Loaded) : Type 0 where
  pub said : IsCommand words command
  pub has : HasFile told (name_of command) loaded.image
  pub inputs : IsAccepted loaded.image → HasInputs told (named_by command) loaded

-- ---- where it tells them

abbrev pub TellsInput : Files → Option (List ℕ) → List ℕ → Type 0
TellsInput files None bytes = bytes ≡ []
TellsInput files (Some name) bytes = files name ≡ Some bytes

pub record TellsInputs (files : Files) (names : RunFiles) (loaded : Loaded) : Type 0 where
  pub schedule : TellsInput files names.schedule loaded.schedule
  pub public_input : TellsInput files names.public_input loaded.public_input
  pub private_input : TellsInput files names.private_input loaded.private_input

-- the words say the command, the files are told, and they are these: the inputs need be there only where the image is accepted
pub record TellsNamed (words : List (List ℕ)) (told : Option Files) (command : Command) (loaded : Loaded) : Type 0 where
  pub said : IsCommand words command
  pub files : Files
  pub are_told : told ≡ Some files
  pub has : files (name_of command) ≡ Some loaded.image
  pub inputs : IsAccepted loaded.image → TellsInputs files (named_by command) loaded

-- a file is named, and isn't there; a file is there, if one is named
abbrev pub Lacks : Files → Option (List ℕ) → Type 0
Lacks files None = ⊥
Lacks files (Some name) = files name ≡ None

abbrev pub IsThere : Files → Option (List ℕ) → Type 0
IsThere files None = Unit {0}
IsThere files (Some name) = (bytes : List ℕ) × (files name ≡ Some bytes)

-- the input that is loaded next isn't there
abbrev pub LacksInput : Files → RunFiles → Type 0
LacksInput files names =
    Lacks files names.schedule
    ⊎ (IsThere files names.schedule × Lacks files names.public_input)
    ⊎ (IsThere files names.schedule × IsThere files names.public_input × Lacks files names.private_input)

-- the image isn't there; or it is, is accepted, and the input that is loaded next isn't there
abbrev pub LacksFor : Files → Command → Type 0
LacksFor files command =
    (files (name_of command) ≡ None)
    ⊎ ((bytes : List ℕ) × (files (name_of command) ≡ Some bytes) × IsAccepted bytes × LacksInput files (named_by command))

-- the words say a command, the files are told, and the file that it loads next isn't there
pub record LacksNamed (words : List (List ℕ)) (told : Option Files) : Type 0 where
  pub command : Command
  pub said : IsCommand words command
  pub files : Files
  pub are_told : told ≡ Some files
  pub lacks : LacksFor files command
