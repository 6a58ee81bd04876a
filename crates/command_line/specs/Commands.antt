-- The commands, and the words that say them. A word is the list of its bytes.
use Rattle.std.specs.Prelude.{◌≡◌, ◌≤◌, ℕ, List, Option, Some, codes}
use Rattle.clap.specs.Words.{App}
use Rattle.command_line.specs.Numbers.{IsNumber}
use Rattle.command_line.specs.Definitions.{Takes, disasm, run, value_of, verify}

-- the names of the files that the options of `run` give; None where an option isn't given
pub record RunFiles : Type 0 where
  -- `--schedule FILE`
  pub schedule : Option (List ℕ)
  -- `--public FILE`
  pub public_input : Option (List ℕ)
  -- `--private FILE`
  pub private_input : Option (List ℕ)
  -- `--private-out FILE`
  pub private_output : Option (List ℕ)
  -- `--audit FILE`
  pub audit : Option (List ℕ)

-- what the words of a command line can say
pub data Command : Type 0 where
  -- `verify NAME`
  Verify : List ℕ → Command
  -- `run NAME STEPS`, with its options
  Run : List ℕ → ℕ → RunFiles → Command
  -- `disasm NAME`
  Disasm : List ℕ → Command

-- the name of the file that a command loads first
abbrev pub name_of : Command → List ℕ
name_of (Verify name) = name
name_of (Run name steps files) = name
name_of (Disasm name) = name

-- the definition of a command
abbrev pub definition_of : Command → App
definition_of (Verify name) = verify
definition_of (Run name steps files) = run
definition_of (Disasm name) = disasm

-- this is the value of NAME
abbrev pub HasName : App → List (List ℕ) → List ℕ → Type 0
HasName definition words name = value_of definition words (codes "NAME") ≡ Some name

-- the value of STEPS is digits, and this is their number, at most 1,000,000,000
pub record HasSteps (definition : App) (words : List (List ℕ)) (steps : ℕ) : Type 0 where
  pub digits : List ℕ
  pub has : value_of definition words (codes "STEPS") ≡ Some digits
  pub number : IsNumber digits steps
  pub most : steps ≤ 1000000000

-- the files of `run`, where each option has the value that this gives for its id
abbrev pub files_by : (List ℕ → Option (List ℕ)) → RunFiles
files_by value = record {
  schedule = value (codes "schedule");
  public_input = value (codes "public_input");
  private_input = value (codes "private_input");
  private_output = value (codes "private_output");
  audit = value (codes "audit");
}

-- the options have these files' names for their values, and those that aren't given have none
abbrev pub HasFiles : App → List (List ℕ) → RunFiles → Type 0
HasFiles definition words files = files_by (value_of definition words) ≡ files

-- the words have these values for a command's capital words and its options
abbrev pub HasValues : List (List ℕ) → Command → Type 0
HasValues words (Verify name) = HasName verify words name
HasValues words (Run name steps files) = HasName run words name × HasSteps run words steps × HasFiles run words files
HasValues words (Disasm name) = HasName disasm words name

-- The words say the command: its definition takes them, with the command's values.
pub record IsCommand (words : List (List ℕ)) (command : Command) : Type 0 where
  pub takes : Takes (definition_of command) words
  pub values : HasValues words command

-- the words say no command
abbrev pub IsNoCommand : List (List ℕ) → Type 0
IsNoCommand words = (command : Command) → IsCommand words command → ⊥
