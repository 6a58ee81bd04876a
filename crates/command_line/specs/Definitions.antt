-- The definitions of the commands, by which clap reads words, and what it makes of the words. A word is the list of its bytes.
--
-- By clap's rules the first `--` among them ends the options and is no value. Before it a word that begins with `-` names an
-- option, unless it is `-` alone. The value of an option stands in its word behind `=`, and may be any text there, or it is
-- the next word, unless that names an option or is `--`. No words have matches where one names an option that the command
-- hasn't got, or `-h` or `--help`, which ask for help, where an option lacks its value, or where one is given twice.
use Rattle.std.specs.Prelude.{◌≡◌, true, List, [], ◌∷◌, Option, Some, codes, fold, slice_get}
use Rattle.clap.specs.Words.{App, Rule, Text, fault_of, first_of, matches_of, new_app, new_rule, with_rule}
use Rattle.clap.specs.declared.builder.action.ArgAction.TheVariants.{Set}

-- a capital word: one value, which has to be there
abbrev pub capital : Text → Rule
capital id = record (new_rule id) { required = true; action = Some Set }

-- an option, `--` and its long name: one value, which need not be there
abbrev pub option : Text → Text → Rule
option id long = record (new_rule id) { long = Some long; action = Some Set }

-- a command by its own word and those that follow it
abbrev pub defined : Text → List Rule → App
defined word rules = fold with_rule (new_app word) rules

-- The table: each command's own word, and what follows it.
abbrev pub verify : App
verify = defined (codes "verify") (capital (codes "NAME") ∷ [])

abbrev pub run : App
run = defined (codes "run")
    (capital (codes "NAME")
    ∷ capital (codes "STEPS")
    ∷ option (codes "schedule") (codes "schedule")
    ∷ option (codes "public_input") (codes "public")
    ∷ option (codes "private_input") (codes "private")
    ∷ option (codes "private_output") (codes "private-out")
    ∷ option (codes "audit") (codes "audit")
    ∷ [])

abbrev pub disasm : App
disasm = defined (codes "disasm") (capital (codes "NAME") ∷ [])

-- The definition takes the words: its own word comes first, and it has matches for them.
pub record Takes (definition : App) (words : List Text) : Type 0 where
  pub own : slice_get words 0 ≡ Some definition.top.name
  pub matches : fault_of definition words ≡ []

-- the value of a capital word or an option, by its id, in words that the definition takes
abbrev pub value_of : App → List Text → Text → Option Text
value_of definition words id = first_of id (matches_of definition words)
