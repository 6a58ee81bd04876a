-- What clap's matches by a definition say of the command in the words.
use Rattle.std.proofs.Common.{◌≡◌, ◌∙◌, ◌≤◌, ℕ, List, [], Option, Some, None, true, false, refl, sym, ap}
use Rattle.std.proofs.Common.{is_some, true≢false}
use Rattle.std.specs.Str.{bytes_eq}
use Rattle.std.proofs.lemmas.Option.{same_Some}
use Rattle.std.proofs.lemmas.Slice.Eq.{bytes_eq-Decides}
use Rattle.std.specs.Prelude.{codes, option_map, slice_get}
use Rattle.std.specs.Borrow.{Bor}
use Rattle.clap.specs.Words.{App, HasMatchesOf, Text, fault_of, first_of, first_value, found_of}
use Rattle.clap.specs.Words.{is_simple, is_simple_and_free, matches_of, rows_of}
use Rattle.clap.specs.declared.parser.matches.ArgMatches.{ArgMatches}
use Rattle.clap.proofs.OnLiterals.{clap_on_literals}
use Rattle.clap.proofs.WalkLemmas.{both, first_value-rows}
use Rattle.command_line.specs.Definitions.{verify, run, disasm, value_of}
use Rattle.command_line.specs.Commands.{Verify, Run, RunFiles, Disasm, HasFiles, HasSteps, IsCommand, IsNoCommand, files_by}
use Rattle.command_line.specs.Numbers.{IsNumber}
use Rattle.command_line.proofs.NumberLemmas.{same-number}

-- clap's contract is exact for each definition
pub verify_free : is_simple_and_free verify ≡ true
unfolding clap_on_literals
verify_free = refl

pub run_free : is_simple_and_free run ≡ true
unfolding clap_on_literals
run_free = refl

pub disasm_free : is_simple_and_free disasm ≡ true
unfolding clap_on_literals
disasm_free = refl

-- matches that clap has given for the words by the definition
pub record AreMatches (definition : App) (words : List Text) (m : ArgMatches) : Type 0 where
  pub none : fault_of definition words ≡ []
  pub rows : rows_of (found_of m) ≡ matches_of definition words

pub matches_by : (definition app : App) (words : List Text) (m : ArgMatches) → app ≡ definition →
    is_simple_and_free definition ≡ true → (is_simple_and_free app ≡ true → fault_of app words ≡ []) →
    HasMatchesOf app words m → AreMatches definition words m
matches_by definition app words m same free kinds has =
    let simple = (both _ _ free).0 in
    record {
      none = ap (λ (a : App). fault_of a words) (sym same) ∙ kinds (ap is_simple_and_free same ∙ free);
      rows = (has (ap is_simple same ∙ simple)).0 ∙ ap (λ (a : App). matches_of a words) same;
    }

module _ (definition : App) (words : List Text) (m : ArgMatches) (are : AreMatches definition words m) where
  value_read : (id : Text) (answer : Option (Bor Text)) → option_map (λ s. s.now) answer ≡ first_value (found_of m) id →
      option_map (λ s. s.now) answer ≡ value_of definition words id
  value_read id answer is = is ∙ first_value-rows (found_of m) id ∙ ap (first_of id) are.rows

  -- the words give a capital word what is read of it
  pub value_is : (id : Text) (answer : Option (Bor Text)) (value : Bor Text) →
      option_map (λ s. s.now) answer ≡ first_value (found_of m) id → answer ≡ Some value →
      value_of definition words id ≡ Some value.now
  value_is id answer value is some = sym (value_read id answer is) ∙ ap (option_map (λ (s : Bor Text). s.now)) some

  -- and nothing where nothing is read
  pub value_lacks : (id : Text) (answer : Option (Bor Text)) (value : Text) →
      option_map (λ s. s.now) answer ≡ first_value (found_of m) id → answer ≡ None →
      value_of definition words id ≡ Some value → ⊥
  value_lacks id answer value is none some =
      let other : None ≡ Some value =
      sym (ap (option_map (λ (s : Bor Text). s.now)) none) ∙ value_read id answer is ∙ some in
      true≢false (ap (λ (o : Option Text). is_some o) (sym other))

-- two ways to give each option's value that agree name the same files
files_same : (mine yours : Text → Option Text) → ((id : Text) → mine id ≡ yours id) → files_by mine ≡ files_by yours
files_same mine yours same = rw (
  same (codes "schedule"),
  same (codes "public_input"),
  same (codes "private_input"),
  same (codes "private_output"),
  same (codes "audit"),
)

-- the words give the options what is read of them
pub files_are : (words : List Text) (m : ArgMatches) (files : RunFiles) → AreMatches run words m →
    files ≡ files_by (first_value (found_of m)) → HasFiles run words files
files_are words m files are read =
    files_same _ _ (λ id. ap (first_of id) (sym are.rows) ∙ sym (first_value-rows (found_of m) id)) ∙ sym read

-- digits that are no number within the limit give STEPS none
pub no_steps : (definition : App) (words : List Text) (digits : Text) (steps : ℕ) →
    value_of definition words (codes "STEPS") ≡ Some digits →
    ((value : ℕ) → IsNumber digits value → value ≤ 1000000000 → ⊥) → HasSteps definition words steps → ⊥
no_steps definition words digits steps has none said =
    none steps (same-number said.digits digits steps (same_Some _ _ (sym said.has ∙ has)) said.number) said.most

-- ---- words that begin with a command's word say no other command

other_word : (mine yours : Text) → bytes_eq mine yours ≡ false → Some mine ≡ Some yours → ⊥
other_word mine yours differ same =
    true≢false (sym ((bytes_eq-Decides mine yours).1 (same_Some mine yours same)) ∙ differ)

pub only_verify : (words : List Text) → slice_get words 0 ≡ Some verify.top.name →
    ((name : Text) → IsCommand words (Verify name) → ⊥) → IsNoCommand words
only_verify words own none (Verify name) said = none name said
only_verify words own none (Run name steps files) said = other_word verify.top.name run.top.name refl (sym own ∙ said.takes.own)
only_verify words own none (Disasm name) said = other_word verify.top.name disasm.top.name refl (sym own ∙ said.takes.own)

pub only_run : (words : List Text) → slice_get words 0 ≡ Some run.top.name →
    ((name : Text) (steps : ℕ) (files : RunFiles) → IsCommand words (Run name steps files) → ⊥) → IsNoCommand words
only_run words own none (Verify name) said = other_word run.top.name verify.top.name refl (sym own ∙ said.takes.own)
only_run words own none (Run name steps files) said = none name steps files said
only_run words own none (Disasm name) said = other_word run.top.name disasm.top.name refl (sym own ∙ said.takes.own)

pub only_disasm : (words : List Text) → slice_get words 0 ≡ Some disasm.top.name →
    ((name : Text) → IsCommand words (Disasm name) → ⊥) → IsNoCommand words
only_disasm words own none (Verify name) said = other_word disasm.top.name verify.top.name refl (sym own ∙ said.takes.own)
only_disasm words own none (Run name steps files) said = other_word disasm.top.name run.top.name refl (sym own ∙ said.takes.own)
only_disasm words own none (Disasm name) said = none name said
