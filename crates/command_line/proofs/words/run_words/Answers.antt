use Rattle.std.proofs.Common.{codes}
use Rattle.command_line.specs.Definitions.{run}
use Rattle.command_line.proofs.WordLemmas.{files_are, matches_by, no_steps, only_run, run_free, value_is, value_lacks}
use Rattle.command_line.proofs.words.run_words.Goals as goal

pub returns-in_err-name-clause-usage : goal.returns-in_err-name-clause-usage
returns-in_err-name-clause-usage c =
    let read = c.in_ok-matches.ensures in
    let are = matches_by run _ _ _ c.in_ok-run.ensures run_free read.kinds read.matches in
    λ _. only_run _ c.requires (λ name steps files said.
    value_lacks run _ _ are (codes "NAME") _ name c.get_str.ensures c.in_err-name.ensures.ok_part said.values.0)

pub returns-in_err-digits-clause-usage : goal.returns-in_err-digits-clause-usage
returns-in_err-digits-clause-usage c =
    let read = c.in_ok-matches.ensures in
    let are = matches_by run _ _ _ c.in_ok-run.ensures run_free read.kinds read.matches in
    λ _. only_run _ c.requires (λ name steps files said.
    let has = said.values.1 in
    value_lacks run _ _ are (codes "STEPS") _ has.digits c.get_str-2.ensures c.in_err-digits.ensures.ok_part has.has)

pub returns-in_err-steps-clause-usage : goal.returns-in_err-steps-clause-usage
returns-in_err-steps-clause-usage c =
    let read = c.in_ok-matches.ensures in
    let are = matches_by run _ _ _ c.in_ok-run.ensures run_free read.kinds read.matches in
    let digits = value_is run _ _ are (codes "STEPS") _ _ c.get_str-2.ensures c.in_ok-digits.ensures.ok_part in
    let none = rw c.in_err-steps.ensures.ok_part at c.number.ensures in
    λ _. only_run _ c.requires (λ name steps files said. no_steps run _ _ steps digits none said.values.1)

pub returns-clause-said : goal.returns-clause-said
returns-clause-said c =
    let read = c.in_ok-matches.ensures in
    let are = matches_by run _ _ _ c.in_ok-run.ensures run_free read.kinds read.matches in
    let number = rw c.in_ok-steps.ensures.ok_part at c.number.ensures in
    record {
      takes = record { own = c.requires; matches = are.none };
      values = (
        value_is run _ _ are (codes "NAME") _ _ c.get_str.ensures c.in_ok-name.ensures.ok_part,
        record {
          digits = c.in_ok-digits.digits.now;
          has = value_is run _ _ are (codes "STEPS") _ _ c.get_str-2.ensures c.in_ok-digits.ensures.ok_part;
          number = number.0;
          most = number.1;
        },
        files_are _ _ _ are c.run_files-files.ensures,
      );
    }
