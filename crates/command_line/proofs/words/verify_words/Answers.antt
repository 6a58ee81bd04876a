use Rattle.std.proofs.Common.{codes}
use Rattle.command_line.specs.Definitions.{verify}
use Rattle.command_line.proofs.WordLemmas.{matches_by, only_verify, value_is, value_lacks, verify_free}
use Rattle.command_line.proofs.words.verify_words.Goals as goal

pub returns-in_err-name-clause-usage : goal.returns-in_err-name-clause-usage
returns-in_err-name-clause-usage c =
    let read = c.in_ok-matches.ensures in
    let are = matches_by verify _ _ _ c.in_ok-verify.ensures verify_free read.kinds read.matches in
    λ _. only_verify _ c.requires (λ name said.
    value_lacks verify _ _ are (codes "NAME") _ name c.get_str.ensures c.in_err-name.ensures.ok_part said.values)

pub returns-clause-said : goal.returns-clause-said
returns-clause-said c =
    let read = c.in_ok-matches.ensures in
    let are = matches_by verify _ _ _ c.in_ok-verify.ensures verify_free read.kinds read.matches in
    record {
      takes = record { own = c.requires; matches = are.none };
      values = value_is verify _ _ are (codes "NAME") _ _ c.get_str.ensures c.in_ok-name.ensures.ok_part;
    }
