use Rattle.std.proofs.Common.{sym, ◌∙◌}
use Rattle.c_parser.proofs.OperatorLemmas.{opens_next}
use Rattle.c_parser.proofs.operators.opens_type.Goals as goal

pub returns : goal.returns
returns c = c.begins_type.ensures ∙ sym (opens_next c.args.words.now c.args.at (sym c.next_is.ensures ∙ c.if-not-next_is.false))
