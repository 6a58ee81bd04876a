use Rattle.std.proofs.Common.{sym, ◌∙◌}
use Rattle.conf_verify.proofs.Shapes.{word_yes, word_no, word_none}
use Rattle.conf_verify.proofs.shape.has_word.Goals as goal

pub returns-in_default-clause-no : goal.returns-in_default-clause-no
returns-in_default-clause-no c = λ e. word_none c.args.items.now c.args.place c.in_default.ensures.only

pub returns-clause-yes : goal.returns-clause-yes
returns-clause-yes c = λ e. word_yes c.args.items.now c.in-Some.q c.args.place c.if-place-lt2.false c.in-Some.ensures.found (sym c.is_word.ensures ∙ e)

pub returns-clause-no : goal.returns-clause-no
returns-clause-no c = λ e. word_no c.args.items.now c.in-Some.q c.args.place c.in-Some.ensures.only (sym c.is_word.ensures ∙ e)
