use Rattle.std.proofs.Common.{sym, ◌∙◌}
use Rattle.conf_verify.proofs.Shapes.{entry_yes, entry_no, entry_none, entry_low}
use Rattle.conf_verify.proofs.shape.follows_call_word.Goals as goal

pub returns-then-entry-lt8-clause-no : goal.returns-then-entry-lt8-clause-no
returns-then-entry-lt8-clause-no c = λ e. entry_low c.args.items.now c.args.entry c.requires.eight c.if-entry-lt8.true

pub returns-in_default-clause-no : goal.returns-in_default-clause-no
returns-in_default-clause-no c = λ e. entry_none c.args.items.now c.args.entry c.requires.eight c.in_default.ensures.only

pub returns-clause-yes : goal.returns-clause-yes
returns-clause-yes c = λ e. entry_yes c.args.items.now c.in-Some.q c.args.entry c.if-entry-lt8.false c.requires.eight c.in-Some.ensures.found (sym c.is_call_word.ensures ∙ e)

pub returns-clause-no : goal.returns-clause-no
returns-clause-no c = λ e. entry_no c.args.items.now c.in-Some.q c.args.entry c.requires.eight c.in-Some.ensures.only (sym c.is_call_word.ensures ∙ e)
