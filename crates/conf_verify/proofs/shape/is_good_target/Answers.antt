use Rattle.std.proofs.Common.{sym, ◌∙◌, ap, not}
use Rattle.taint_flow.specs.Places.{number_at}
use Rattle.conf_verify.proofs.Shapes.{target_none, target_yes, target_below, target_above, target_word}
use Rattle.conf_verify.proofs.shape.is_good_target.Goals as goal

pub returns-in_default-clause-no : goal.returns-in_default-clause-no
returns-in_default-clause-no c = λ e. target_none c.args.items.now (number_at c.args.numbers.now) c.args.i c.args.target c.requires.numbers c.in_default.ensures

pub returns-then-j-procedure-clause-no : goal.returns-then-j-procedure-clause-no
returns-then-j-procedure-clause-no c = λ e.
    target_below c.args.items.now (number_at c.args.numbers.now) c.args.procedure.start c.args.procedure.end c.args.i c.args.target c.in-Some.j c.requires.numbers c.requires.procedure c.requires.from c.requires.to
    c.in-Some.ensures c.if-j-procedure.true

pub returns-then-j-procedure-2-clause-no : goal.returns-then-j-procedure-2-clause-no
returns-then-j-procedure-2-clause-no c = λ e.
    target_above c.args.items.now (number_at c.args.numbers.now) c.args.procedure.start c.args.procedure.end c.args.i c.args.target c.in-Some.j c.requires.numbers c.requires.procedure c.requires.to
    c.in-Some.ensures c.if-j-procedure-2.true

pub returns-clause-yes : goal.returns-clause-yes
returns-clause-yes c = λ e.
    target_yes c.args.items.now (number_at c.args.numbers.now) c.args.procedure.start c.args.procedure.end c.args.i c.args.target c.in-Some.j _ c.requires.numbers c.requires.procedure c.requires.from c.requires.to
    c.if-target-lt-CODE_BASE.false c.in-Some.ensures c.if-j-procedure.false c.if-j-procedure-2.false (ap not (sym c.is_word.ensures) ∙ e)

pub returns-clause-no : goal.returns-clause-no
returns-clause-no c = λ e.
    target_word c.args.items.now (number_at c.args.numbers.now) c.args.i c.args.target c.in-Some.j _ c.requires.numbers c.in-Some.ensures
    (ap not (sym c.is_word.ensures) ∙ e)
