use Rattle.std.proofs.Common.{sym, ◌∙◌, ap, not}
use Rattle.std.proofs.lemmas.Bool.{true≢false}
use Rattle.conf_verify.proofs.Procedures.{ends_badly, ends_well}
use Rattle.conf_verify.proofs.shape.is_bad_end.Goals as goal
use Rattle.conf_verify.proofs.shape.is_bad_end.Goals.{else-i-eq0-via-then-i-eq0+else-not-is_call_word, else-i-eq0-via-else-i-eq0}

pub returns-then-i-procedure-clause-yes : goal.returns-then-i-procedure-clause-yes
returns-then-i-procedure-clause-yes c = λ e.
    ends_badly c.args.items.now c.args.procedure.start c.args.procedure.end c.args.i _ c.requires.procedure c.requires.to c.if-i-procedure.true (ap not (sym c.may_end.ensures) ∙ e)

pub returns-then-i-procedure-clause-no : goal.returns-then-i-procedure-clause-no
returns-then-i-procedure-clause-no c = λ e.
    ends_well c.args.items.now c.args.i _
    (elim c.else-i-eq0.branch [
      | else-i-eq0-via-then-i-eq0+else-not-is_call_word w ↦ λ zero isnt. true≢false (sym w.if-not-is_call_word.false ∙ w.is_call_word.ensures ∙ isnt)
      | else-i-eq0-via-else-i-eq0 w ↦ λ zero isnt. w.if-i-eq0.false zero
    ])
    (ap not (sym c.may_end.ensures) ∙ e)
