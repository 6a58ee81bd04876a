use Rattle.std.proofs.Common.{arith, sym, ◌∙◌}
use Rattle.conf_verify.proofs.Procedures.{none_more, ends_at_call, ends_at_last}
use Rattle.conf_verify.proofs.shape.procedure_end.Goals as goal

pub loop-j-init : goal.loop-j-init
loop-j-init c = record {
  above = omega arith;
  none = λ k q low high. absurd (omega arith);
}

pub returns-then-is_call_word : goal.returns-then-is_call_word
returns-then-is_call_word c =
    ends_at_call c.args.items.now c.args.start c.loop-j.j _ c.loop-j.invariant.above c.loop-j-test.true c.requires.border c.loop-j.invariant.none
    (sym c.is_call_word.ensures ∙ c.if-is_call_word.true)

pub loop-j-preserved : goal.loop-j-preserved
loop-j-preserved c =
    let above = c.loop-j.invariant.above in
    record {
      above = omega arith;
      none = none_more c.args.items.now c.args.start c.loop-j.j _ c.loop-j.invariant.none (sym c.is_call_word.ensures ∙ c.if-is_call_word.false);
    }

pub returns : goal.returns
returns c =
    let most = c.loop-j.auto.j-end in
    ends_at_last c.args.items.now c.args.start c.loop-j.j c.loop-j.invariant.above (omega arith) c.requires.border c.loop-j.invariant.none
