use Rattle.std.proofs.Common.{arith, below_more}
use Rattle.taint_flow.specs.Bits.{labelling_of}
use Rattle.conf_verify.specs.declared.rule.Rule.{Rule}
use Rattle.conf_verify.specs.Search.{BadLabel}
use Rattle.conf_verify.proofs.LabelRules.{bad_here, fine_here}
use Rattle.conf_verify.proofs.taint.bad_label.Goals as goal

pub returns-in-Some : goal.returns-in-Some
returns-in-Some c = (
  c.loop-i-test.true,
  bad_here c.args.items.now c.args.labels.now c.loop-i.i _ c.callee-called.result c.get.result c.in-Some.rule c.loop-i-test.true c.get.ensures c.callee-called.ensures c.in-Some.ensures.0,
  λ rule j h bad. c.loop-i.invariant j h rule bad,
  λ rule h. fine_here c.args.items.now c.args.labels.now c.loop-i.i _ c.callee-called.result c.get.result rule c.loop-i-test.true c.get.ensures c.callee-called.ensures (c.in-Some.ensures.1 rule h),
)

pub loop-i-preserved : goal.loop-i-preserved
loop-i-preserved c =
    below_more (λ j. (rule : Rule) → BadLabel c.args.items.now (labelling_of c.args.labels.now) rule j → ⊥) _ c.loop-i.invariant
    (λ rule. fine_here c.args.items.now c.args.labels.now c.loop-i.i _ c.callee-called.result c.get.result rule c.loop-i-test.true c.get.ensures c.callee-called.ensures (c.in_default.ensures rule))

pub returns : goal.returns
returns c = λ rule i h bad. c.loop-i.invariant i (omega arith) rule bad
