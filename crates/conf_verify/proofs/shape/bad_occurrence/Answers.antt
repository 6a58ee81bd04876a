use Rattle.std.proofs.Common.{arith, below_more}
use Rattle.conf_verify.proofs.shape.bad_occurrence.Goals as goal

pub loop-k-preserved : goal.loop-k-preserved
loop-k-preserved c = below_more _ _ c.loop-k.invariant (λ bad. bad (c.has_word.ensures.yes c.if-not-has_word.false))

pub returns : goal.returns
returns c = λ i h bad. c.loop-k.invariant i (omega arith) bad
