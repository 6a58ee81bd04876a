use Rattle.confllvm_top.proofs.OneAnswer.{one_answer_of}
use Rattle.confllvm_top.proofs.law.one_answer.Goals as goal

pub returns : goal.returns
returns c = one_answer_of (record { accepted = c.one_verdict.ensures.accepted; rule = c.one_verdict.ensures.rule; place = c.one_verdict.ensures.place; unlisted = c.one_listing.ensures.unlisted })
