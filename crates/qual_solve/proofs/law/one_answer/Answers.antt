use Rattle.qual_solve.proofs.OneAnswer.{one_least, one_at, one_chain}
use Rattle.qual_solve.proofs.law.one_answer.Goals as goal

pub returns-clause-least : goal.returns-clause-least
returns-clause-least c = one_least

pub returns-clause-at : goal.returns-clause-at
returns-clause-at c = one_at

pub returns-clause-chain : goal.returns-clause-chain
returns-clause-chain c = one_chain
