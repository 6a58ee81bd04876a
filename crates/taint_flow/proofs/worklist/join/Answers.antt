use Rattle.std.proofs.Common.{◌∙◌}
use Rattle.taint_flow.proofs.worklist.join.Goals as goal

pub returns-then-raise-clause-stays : goal.returns-then-raise-clause-stays
returns-then-raise-clause-stays c = λ any small below. c.raise.ensures.stays any (λ j e. small j (c.in-Some.is ∙ e)) below

pub returns-else-raise-clause-stays : goal.returns-else-raise-clause-stays
returns-else-raise-clause-stays c = λ any small below. c.raise.ensures.stays any (λ j e. small j (c.in-Some.is ∙ e)) below
