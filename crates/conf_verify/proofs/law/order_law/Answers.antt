use Rattle.taint_flow.proofs.Chain.{order_from_listing}
use Rattle.conf_verify.proofs.Steps.{next_from_ends}
use Rattle.conf_verify.proofs.law.order_law.Goals as goal

pub returns-clause-order : goal.returns-clause-order
returns-clause-order c = λ prefix code items listing. order_from_listing prefix code items listing

pub returns-clause-next : goal.returns-clause-next
returns-clause-next c = λ items keeps. next_from_ends items keeps
