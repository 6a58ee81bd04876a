use Rattle.conf_verify.proofs.Order.{same_rule, same_number}
use Rattle.conf_verify.proofs.One.{nothing_broken}
use Rattle.conf_verify.proofs.law.one_verdict.Goals as goal

pub returns-clause-accepted : goal.returns-clause-accepted
returns-clause-accepted c = λ bytes rule at ok v. nothing_broken bytes ok.image ok.is ok.accepted rule at v.broken

pub returns-clause-rule : goal.returns-clause-rule
returns-clause-rule c = λ bytes rule other at there v w. same_number rule other (same_rule bytes rule other at there v w).0

pub returns-clause-place : goal.returns-clause-place
returns-clause-place c = λ bytes rule other at there v w. (same_rule bytes rule other at there v w).1
