use Rattle.c_grammar.proofs.FaultLemmas.{one_syntax, one_depth, either_fault}
use Rattle.c_grammar.proofs.laws.one_fault.Goals as goal

pub returns-clause-syntax : goal.returns-clause-syntax
returns-clause-syntax c = one_syntax

pub returns-clause-depth : goal.returns-clause-depth
returns-clause-depth c = one_depth

pub returns-clause-not_both : goal.returns-clause-not_both
returns-clause-not_both c = either_fault
