use Rattle.c_grammar.proofs.FaultLemmas.{program_no_syntax, program_shallow}
use Rattle.c_grammar.proofs.laws.program_has_no_fault.Goals as goal

pub returns-clause-syntax : goal.returns-clause-syntax
returns-clause-syntax c = program_no_syntax

pub returns-clause-depth : goal.returns-clause-depth
returns-clause-depth c = program_shallow
