use Rattle.c_grammar.proofs.Descents as lemma
use Rattle.c_grammar.proofs.laws.one_program.Goals as goal

pub returns : goal.returns
returns c = lemma.one_program
