use Rattle.c_lexer.proofs.StringLemmas as lemma
use Rattle.c_lexer.proofs.quoted.one_string.Goals as goal

pub returns : goal.returns
returns c = lemma.one_string
