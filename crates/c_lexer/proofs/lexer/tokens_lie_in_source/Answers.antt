use Rattle.c_lexer.proofs.TextLemmas.{lie_in}
use Rattle.c_lexer.proofs.lexer.tokens_lie_in_source.Goals as goal

pub returns : goal.returns
returns c = lie_in
