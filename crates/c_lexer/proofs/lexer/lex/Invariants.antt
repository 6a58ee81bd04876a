use Rattle.std.proofs.Common.{length, ◌-◌, ◌≤◌, drop}
use Rattle.c_lexer.specs.Tokens.{Reads}
use Rattle.c_lexer.proofs.lexer.lex.Given as goal

abbrev pub invariant-loop-place : goal.invariant-loop-place
invariant-loop-place l = record {
  in_range : l.place ≤ length l.source;
  reads : Reads 0 l.source l.tokens.items l.place (drop l.place l.source);
}

abbrev pub decreases-loop-place : goal.decreases-loop-place
decreases-loop-place l = length l.source - l.place
