use Rattle.std.proofs.Common.{length, ◌-◌, ◌≡◌, drop}
use Rattle.c_lexer.specs.Reading.{comment_end}
use Rattle.c_lexer.proofs.comments.block_length.Given as goal

abbrev pub invariant-loop-place : goal.invariant-loop-place
invariant-loop-place l = comment_end l.place (drop l.place l.bytes) ≡ comment_end 2 (drop 2 l.bytes)

abbrev pub decreases-loop-place : goal.decreases-loop-place
decreases-loop-place l = length l.bytes - l.place
