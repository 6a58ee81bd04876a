use Rattle.std.proofs.Common.{length, ◌-◌, ◌≡◌, drop}
use Rattle.c_lexer.specs.Reading.{string_end}
use Rattle.c_lexer.proofs.quoted.string_length.Given as goal

abbrev pub invariant-loop-place : goal.invariant-loop-place
invariant-loop-place l = string_end l.place (drop l.place l.bytes) ≡ string_end 1 (drop 1 l.bytes)

abbrev pub decreases-loop-place : goal.decreases-loop-place
decreases-loop-place l = length l.bytes - l.place
