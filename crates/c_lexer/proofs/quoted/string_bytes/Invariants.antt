use Rattle.std.proofs.Common.{length, ◌-◌}
use Rattle.c_lexer.proofs.StringLemmas.{IsDecoded}
use Rattle.c_lexer.proofs.quoted.string_bytes.Given as goal

abbrev pub invariant-loop-place : goal.invariant-loop-place
invariant-loop-place l = IsDecoded l.text l.place l.bytes.items

abbrev pub decreases-loop-place : goal.decreases-loop-place
decreases-loop-place l = length l.text - l.place
