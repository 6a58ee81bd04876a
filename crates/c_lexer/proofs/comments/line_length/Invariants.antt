use Rattle.std.proofs.Common.{length, ◌-◌, ◌+◌, ◌≡◌, ◌≤◌, drop}
use Rattle.std.specs.List.{prefix_len}
use Rattle.c_lexer.specs.Tokens.{is_not_line_feed}
use Rattle.c_lexer.proofs.comments.line_length.Given as goal

abbrev pub invariant-loop-len : goal.invariant-loop-len
invariant-loop-len l = record {
  in_range : l.len ≤ length l.bytes;
  counted : l.len + prefix_len is_not_line_feed (drop l.len l.bytes) ≡ prefix_len is_not_line_feed l.bytes;
}

abbrev pub decreases-loop-len : goal.decreases-loop-len
decreases-loop-len l = length l.bytes - l.len
