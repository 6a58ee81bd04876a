use Rattle.std.proofs.Common.{◌≡◌, ◌≤◌, take}
use Rattle.conf_verify.specs.Rules.{call_words, last_bits, other_items}
use Rattle.conf_verify.specs.Search.{BadCall, BadEnd, BadJump, BadResult, BadReturn, IsFirstBad, IsReached}
use Rattle.conf_verify.proofs.first_bad.first_bad.Given as goal

abbrev pub invariant-loop-i : goal.invariant-loop-i
invariant-loop-i l = record {
  end : IsFirstBad (BadEnd l.items) l.i l.first.end;
  return_word : IsFirstBad (BadReturn l.items) l.i l.first.return_word;
  jump : IsFirstBad (BadJump l.items) l.i l.first.jump;
  call : IsFirstBad (BadCall l.items) l.i l.first.call;
  result : IsFirstBad (BadResult l.items) l.i l.first.result;
  procedures : l.first.procedures ≡ call_words (take l.i l.items);
  items : l.first.items ≡ other_items (take l.i l.items);
  few : l.first.procedures ≤ l.i;
  few_items : l.first.items ≤ l.i;
  reached : IsReached l.items l.procedure.start l.procedure.end l.i;
  bits : l.bits ≡ last_bits (take l.i l.items);
}
