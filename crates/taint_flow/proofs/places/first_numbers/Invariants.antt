use Rattle.std.proofs.Common.{◌≡◌, ◌+◌, ◌/◌, length}
use Rattle.taint_flow.proofs.Tables.{FindsFirst}
use Rattle.taint_flow.proofs.places.first_numbers.Given as goal

abbrev pub invariant-loop-i : goal.invariant-loop-i
invariant-loop-i l = record {
  len : length l.firsts.items ≡ length l.code / 8 + 1;
  found : FindsFirst l.items l.i l.firsts.items;
}
