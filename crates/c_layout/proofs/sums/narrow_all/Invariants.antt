use Rattle.std.proofs.Common.{◌≡◌, take}
use Rattle.c_layout.proofs.sums.narrow_all.Given as goal

abbrev pub invariant-loop-number : goal.invariant-loop-number
invariant-loop-number l = l.all ≡ take l.number-index l.numbers
