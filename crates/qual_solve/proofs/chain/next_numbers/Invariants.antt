use Rattle.std.proofs.Common.{◌≡◌, ◌≤◌, length}
use Rattle.qual_solve.specs.Ends.{lefts_of, rights_of}
use Rattle.qual_solve.proofs.Nexts.{AreNextFrom}
use Rattle.qual_solve.proofs.chain.next_numbers.Given as goal

abbrev pub invariant-loop-number : goal.invariant-loop-number
invariant-loop-number l =
    (length l.next.items ≡ length l.distances) × (l.number ≤ length l.list)
    × AreNextFrom (rights_of l.list) (lefts_of l.list) l.distances l.number l.next.items

abbrev pub decreases-loop-number : goal.decreases-loop-number
decreases-loop-number l = l.number
