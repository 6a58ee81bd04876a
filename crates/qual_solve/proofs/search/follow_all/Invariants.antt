use Rattle.std.proofs.Common.{◌≡◌, length}
use Rattle.qual_solve.specs.declared.search.TheConstants.{UNREACHED}
use Rattle.qual_solve.proofs.Searches.{InMiddle}
use Rattle.qual_solve.proofs.search.follow_all.Given as goal

abbrev pub invariant-loop-bound : goal.invariant-loop-bound
invariant-loop-bound l =
    (l.search.start ≡ l.initial.search.start) × (length l.search.distances.items ≡ length l.graph.index.last.items)
    × InMiddle l.graph.near.items l.graph.far.items l.search.start UNREACHED l.search.distances.items l.search.order.items l.head l.node l.bound

abbrev pub decreases-loop-bound : goal.decreases-loop-bound
decreases-loop-bound l = l.bound
