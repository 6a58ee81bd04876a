use Rattle.std.proofs.Common.{◌≡◌, ◌-◌, length}
use Rattle.qual_solve.specs.Graphs.{IsSearching}
use Rattle.qual_solve.specs.declared.search.TheConstants.{UNREACHED}
use Rattle.qual_solve.proofs.search.distances.Given as goal

abbrev pub invariant-loop-head : goal.invariant-loop-head
invariant-loop-head l = (l.search.start ≡ l.start) × IsSearching UNREACHED l.graph l.search l.head

abbrev pub decreases-loop-head : goal.decreases-loop-head
decreases-loop-head l = length l.graph.index.last.items - l.head
