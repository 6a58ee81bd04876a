use Rattle.qual_solve.specs.declared.search.TheConstants.{UNREACHED}
use Rattle.qual_solve.proofs.Ways.{IsWalking, distance}
use Rattle.qual_solve.proofs.chain.walk.Given as goal

abbrev pub invariant-loop-end : goal.invariant-loop-end
invariant-loop-end l = IsWalking l.list l.at UNREACHED l.distances l.numbers.items l.end

abbrev pub decreases-loop-end : goal.decreases-loop-end
decreases-loop-end l = distance l.distances l.end
