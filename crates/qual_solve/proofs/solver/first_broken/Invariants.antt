use Rattle.qual_solve.specs.Ends.{NoneBelow}
use Rattle.qual_solve.specs.declared.search.TheConstants.{UNREACHED}
use Rattle.qual_solve.proofs.solver.first_broken.Given as goal

abbrev pub invariant-loop-number : goal.invariant-loop-number
invariant-loop-number l = NoneBelow l.list UNREACHED l.distances l.number
