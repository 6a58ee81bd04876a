use Rattle.std.proofs.Common.{◌≡◌, length}
use Rattle.qual_solve.specs.Distances.{IsIndexed}
use Rattle.qual_solve.proofs.graph.index_arrows.Given as goal

abbrev pub invariant-loop-arrow : goal.invariant-loop-arrow
invariant-loop-arrow l = IsIndexed l.near l.arrow l.last.items l.before.items × (length l.last.items ≡ l.nodes)
