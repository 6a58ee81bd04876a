use Rattle.std.proofs.Common.{◌≡◌, ◌+◌, ◌*◌, sum, map, drop, fold}
use Rattle.c_layout.specs.Counts as def
use Rattle.c_layout.proofs.Measures.{statements_in, statements_in_branch}
use Rattle.c_layout.proofs.counts.+statements.Given as goal

abbrev pub decreases-counts_of : goal.decreases-counts_of
decreases-counts_of l = 2 * statements_in l.s.now

abbrev pub decreases-in_branch : goal.decreases-in_branch
decreases-in_branch l = 2 * statements_in_branch l.s.now + 1

abbrev pub decreases-counts_of_all : goal.decreases-counts_of_all
decreases-counts_of_all l = 2 * sum (map statements_in l.items.now) + 1

abbrev pub invariant-counts_of_all-loop-item : goal.invariant-counts_of_all-loop-item
invariant-counts_of_all-loop-item l =
    fold def.both l.all (map def.counts_of (drop l.item-index l.items)) ≡ def.all (map def.counts_of l.items)
