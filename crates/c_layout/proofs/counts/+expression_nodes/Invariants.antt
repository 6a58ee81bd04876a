use Rattle.std.proofs.Common.{◌≡◌, ◌+◌, ◌*◌, sum, map, drop}
use Rattle.c_ast.specs.Nodes.{nodes_of}
use Rattle.c_layout.proofs.counts.+expression_nodes.Given as goal

abbrev pub decreases-nodes_of : goal.decreases-nodes_of
decreases-nodes_of l = 2 * nodes_of l.e.now

abbrev pub decreases-nodes_of_all : goal.decreases-nodes_of_all
decreases-nodes_of_all l = 2 * sum (map nodes_of l.args.now) + 1

abbrev pub invariant-nodes_of_all-loop-arg : goal.invariant-nodes_of_all-loop-arg
invariant-nodes_of_all-loop-arg l = l.all + sum (map nodes_of (drop l.arg-index l.args)) ≡ sum (map nodes_of l.args)
