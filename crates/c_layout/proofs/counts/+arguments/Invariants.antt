use Rattle.std.proofs.Common.{◌≡◌, ◌+◌, ◌*◌, max, sum, map, drop, fold}
use Rattle.c_ast.specs.Nodes.{nodes_of}
use Rattle.c_layout.specs.Counts as def
use Rattle.c_layout.proofs.counts.+arguments.Given as goal

abbrev pub decreases-most_arguments : goal.decreases-most_arguments
decreases-most_arguments l = 2 * nodes_of l.e.now

abbrev pub decreases-most_arguments_of_all : goal.decreases-most_arguments_of_all
decreases-most_arguments_of_all l = 2 * sum (map nodes_of l.args.now) + 1

abbrev pub invariant-most_arguments_of_all-loop-arg : goal.invariant-most_arguments_of_all-loop-arg
invariant-most_arguments_of_all-loop-arg l =
    fold max l.most (map def.most_arguments (drop l.arg-index l.args)) ≡ def.greatest (map def.most_arguments l.args)
