use Rattle.std.proofs.Common.{◌≡◌, ◌+◌, ◌*◌, ◌++◌, map, take, sum}
use Rattle.std.specs.List.{flat_map}
use Rattle.c_ast.specs.Nodes.{nodes_of}
use Rattle.qual_rules.specs.Flows.{flow_of}
use Rattle.qual_rules.proofs.expressions.+flows.Given as goal

abbrev pub decreases-flow : goal.decreases-flow
decreases-flow l = 3 * nodes_of l.e.now

abbrev pub decreases-flow_of_two : goal.decreases-flow_of_two
decreases-flow_of_two l = 3 * (nodes_of l.a.now + nodes_of l.b.now) + 1

abbrev pub decreases-choice : goal.decreases-choice
decreases-choice l = 3 * (nodes_of l.on.now + nodes_of l.yes.now + nodes_of l.no.now) + 2

abbrev pub decreases-assign : goal.decreases-assign
decreases-assign l = 3 * (nodes_of l.to.now + nodes_of l.from.now) + 1

abbrev pub decreases-call : goal.decreases-call
decreases-call l = 3 * (nodes_of l.callee.now + sum (map nodes_of l.args.now)) + 2

abbrev pub decreases-flow_of_all : goal.decreases-flow_of_all
decreases-flow_of_all l = 3 * sum (map nodes_of l.args.now) + 1

abbrev pub invariant-flow_of_all-loop-arg : goal.invariant-flow_of_all-loop-arg
invariant-flow_of_all-loop-arg l = record {
  sources : l.all ≡ map (λ a. (flow_of a).sources) (take l.arg-index l.args);
  constraints : l.out.items ≡ l.initial.out.items ++ flat_map (λ a. (flow_of a).constraints) (take l.arg-index l.args);
}
