use Rattle.std.proofs.Common.{◌≡◌, ◌+◌, ◌<◌, sum, map, drop}
use Rattle.c_ast.specs.Nodes.{nodes_of}
use Rattle.c_ast.proofs.typed.Expr.+nodes.Given as goal

abbrev pub decreases-nodes : goal.decreases-nodes
decreases-nodes l = nodes_of l.self.now

-- what is counted, with what the parts that come give, is all
abbrev pub invariant-loop-arg : goal.invariant-loop-arg
invariant-loop-arg l = record {
  some : 0 < l.count;
  all : l.count + sum (map nodes_of (drop l.arg-index l.arg-items)) ≡ nodes_of l.self;
}
