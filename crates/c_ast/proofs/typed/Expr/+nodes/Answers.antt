use Rattle.std.proofs.Common.{arith}
use Rattle.c_ast.proofs.NodeLemmas.{next_part}
use Rattle.c_ast.proofs.typed.Expr.+nodes.Goals as goal

pub nodes-count-requires-in-loop-arg : goal.nodes-count-requires-in-loop-arg
nodes-count-requires-in-loop-arg t c =
    let part = next_part _ c.loop-arg.arg-index c.arg-item.result c.loop-arg-test.true c.arg-item.is in
    let all = c.loop-arg.invariant.all in
    (omega (arith, c.decreases), omega arith)
