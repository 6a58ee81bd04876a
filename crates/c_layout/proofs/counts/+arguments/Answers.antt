use Rattle.std.proofs.Common.{arith}
use Rattle.c_ast.specs.Nodes.{nodes_of}
use Rattle.c_layout.proofs.Measures.{one_part}
use Rattle.c_layout.proofs.counts.+arguments.Goals as goal

pub most_arguments_of_all-most_arguments-requires :
    goal.most_arguments_of_all-most_arguments-requires
most_arguments_of_all-most_arguments-requires t c =
    let part = one_part nodes_of c.args.args.now c.loop-arg.arg-index c.arg-item.result c.loop-arg-test.true c.arg-item.is in
    (omega (arith, c.decreases), tt)
