use Rattle.std.proofs.Common.{arith, ap, ◌&&◌}
use Rattle.std.proofs.lemmas.Grind.{common_steps}
use Rattle.type_expressions.proofs.ArgumentLemmas.{argument_next, got}
use Rattle.type_expressions.proofs.Measures.{one_part, parts_in}
use Rattle.type_expressions.proofs.expressions.+expressions.Goals as goal

pub arguments-argument-requires : goal.arguments-argument-requires
arguments-argument-requires t c =
    let part = one_part parts_in c.args.args.now c.loop-i.i c.index-args-i.result c.loop-i-test.true c.index-args-i.is in
    (omega (arith, c.decreases), tt)

pub arguments-loop-i-preserved : goal.arguments-loop-i-preserved
arguments-loop-i-preserved t c =
    argument_next c.args.known.now c.args.types.now c.args.args.now c.loop-i.i c.index-args-i.result c.loop-i.nodes _ c.loop-i.whole _ c.loop-i.notes _ _ c.in_ok-node.node _
    c.loop-i-test.true c.index-args-i.is (got c.args.types.now c.loop-i.i c.get.result _ c.get.ensures.lookup.1 c.get.ensures.lookup.3) c.in_ok-node.ensures.node c.in_ok-node.ensures.notes
    c.in_ok-put_node.ensures (ap (λ b. c.loop-i.whole && b) c.is_some-whole.ensures) c.loop-i.invariant
