use Rattle.std.proofs.Common.{refl}
use Rattle.qual_solve.proofs.Indexes.{begins, goes_on}
use Rattle.qual_solve.proofs.graph.index_arrows.Goals as goal

pub loop-arrow-init : goal.loop-arrow-init
loop-arrow-init c =
    begins c.args.near.now c.in_ok-last.last.items c.new-before.result.items c.args.nodes
    (c.in_ok-last.ensures.items_if_clones_equal (λ y e. e)) c.new-before.ensures.items

pub loop-arrow-preserved : goal.loop-arrow-preserved
loop-arrow-preserved c =
    goes_on c.args.near.now c.loop-arrow.arrow _ c.loop-arrow.last.items c.loop-arrow.before.items _ c.index.result.now c.args.nodes
    c.loop-arrow.invariant refl (c.requires c.loop-arrow.arrow 0 c.loop-arrow-test.true) c.index.ensures c.in_ok-push.ensures.items
