use Rattle.std.proofs.Common.{arith}
use Rattle.type_statements.proofs.BlockLemmas.{block_next}
use Rattle.type_statements.proofs.GrowthLemmas.{grows_by_item}
use Rattle.type_statements.proofs.Measures.{one_part, statements_of_item}
use Rattle.type_statements.proofs.statements.+statements.Goals as goal

pub block_items-block_item-requires : goal.block_items-block_item-requires
block_items-block_item-requires t c =
    let part = one_part statements_of_item c.args.all.now c.loop-item.item-index c.item-item.result c.loop-item-test.true c.item-item.is in
    (omega (arith, c.decreases), tt)

pub block_items-loop-item-preserved : goal.block_items-loop-item-preserved
block_items-loop-item-preserved t c = record {
  all = block_next c.args.frame.now c.args.in_loop c.args.start c.args.all.now c.loop-item.item-index c.item-item.result
      c.loop-item.known _ c.loop-item.items _ c.loop-item.notes _ _ c.loop-item-test.true c.item-item.is
      c.in_ok-block_item.ensures.known c.in_ok-block_item.ensures.items c.in_ok-block_item.ensures.notes c.loop-item.invariant.all;
  grows = grows_by_item c.item-item.result c.args.frame.now c.args.in_loop c.args.start
      (record { known = c.loop-item.known; items = c.loop-item.items; notes = c.loop-item.notes }) _ _
      c.in_ok-block_item.ensures.known c.loop-item.invariant.grows;
}
