use Rattle.std.proofs.Common.{arith}
use Rattle.c_layout.proofs.Measures.{one_part, statements_in}
use Rattle.c_layout.proofs.counts.+statements.Goals as goal

pub counts_of_all-counts_of-requires : goal.counts_of_all-counts_of-requires
counts_of_all-counts_of-requires t c =
    let part = one_part statements_in c.args.items.now c.loop-item.item-index c.item-item.result c.loop-item-test.true c.item-item.is in
    (omega (arith, c.decreases), tt)
