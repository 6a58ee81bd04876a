use Rattle.std.proofs.Common.{arith, sym}
use Rattle.trusted_stubs.proofs.work.give_back.Goals as goal

pub returns-then-at-clause-after : goal.returns-then-at-clause-after
returns-then-at-clause-after c =
    let is = c.holes-holes.ensures.heap in
    sym (c.heap_law.ensures.beyond is.start is.to c.args.at c.args.heap.now is.is_heap (omega arith)).1
