use Rattle.c_types.proofs.LeastLemmas.{least_next, same_item}
use Rattle.c_types.proofs.program.least.Goals as goal

pub loop-fault-preserved : goal.loop-fault-preserved
loop-fault-preserved c =
    least_next c.args.all.now c.loop-fault.fault-index c.loop-fault.found c.lesser-found.result _ c.loop-fault-test.true (same_item c.args.all.now c.loop-fault.fault-index _ _ c.loop-fault-test.true) c.loop-fault.invariant c.lesser-found.ensures
