use Rattle.std.proofs.Common.{arith}
use Rattle.taint_flow.specs.Worklist.{state_of}
use Rattle.taint_flow.proofs.Sound.{meets_at_end}
use Rattle.taint_flow.proofs.flow.label_items.Goals as goal

pub returns-clause-meets : goal.returns-clause-meets
returns-clause-meets g c = meets_at_end c.args.items.now (state_of c.settle.new.w) c.settle.ensures.sound c.settle.ensures.empty

pub returns-clause-bound : goal.returns-clause-bound
returns-clause-bound g c = omega (arith, c.settle.ensures.bound, c.take_turns.ensures.bound)
