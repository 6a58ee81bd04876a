use Rattle.std.proofs.Common.{rules}
use Rattle.x64_machine.proofs.MachineLemmas.{begins, no_byte, next_byte, last_byte}
use Rattle.x64_machine.proofs.machine.Machine.run_bytes.Goals as goal

pub loop-core-init : goal.loop-core-init
loop-core-init g c = begins c.args.cores.now _ c.args.self.now

pub loop-core-preserved : goal.loop-core-preserved
loop-core-preserved g c =
    next_byte c.args.cores.now _ _ c.args.self.now c.loop-core.self _ c.step.new.self _ c.step.ensures.after c.args.cores.now c.loop-core.core-index (search rules) (search rules)
    c.loop-core.invariant c.step.ensures.ended (search rules)

pub returns-in-Ended : goal.returns-in-Ended
returns-in-Ended g c =
    last_byte c.args.cores.now _ _ c.args.self.now c.loop-core.self _ c.step.new.self _ c.step.ensures.after c.args.cores.now c.loop-core.core-index (search rules) (search rules)
    c.loop-core.invariant (search rules)

pub returns : goal.returns
returns g c = no_byte c.args.cores.now _ _ c.args.self.now c.loop-core.self c.args.cores.now c.loop-core.core-index (search rules) c.loop-core.invariant
