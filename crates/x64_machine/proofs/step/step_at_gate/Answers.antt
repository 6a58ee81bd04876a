use Rattle.cv_word.specs.GateStep.{gate_step}
use Rattle.x64_machine.proofs.GateLemmas.{plays_core_end, plays_tape}
use Rattle.x64_machine.proofs.step.step_at_gate.Goals as goal

pub returns-in-CoreEnd : goal.returns-in-CoreEnd
returns-in-CoreEnd g c = λ d.
    plays_core_end (λ s r. gate_step c.args.gate s c.args.segments.now c.args.world.now r) c.args.cores.now c.end_core.new.cores c.args.core _ d
    c.args.segments.now c.gate_step.new.segs c.args.world.now c.gate_step.new.world c.gate_step.new.regs c.end_core.result _ _ _ _
    c.requires (c.end_core.ensures.cores _) c.end_core.ensures.outcome c.in-CoreEnd.ensures

pub returns-in-Tape : goal.returns-in-Tape
returns-in-Tape g c = λ d.
    plays_tape (λ s r. gate_step c.args.gate s c.args.segments.now c.args.world.now r) c.args.cores.now c.args.core c.in-Tape.class _ d
    c.args.segments.now c.gate_step.new.segs c.args.world.now c.gate_step.new.world c.gate_step.new.regs _ _ _ _
    c.requires c.in-Tape.ensures
