use Rattle.std.proofs.Common.{refl, sym}
use Rattle.trusted_stubs.proofs.EventLemmas.{plays_as}
use Rattle.x64_machine.specs.Steps.{running}
use Rattle.x64_machine.proofs.GateLemmas.{plays_none}
use Rattle.x64_machine.proofs.StepLemmas.{idle_past, idle_ended, stepped_in_code, stepped_at_gate, stepped_nowhere}
use Rattle.x64_machine.proofs.step.step_one.Goals.{then-i-cores-via-then-i-cores, then-i-cores-via-else-i-cores+then-cores-i}
use Rattle.x64_machine.proofs.step.step_one.Goals as goal

pub returns-then-at-ge-CODE_BASE : goal.returns-then-at-ge-CODE_BASE
returns-then-at-ge-CODE_BASE g c =
    plays_none _ _ _ _ (c.step_in_code.ensures.end _)
    (λ r. stepped_in_code c.args.cores.now c.args.core _ (running c.args.cores.now c.args.segments.now c.args.world.now r) _ c.if-i-cores.false c.if-cores-i.false
    c.if-at-ge-CODE_BASE.true (c.step_in_code.ensures.step c.args.world.now r _))

pub returns-in-Some : goal.returns-in-Some
returns-in-Some g c =
    plays_as _ _ _ _ _ _ _
    (λ r t held h. stepped_at_gate c.args.cores.now c.args.core _ (running c.args.cores.now c.args.segments.now c.args.world.now r) _ c.in-Some.gate c.if-i-cores.false c.if-cores-i.false
    (sym c.in-Some.ensures) h) (c.step_at_gate.ensures _)

pub returns-in-None : goal.returns-in-None
returns-in-None g c =
    plays_none _ _ _ _ refl
    (λ r. stepped_nowhere c.args.cores.now c.args.core _ (running c.args.cores.now c.args.segments.now c.args.world.now r) c.if-i-cores.false c.if-cores-i.false
    c.if-at-ge-CODE_BASE.false (sym c.in-None.ensures))

pub returns-then-i-cores : goal.returns-then-i-cores
returns-then-i-cores g c = elim c.then-i-cores.branch [
  | then-i-cores-via-then-i-cores w ↦
      plays_none _ _ _ _ refl (λ r. idle_past c.args.cores.now c.args.core (running c.args.cores.now c.args.segments.now c.args.world.now r) w.if-i-cores.true)
  | then-i-cores-via-else-i-cores+then-cores-i w ↦
      plays_none _ _ _ _ refl
      (λ r. idle_ended c.args.cores.now c.args.core _ (running c.args.cores.now c.args.segments.now c.args.world.now r) w.if-i-cores.false w.if-cores-i.true)
]
