use Rattle.std.proofs.Common.{◌∙◌}
use Rattle.trusted_stubs.proofs.ReleaseLemmas.{faults_at, refused_at}
use Rattle.trusted_stubs.proofs.gate.gate_step.Goals as goal

pub returns-in-Err : goal.returns-in-Err
returns-in-Err g c = faults_at c.args.gate c.in-Err.kind c.args.regs.now c.args.segs.now c.args.world.now _ (λ r held. c.in-Err.ensures.place r)

pub returns-in-Some : goal.returns-in-Some
returns-in-Some g c =
    faults_at c.args.gate c.in-Some.kind c.args.regs.now c.args.segs.now c.args.world.now _ (λ r held. c.in-Ok.ensures.place r
    ∙ refused_at c.args.gate c.in-Some.kind c.in-Ok.at c.args.regs.now c.args.segs.now c.args.world.now r c.arguments-a.result c.arguments-a.ensures (c.in-Some.ensures r held))
