use Rattle.std.proofs.Common.{arith}
use Rattle.std.proofs.lemmas.Grind.{common_steps}
use Rattle.std.proofs.lemmas.Option.{gets}
use Rattle.c_types.proofs.program.declare_all.Goals as goal
use Rattle.c_types.proofs.program.declare_all.Goals.{in-Some+in_ok-ty+in_ok-declare, in_default}

pub loop-at-preserved : goal.loop-at-preserved
loop-at-preserved c = elim c.match-get.branch [
  | in-Some+in_ok-ty+in_ok-declare w ↦ grind (arith, common_steps, gets)
  | in_default w ↦ grind (arith, common_steps, gets)
]
