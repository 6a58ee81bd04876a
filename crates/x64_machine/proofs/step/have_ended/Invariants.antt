use Rattle.std.proofs.Common.{◌≡◌, drop}
use Rattle.std.specs.List.{list_all}
use Rattle.x64_machine.proofs.step.have_ended.Given as goal

-- all cores have ended if those from here on have
abbrev pub invariant-loop-core : goal.invariant-loop-core
invariant-loop-core l = list_all (λ core. core.ended) (drop l.core-index l.cores) ≡ list_all (λ core. core.ended) l.cores
