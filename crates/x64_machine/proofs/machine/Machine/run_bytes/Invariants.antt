use Rattle.std.proofs.Common.{drop}
use Rattle.cv_io.specs.Releasers.{classes_by}
use Rattle.x64_machine.proofs.MachineLemmas.{IsSoFar}
use Rattle.x64_machine.proofs.machine.Machine.run_bytes.Given as goal

-- the entries up to here were taken
abbrev pub invariant-loop-core : goal.invariant-loop-core
invariant-loop-core g l =
    IsSoFar (drop l.core-index l.cores) l.cores (classes_by (λ z. (goal.Trusted-dyn g (z.vtable, z.value)).known z.value) l.fn.trusted.items)
    (classes_by (λ z. (goal.Trusted-dyn g (z.vtable, z.value)).known z.value) l.trusted.items) l.fn.self l.self
