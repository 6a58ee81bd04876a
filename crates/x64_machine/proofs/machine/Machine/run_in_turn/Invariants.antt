use Rattle.std.proofs.Common.{◌≡◌, ◌<◌, ◌-◌, ◌%◌, length}
use Rattle.cv_io.specs.Releasers.{classes_by}
use Rattle.x64_machine.specs.Entries.{turns}
use Rattle.x64_machine.proofs.MachineLemmas.{IsSoFar}
use Rattle.x64_machine.proofs.machine.Machine.run_in_turn.Given as goal

-- the turns up to here were taken
abbrev pub invariant-loop-turn : goal.invariant-loop-turn
invariant-loop-turn g l = record {
  count : l.n ≡ length l.fn.self.cores;
  below : l.core < l.n;
  turn : l.core ≡ l._turn % l.n;
  far : IsSoFar (turns l.n l._turn (l.count - l._turn)) (turns l.n 0 l.count)
      (classes_by (λ z. (goal.Trusted-dyn g (z.vtable, z.value)).known z.value) l.fn.trusted.items)
      (classes_by (λ z. (goal.Trusted-dyn g (z.vtable, z.value)).known z.value) l.trusted.items) l.fn.self l.self;
}
