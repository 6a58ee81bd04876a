-- The entries of a schedule: the numbers of the cores that take a step, one after another.
use Rattle.std.specs.Prelude.{ℕ, zero, suc, ◌%◌, List, [], ◌∷◌}
use Rattle.x64_machine.specs.declared.schedule.Schedule.{Schedule}
use Rattle.x64_machine.specs.declared.schedule.Schedule.TheVariants.{Bytes, RoundRobin}

-- so many turns of n cores, from turn j on: turn j is that of core j modulo n
unfoldable pub turns : ℕ → ℕ → ℕ → List ℕ
turns n j zero = []
turns n j (suc count) = j % n ∷ turns n (suc j) count

-- the entries of a schedule for n cores
abbrev pub entries : Schedule → ℕ → List ℕ
entries (Bytes cores) n = cores.now
entries (RoundRobin count) n = turns n 0 count
