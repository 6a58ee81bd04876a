-- The state that a machine holds.
use Rattle.std.specs.Prelude.{◌<◌, ◌≤◌, length}
use Rattle.x64_machine.specs.declared.machine.Machine.TheInside.{Inside}
use Rattle.x64_machine.specs.Run.{State}

abbrev pub state_of : Inside → State
state_of m = record { cores = m.cores.items; memory = m.segments; world = m.world; outcome = m.outcome }

-- a machine has 1 to 8 cores
pub record HasCores (m : Inside) : Type 0 where
  pub some : 0 < length m.cores.items
  pub few : length m.cores.items ≤ 8
