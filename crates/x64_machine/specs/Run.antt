-- Configurations, the step of a core, runs over a schedule, and the view of a configuration. No taint occurs here.
use Rattle.std.specs.Prelude.{ℕ, Bool, true, false, List, [], ◌∷◌, length, Option, Some, None, map, pos, slice_get, slice_set, if◌then◌else◌}
use Rattle.std.specs.List.{list_all}
use Rattle.cv_word.specs.Gates.{gate_at}
use Rattle.cv_word.specs.GateStep.{World, Releasers, TapeState, GateEffect, stops, ends_core, exits, runs_out, gate_step}
use Rattle.cv_word.specs.GateStep as gate
use Rattle.cv_word.specs.Heap.{Heap}
use Rattle.cv_word.specs.Memory.{Memory}
use Rattle.cv_word.specs.declared.gates.Gate.{Gate}
use Rattle.x64_alu.specs.CoreStep.{Effect, goes, faults, core_step}
use Rattle.x64_machine.specs.declared.cores.Core as cores
use Rattle.x64_machine.specs.declared.outcome.Outcome.{Outcome}
use Rattle.x64_machine.specs.declared.outcome.Outcome.TheVariants as outcome

-- a core: its registers, and whether it has ended
abbrev pub Core : Type 0
Core = cores.Core

-- what a machine holds of a run: the cores in order, the memory that they share, the gates' world, and how the run stands
pub record State : Type 0 where
  pub cores : List Core
  pub memory : Memory
  pub world : World
  pub outcome : Outcome

-- that, and the releasers, which are outside the machine
pub record Configuration : Type 0 where
  pub state : State
  pub releasers : Releasers

abbrev pub configuration : State → Releasers → Configuration
configuration state releasers = record { state = state; releasers = releasers }

abbrev pub is_running : Outcome → Bool
is_running outcome.Running = true
is_running _ = false

abbrev pub with_outcome : Outcome → Configuration → Configuration
with_outcome o c = record c { state = record c.state { outcome = o } }

abbrev pub with_core : ℕ → Core → Configuration → Configuration
with_core i core c = record c { state = record c.state { cores = slice_set c.state.cores i core } }

-- what an instruction makes of a configuration; a fault changes nothing but the outcome
abbrev pub after_step : Effect → ℕ → Core → Configuration → Configuration
after_step (goes s m) i core c =
    record c { state = record c.state { cores = slice_set c.state.cores i (record core { registers = s }); memory = m } }
after_step (faults kind) i core c = with_outcome (outcome.Fault i core.registers.pc kind) c

-- the last running core that ends lets the run exit with status 0
abbrev pub outcome_of_ended : List Core → Outcome
outcome_of_ended cores = if list_all (λ core. core.ended) cores then outcome.Exited (pos 0) else outcome.Running

abbrev pub after_core_end : ℕ → Core → Configuration → Configuration
after_core_end i core c =
    let ended = with_core i (record core { ended = true }) c in
    with_outcome (outcome_of_ended ended.state.cores) ended

-- what a gate step makes of a configuration; a fault and a tape that runs out change nothing but the outcome
abbrev pub after_gate : GateEffect → ℕ → Core → Configuration → Configuration
after_gate (gate.goes s m w r) i core c = record {
  state = record { cores = slice_set c.state.cores i (record core { registers = s }); memory = m; world = w; outcome = c.state.outcome };
  releasers = r;
}
after_gate (stops ends_core) i core c = after_core_end i core c
after_gate (stops (exits status)) i core c = with_outcome (outcome.Exited status) c
after_gate (stops (runs_out class)) i core c = with_outcome (outcome.Tape i core.registers.pc class) c
after_gate (gate.faults kind) i core c = with_outcome (outcome.Fault i core.registers.pc kind) c

-- where a gate stands at the program counter, the core takes the gate step
abbrev pub step_at : Option Gate → ℕ → Core → Configuration → Configuration
step_at None i core c = after_step (core_step c.state.memory core.registers) i core c
step_at (Some gate) i core c = after_gate (gate_step gate core.registers c.state.memory c.state.world c.releasers) i core c

abbrev pub step_core : Option Core → ℕ → Configuration → Configuration
step_core None i c = c
step_core (Some core) i c = if core.ended then c else step_at (gate_at core.registers.pc) i core c

-- One step of core i. Nothing changes where the run has ended, or core i doesn't exist or has ended.
unfoldable pub step : ℕ → Configuration → Configuration
step i c = if is_running c.state.outcome then step_core (slice_get c.state.cores i) i c else c

-- a schedule is a list of core numbers, taken one after another
abbrev pub run : List ℕ → Configuration → Configuration
run [] c = c
run (i ∷ schedule) c = run schedule (step i c)

-- the position in a tape: how many of its bytes were taken, and how many releases it answered
pub record Position : Type 0 where
  pub taken : ℕ
  pub answered : ℕ

abbrev pub position_of : TapeState → Position
position_of tape = record { taken = tape.taken; answered = tape.answered }

-- what may be seen of a configuration
pub record View : Type 0 where
  pub outcome : Outcome
  pub ended : List Bool
  pub counters : List ℕ
  pub public : List ℕ
  pub public_output : List ℕ
  pub audit : List ℕ
  pub public_heap : Heap
  pub private_heap : Heap
  pub public_position : ℕ
  pub private_position : ℕ
  pub tape_positions : ℕ → Position
  pub private_output_length : ℕ

abbrev pub view : Configuration → View
view c = record {
  outcome = c.state.outcome;
  ended = map (λ core. core.ended) c.state.cores;
  counters = map (λ core. core.registers.pc) c.state.cores;
  public = c.state.memory.public;
  public_output = c.state.world.visible.public_output;
  audit = c.state.world.visible.audit;
  public_heap = c.state.world.visible.public_heap;
  private_heap = c.state.world.visible.private_heap;
  public_position = c.state.world.visible.public_position;
  private_position = c.state.world.visible.private_position;
  tape_positions = λ class. position_of (c.releasers.tapes class);
  private_output_length = length c.state.world.private_output;
}
