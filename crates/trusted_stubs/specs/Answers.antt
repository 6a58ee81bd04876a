-- What a gate step answers and leaves.
use Rattle.std.specs.Prelude.{◌≡◌, ℕ, ◌+◌, true, false, Option, Some, None, Result, Ok, Err}
use Rattle.cv_word.specs.declared.fault.FaultKind.{FaultKind}
use Rattle.cv_word.specs.declared.registers.Registers.{Registers}
use Rattle.cv_word.specs.Memory.{Memory, Range}
use Rattle.cv_word.specs.declared.gates.Arguments.{Arguments}
use Rattle.cv_word.specs.declared.gates.Gate.{Gate}
use Rattle.cv_word.specs.declared.gates.Gate.TheVariants.{Release}
use Rattle.cv_word.specs.GateStep.{World, arguments_of, refusal, unless_refused, Releasers, GateEffect, goes, stops, faults, Ending, ends_core, exits, runs_out, Work, answers, ends, written_to, reads, writes, is_good_range, passes_limit}
use Rattle.trusted_stubs.specs.Events.{Request}
use Rattle.trusted_stubs.specs.declared.end.GateEnd.{GateEnd}
use Rattle.trusted_stubs.specs.declared.end.GateEnd.TheVariants.{Next, CoreEnd, Exit, Fault, Tape}

-- a gate that doesn't refuse has good ranges and passes no limit
pub record IsUnrefused (size : ℕ) (gate : Gate) (a : Arguments) (w : World) : Type 0 where
  pub reads_good : is_good_range size (reads gate a) ≡ true
  pub writes_good : is_good_range size (writes gate a) ≡ true
  pub within : passes_limit gate a w ≡ false

-- what a gate step changes: the registers of the core, memory, the gates' world, and the releasers
pub record Changed : Type 0 where
  pub registers : Registers
  pub memory : Memory
  pub world : World
  pub releasers : Releasers

abbrev pub changed : Registers → Memory → World → Releasers → Changed
changed s m w r = record { registers = s; memory = m; world = w; releasers = r }

abbrev pub IsEnd : Ending → GateEnd → Type 0
IsEnd ends_core CoreEnd = Unit {0}
IsEnd (exits status) (Exit answer) = answer ≡ status
IsEnd (runs_out class) (Tape answer) = answer ≡ class
IsEnd _ _ = ⊥

-- A gate step with this effect answers this, and leaves this in place of what was there before. Where it doesn't go on, all is as
-- before.
abbrev pub GateStepsTo : GateEffect → GateEnd → Changed → Changed → Type 0
GateStepsTo (goes s m w r) Next old new = new ≡ changed s m w r
GateStepsTo (stops ending) answer old new = IsEnd ending answer × (new ≡ old)
GateStepsTo (faults kind) (Fault answer) old new = (answer ≡ kind) × (new ≡ old)
GateStepsTo _ _ old new = ⊥

-- a gate's work answers this number, and leaves this memory, this world and these releasers
abbrev pub WorkAnswers : Work → ℕ → Option Range → Memory → Memory → World → Releasers → Type 0
WorkAnswers (answers answer bytes w r) result range m new_memory new_world new_releasers =
    (result ≡ answer) × (new_memory ≡ written_to m range bytes) × (new_world ≡ w) × (new_releasers ≡ r)
WorkAnswers (ends ending) result range m new_memory new_world new_releasers = ⊥

-- a release answers this, or its releaser fails, which ends the run and leaves all as it was before
abbrev pub ReleaseAnswers : {E : Type 0} → Work → Result ℕ E → Arguments → Memory → Memory → World → World → Releasers → Releasers → Type 0
ReleaseAnswers work (Ok answer) a m new_memory w new_world r new_releasers = WorkAnswers work answer (writes Release a) m new_memory new_world new_releasers
ReleaseAnswers work (Err _) a m new_memory w new_world r new_releasers =
    (work ≡ ends (runs_out a.fourth)) × (new_memory ≡ m) × (new_world ≡ w) × (new_releasers ≡ r)

-- the request at which a release failed
abbrev pub failed_request : {E : Type 0} → Result ℕ E → Arguments → Option Request
failed_request (Ok _) a = None
failed_request (Err _) a = Some (record { class = a.fourth; count = a.third })

-- the request at which a gate step with these arguments ended
abbrev pub request_of : GateEnd → Arguments → Option Request
request_of (Tape class) a = Some (record { class = class; count = a.third })
request_of _ a = None

-- the request at which a gate step from these registers ended: a releaser was asked for as many bytes as rdx says
abbrev pub failure_of : GateEnd → Registers → Option Request
failure_of end s = request_of end (arguments_of s)

-- the effect of a gate step, by the place at which the core waits, or the fault of looking for it
abbrev pub from_place : Result ℕ FaultKind → Gate → Registers → Memory → World → Releasers → GateEffect
from_place (Ok at) gate s m w r = unless_refused (refusal m.size gate (arguments_of s) w r) gate (at + 8) s m w r
from_place (Err kind) gate s m w r = faults kind
