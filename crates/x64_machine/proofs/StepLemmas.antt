-- A core whose step changes nothing: its registers, written back as they were, leave the cores as they were.
use Rattle.std.proofs.Common.{◌≡◌, ◌∙◌, sym, ap, subst, cond, arith, ℕ, ◌-◌, ◌/◌, ◌%◌, ◌<◌, ◌≤◌, Bool, true, false, ◌&&◌, List, length, get_or, set, Option, Some, None, refl}
use Rattle.std.specs.Prelude.{slice_get, if◌then◌else◌, nat_le, ◌==◌}
use Rattle.std.proofs.lemmas.Bool.{and_left, lt-leb}
use Rattle.cv_word.specs.MemoryMap.{code_base, is_in_code}
use Rattle.cv_word.specs.Gates.{gate_at, gates}
use Rattle.cv_word.specs.GateStep.{gate_step}
use Rattle.cv_word.specs.declared.gates.Gate.{Gate}
use Rattle.cv_word.specs.declared.fault.FaultKind.TheVariants as fault
use Rattle.std.proofs.lemmas.List.{set-get_or}
use Rattle.std.proofs.lemmas.Option.{slice_get-get_or, slice_get_past}
use Rattle.cv_word.specs.GateStep.{World, Releasers}
use Rattle.cv_word.specs.Memory.{Memory}
use Rattle.cv_word.specs.declared.registers.Registers.{Registers}
use Rattle.cv_word.specs.declared.fault.FaultKind.{FaultKind}
use Rattle.x64_alu.specs.CoreStep.{Effect, goes, faults, StepsTo, core_step, after_fetch, instruction_in}
use Rattle.x64_machine.specs.Run.{Core, Configuration, after_step, after_gate, step_at, step_core, with_outcome}
use Rattle.x64_machine.specs.Steps.{stepped, running}
use Rattle.x64_machine.specs.declared.outcome.Outcome.{Outcome}
use Rattle.x64_machine.specs.declared.outcome.Outcome.TheVariants.{Fault}

abbrev pub with_registers : Registers → Core → Core
with_registers r core = record core { registers = r }

pub written_back : (cores : List Core) (i : ℕ) (d : Core) (new : Registers) → new ≡ (get_or cores i d).registers
    → set cores i (with_registers new (get_or cores i d)) ≡ cores
written_back cores i d new e =
    ap (λ (r : Registers). set cores i (with_registers r (get_or cores i d))) e ∙ set-get_or cores i d

pub same_stepped : (a b : List Core) (m n : Memory) (w v : World) (o p : Outcome) (r : Releasers) → a ≡ b → m ≡ n → w ≡ v → o ≡ p → stepped a m w o r ≡ stepped b n v p r
same_stepped a b m n w v o p r e f g h = cc

same_fault : (i pc : ℕ) (k l : FaultKind) → k ≡ l → Fault i pc k ≡ Fault i pc l
same_fault i pc k l e = cc

-- a fault of an instruction
pub faulted : (e : Effect) (cores : List Core) (i : ℕ) (d : Core) (m n : Memory) (w : World) (r : Releasers) (new : Registers) (kind : FaultKind)
    → StepsTo e (Some kind) (get_or cores i d).registers m new n
    → stepped (set cores i (with_registers new (get_or cores i d))) n w (Fault i (get_or cores i d).registers.pc kind) r
    ≡ after_step e i (get_or cores i d) (running cores m w r)
faulted (goes s o) cores i d m n w r new kind h = absurd h
faulted (faults k) cores i d m n w r new kind h =
    same_stepped _ _ n m w w _ _ r (written_back cores i d new h.1) h.2 refl (same_fault i (get_or cores i d).registers.pc kind k h.0)

-- ---- one step of a core that is there and runs

not_ended : (ended : Bool) (x y : Configuration) → ended ≡ false → y ≡ (if ended then x else y)
not_ended true x y e = absurd (cc)
not_ended false x y e = refl

-- the step of the core of a number is what happens at its program counter
at_counter : (cores : List Core) (i : ℕ) (d : Core) (c : Configuration) → i < length cores → (get_or cores i d).ended ≡ false
    → step_at (gate_at (get_or cores i d).registers.pc) i (get_or cores i d) c ≡ step_core (slice_get cores i) i c
at_counter cores i d c inside runs =
    rw (slice_get-get_or cores i d inside)
    (not_ended (get_or cores i d).ended c (step_at (gate_at (get_or cores i d).registers.pc) i (get_or cores i d) c) runs)

past : {A : Type 0} (xs : List A) (k : ℕ) → length xs ≤ k → slice_get xs k ≡ None
past xs k h = slice_get_past xs k h

-- no gate stands in the code or above
beyond : (test : Bool) (k : ℕ) → 13 ≤ k → (if test then slice_get gates k else None) ≡ None
beyond true k h = past gates k h
beyond false k h = refl

pub no_gate_above : (at : ℕ) → code_base ≤ at → gate_at at ≡ None
no_gate_above at h =
    let far : 13 ≤ (at - 0x1000) / 16 = omega arith in
    beyond (nat_le 0x1000 at && ((at - 0x1000) % 16 == 0)) ((at - 0x1000) / 16) far

pub stepped_in_code : (cores : List Core) (i : ℕ) (d : Core) (c after : Configuration) → i < length cores → (get_or cores i d).ended ≡ false
    → code_base ≤ (get_or cores i d).registers.pc → after ≡ after_step (core_step c.state.memory (get_or cores i d).registers) i (get_or cores i d) c
    → after ≡ step_core (slice_get cores i) i c
stepped_in_code cores i d c after inside runs high e =
    e ∙ ap (λ (g : Option Gate). step_at g i (get_or cores i d) c) (sym (no_gate_above (get_or cores i d).registers.pc high)) ∙ at_counter cores i d c inside runs

pub stepped_at_gate : (cores : List Core) (i : ℕ) (d : Core) (c after : Configuration) (gate : Gate) → i < length cores → (get_or cores i d).ended ≡ false
    → gate_at (get_or cores i d).registers.pc ≡ Some gate
    → after ≡ after_gate (gate_step gate (get_or cores i d).registers c.state.memory c.state.world c.releasers) i (get_or cores i d) c
    → after ≡ step_core (slice_get cores i) i c
stepped_at_gate cores i d c after gate inside runs is e =
    e ∙ ap (λ (g : Option Gate). step_at g i (get_or cores i d) c) (sym is) ∙ at_counter cores i d c inside runs

-- below the code, where no gate stands, there is nothing
outside : (m : Memory) (s : Registers) → s.pc < code_base → core_step m s ≡ faults fault.Memory
unfolding core_step
outside m s low =
    let P : Bool → Type 0 = λ b. cond b (after_fetch (instruction_in m.code s.pc) m s) (faults fault.Memory) ≡ faults fault.Memory in
    let not_in : is_in_code (length m.code) s.pc ≡ false = and_left _ _ (lt-leb code_base s.pc low) in
    subst P (sym not_in) refl

pub stepped_nowhere : (cores : List Core) (i : ℕ) (d : Core) (c : Configuration) → i < length cores → (get_or cores i d).ended ≡ false
    → (get_or cores i d).registers.pc < code_base → gate_at (get_or cores i d).registers.pc ≡ None
    → with_outcome (Fault i (get_or cores i d).registers.pc fault.Memory) c ≡ step_core (slice_get cores i) i c
stepped_nowhere cores i d c inside runs low none =
    ap (λ (e : Effect). after_step e i (get_or cores i d) c) (sym (outside c.state.memory (get_or cores i d).registers low))
    ∙ ap (λ (g : Option Gate). step_at g i (get_or cores i d) c) (sym none) ∙ at_counter cores i d c inside runs

-- a core that isn't there, or has ended, takes no step
pub idle_past : (cores : List Core) (i : ℕ) (c : Configuration) → length cores ≤ i → c ≡ step_core (slice_get cores i) i c
idle_past cores i c h = sym (ap (λ (o : Option Core). step_core o i c) (slice_get_past cores i h))

ended_stays : (ended : Bool) (x y : Configuration) → ended ≡ true → y ≡ (if ended then y else x)
ended_stays true x y e = refl
ended_stays false x y e = absurd (cc)

pub idle_ended : (cores : List Core) (i : ℕ) (d : Core) (c : Configuration) → i < length cores → (get_or cores i d).ended ≡ true → c ≡ step_core (slice_get cores i) i c
idle_ended cores i d c inside ended =
    rw (slice_get-get_or cores i d inside)
    (ended_stays (get_or cores i d).ended (step_at (gate_at (get_or cores i d).registers.pc) i (get_or cores i d) c) c ended)
