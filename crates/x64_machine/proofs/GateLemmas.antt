-- What steps leave of the machine and of the releasers: those that ask none, and a gate step by how it ended.
use Rattle.std.proofs.Common.{◌≡◌, ◌∙◌, sym, ap, subst, ℕ, ◌<◌, ◌||◌, Bool, true, false, List, [], length, get_or, set, Option, Some, None, refl, pos, cond}
use Rattle.std.specs.Prelude.{slice_get, slice_set, nat_lt}
use Rattle.std.specs.List.{list_all}
use Rattle.std.proofs.lemmas.List.{get_or_default}
use Rattle.std.proofs.lemmas.Option.{slice_get-get_or}
use Rattle.cv_word.specs.Memory.{Memory}
use Rattle.cv_word.specs.GateStep.{World, Releasers, GateEffect, goes, stops, faults, ends_core, exits, runs_out, arguments_of, is_short}
use Rattle.cv_word.specs.declared.registers.Registers.{Registers}
use Rattle.cv_io.specs.Releasers.{Classes, held_of}
use Rattle.trusted_stubs.specs.Answers.{Changed, GateStepsTo, changed}
use Rattle.trusted_stubs.specs.Events.{Plays, MayFollow, Request}
use Rattle.trusted_stubs.specs.declared.end.GateEnd.TheVariants as end
use Rattle.trusted_stubs.proofs.EventLemmas.{plays_as, plays_nothing}
use Rattle.x64_machine.specs.Run.{Core, after_gate, outcome_of_ended}
use Rattle.x64_machine.specs.Steps.{stepped, running}
use Rattle.x64_machine.specs.Following.{asked_by, unanswered}
use Rattle.x64_machine.specs.declared.outcome.Outcome.{Outcome}
use Rattle.x64_machine.specs.declared.outcome.Outcome.TheVariants as outcome
use Rattle.x64_machine.proofs.StepLemmas.{with_registers, written_back}

-- steps that ask no releaser and end with no request
pub plays_none : (failure : Option Request) (classes : Classes) (audit : List ℕ) (Goes : Releasers → Releasers → Type 0) → failure ≡ None → ((r : Releasers) → Goes r r)
    → Plays failure classes classes audit audit Goes
plays_none failure classes audit Goes none each =
    subst (λ (f : Option Request). Plays f classes classes audit audit Goes) (sym none) (plays_nothing classes audit Goes (λ r held. each r))

-- ---- tapes that answer nothing

abbrev pub no_more : Classes → Releasers
no_more classes = record {
  held = held_of classes;
  tapes = λ class. record { left = record { bytes = []; releases = Some 0 }; taken = 0; answered = 0 };
  asked = λ class. [];
}

or_true : (b : Bool) → (b || true) ≡ true
or_true true = refl
or_true false = refl

pub nothing_follows : (failure : Option Request) (classes : Classes) → MayFollow failure (no_more classes)
unfolding is_short
nothing_follows None classes = tt
nothing_follows (Some request) classes = or_true (nat_lt 0 request.count)

-- ---- a gate step that doesn't go on

same_parts : (a b : List Core) (m n : Memory) (w v : World) (o p : Outcome) (r q : Releasers) → a ≡ b → m ≡ n → w ≡ v → o ≡ p → r ≡ q → stepped a m w o r ≡ stepped b n v p q
same_parts a b m n w v o p r q e f g h k = cc

same_tape : (i pc k l : ℕ) → k ≡ l → outcome.Tape i pc k ≡ outcome.Tape i pc l
same_tape i pc k l e = cc

core_end_step : (effect : GateEffect) (cores new : List Core) (i : ℕ) (core : Core) (m m' : Memory) (w w' : World) (s' : Registers) (o : Outcome) (r t : Releasers)
    → (s' ≡ core.registers → new ≡ set cores i (record core { ended = true })) → o ≡ outcome_of_ended new
    → GateStepsTo effect end.CoreEnd (changed core.registers m w r) (changed s' m' w' t)
    → stepped new m' w' o t ≡ after_gate effect i core (running cores m w r)
core_end_step (goes s n v q) cores new i core m m' w w' s' o r t is e h = absurd h
core_end_step (stops ends_core) cores new i core m m' w w' s' o r t is e h =
    let same : changed s' m' w' t ≡ changed core.registers m w r = h.1 in
    let there : new ≡ set cores i (record core { ended = true }) = is (ap (λ (c : Changed). c.registers) same) in
    same_parts new _ m' m w' w o _ t r there (ap (λ (c : Changed). c.memory) same) (ap (λ (c : Changed). c.world) same)
    (e ∙ ap (λ (l : List Core). outcome_of_ended l) there) (ap (λ (c : Changed). c.releasers) same)
core_end_step (stops (exits x)) cores new i core m m' w w' s' o r t is e h = absurd h.0
core_end_step (stops (runs_out x)) cores new i core m m' w w' s' o r t is e h = absurd h.0
core_end_step (faults k) cores new i core m m' w w' s' o r t is e h = absurd h

tape_step : (effect : GateEffect) (cores new : List Core) (i class : ℕ) (core : Core) (m m' : Memory) (w w' : World) (s' : Registers) (r t : Releasers)
    → (s' ≡ core.registers → new ≡ cores) → GateStepsTo effect (end.Tape class) (changed core.registers m w r) (changed s' m' w' t)
    → stepped new m' w' (outcome.Tape i core.registers.pc class) t ≡ after_gate effect i core (running cores m w r)
tape_step (goes s n v q) cores new i class core m m' w w' s' r t is h = absurd h
tape_step (stops ends_core) cores new i class core m m' w w' s' r t is h = absurd h.0
tape_step (stops (exits x)) cores new i class core m m' w w' s' r t is h = absurd h.0
tape_step (stops (runs_out k)) cores new i class core m m' w w' s' r t is h =
    let same : changed s' m' w' t ≡ changed core.registers m w r = h.1 in
    same_parts new cores m' m w' w _ _ t r (is (ap (λ (c : Changed). c.registers) same)) (ap (λ (c : Changed). c.memory) same) (ap (λ (c : Changed). c.world) same)
    (same_tape i core.registers.pc class k h.0) (ap (λ (c : Changed). c.releasers) same)
tape_step (faults k) cores new i class core m m' w w' s' r t is h = absurd h

tape_keeps : (effect : GateEffect) (class : ℕ) (s s' : Registers) (m m' : Memory) (w w' : World) (r t : Releasers)
    → GateStepsTo effect (end.Tape class) (changed s m w r) (changed s' m' w' t) → s' ≡ s
tape_keeps (goes x n v q) class s s' m m' w w' r t h = absurd h
tape_keeps (stops ending) class s s' m m' w w' r t h = ap (λ (c : Changed). c.registers) h.1
tape_keeps (faults k) class s s' m m' w w' r t h = absurd h

none_unanswered : (test : Bool) (cores : List Core) → unanswered (cond test (outcome.Exited (pos 0)) outcome.Running) cores ≡ None
none_unanswered true cores = refl
none_unanswered false cores = refl

ended_core : (cores new : List Core) (i : ℕ) (e : Core) (s' : Registers)
    → new ≡ slice_set (set cores i (with_registers s' (get_or cores i e))) i (record (get_or (set cores i (with_registers s' (get_or cores i e))) i e) { ended = true })
    → s' ≡ (get_or cores i e).registers → new ≡ set cores i (record (get_or cores i e) { ended = true })
ended_core cores new i e s' is kept = is ∙ ap (λ (l : List Core). set l i (record (get_or l i e) { ended = true })) (written_back cores i e s' kept)

-- the gate CoreEnd
pub plays_core_end : (effect : Registers → Releasers → GateEffect) (cores new : List Core) (i : ℕ) (e d : Core) (m m' : Memory) (w w' : World) (s' : Registers) (o : Outcome)
    (old after : Classes) (x y : List ℕ) → i < length cores
    → new ≡ slice_set (set cores i (with_registers s' (get_or cores i e))) i (record (get_or (set cores i (with_registers s' (get_or cores i e))) i e) { ended = true })
    → o ≡ outcome_of_ended new
    → Plays None old after x y (λ r t. GateStepsTo (effect (get_or cores i e).registers r) end.CoreEnd (changed (get_or cores i e).registers m w r) (changed s' m' w' t))
    → Plays (unanswered o new) old after x y (λ r t. stepped new m' w' o t ≡ after_gate (effect (get_or cores i d).registers r) i (get_or cores i d) (running cores m w r))
plays_core_end effect cores new i e d m m' w w' s' o old after x y inside is ends plays =
    let none : unanswered o new ≡ None = ap (λ (q : Outcome). unanswered q new) ends ∙ none_unanswered (list_all (λ core. core.ended) new) new in
    let Goes : Releasers → Releasers → Type 0 = λ r t. stepped new m' w' o t ≡ after_gate (effect (get_or cores i d).registers r) i (get_or cores i d) (running cores m w r) in
    subst (λ (f : Option Request). Plays f old after x y Goes) (sym none)
    (plays_as None old after x y _ Goes
    (λ r t held h. subst (λ (core : Core). stepped new m' w' o t ≡ after_gate (effect core.registers r) i core (running cores m w r)) (get_or_default cores i e d inside)
    (core_end_step (effect (get_or cores i e).registers r) cores new i (get_or cores i e) m m' w w' s' o r t (ended_core cores new i e s' is) ends h)) plays)

-- the gate Release, where the releaser failed
module _ (effect : Registers → Releasers → GateEffect) (cores : List Core) (i class : ℕ) (e d : Core) (m m' : Memory) (w w' : World) (s' : Registers)
    (old after : Classes) (x y : List ℕ) (inside : i < length cores) where
  abbrev asked : ℕ
  asked = (arguments_of (get_or cores i e).registers).third

  abbrev new : List Core
  new = set cores i (with_registers s' (get_or cores i e))

  abbrev Fails : Releasers → Releasers → Type 0
  Fails r t = GateStepsTo (effect (get_or cores i e).registers r) (end.Tape class) (changed (get_or cores i e).registers m w r) (changed s' m' w' t)

  module _ (plays : Plays (Some (record { class = class; count = asked })) old after x y Fails) where
    kept : s' ≡ (get_or cores i e).registers
    kept = tape_keeps _ class _ s' m m' w w' _ _ (plays.goes (no_more old) refl (nothing_follows (Some (record { class = class; count = asked })) old))

    same_count : asked ≡ asked_by (slice_get new i)
    same_count =
        let back : new ≡ cores = written_back cores i e s' kept in
        sym (ap (λ (l : List Core). asked_by (slice_get l i)) back ∙ ap asked_by (slice_get-get_or cores i e inside))

    pub plays_tape : Plays (Some (record { class = class; count = asked_by (slice_get new i) })) old after x y
        (λ r t. stepped new m' w' (outcome.Tape i (get_or cores i e).registers.pc class) t ≡ after_gate (effect (get_or cores i d).registers r) i (get_or cores i d) (running cores m w r))
    plays_tape =
        let Goes : Releasers → Releasers → Type 0 = λ r t. stepped new m' w' (outcome.Tape i (get_or cores i e).registers.pc class) t ≡ after_gate (effect (get_or cores i d).registers r) i (get_or cores i d) (running cores m w r) in
        subst (λ (n : ℕ). Plays (Some (record { class = class; count = n })) old after x y Goes) same_count
        (plays_as _ old after x y _ Goes
        (λ r t held h. subst (λ (core : Core). stepped new m' w' (outcome.Tape i (get_or cores i e).registers.pc class) t ≡ after_gate (effect core.registers r) i core (running cores m w r)) (get_or_default cores i e d inside)
        (tape_step (effect (get_or cores i e).registers r) cores new i class (get_or cores i e) m m' w w' s' r t (λ k. written_back cores i e s' k) h)) plays)
