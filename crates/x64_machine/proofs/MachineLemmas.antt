-- Machines that step and run while releasers answer.
use Rattle.std.proofs.Common.{◌≡◌, ◌∙◌, sym, ap, subst, subst₂, ℕ, suc, ◌+◌, ◌-◌, ◌%◌, ◌<◌, ◌≤◌, Bool, true, false, List, [], ◌∷◌, ◌++◌, length, take, drop, get_or, Option, None, refl, arith, cond, drop-cons, add-one}
use Rattle.std.proofs.lemmas.List.{drop_all}
use Rattle.std.proofs.lemmas.Grind.{common_steps}
use Rattle.std.specs.Prelude.{slice_get}
use Rattle.std.proofs.lemmas.Bool.{true≢false}
use Rattle.cv_word.specs.Memory.{Memory}
use Rattle.cv_word.specs.GateStep.{World, Releasers}
use Rattle.cv_io.specs.Releasers.{Classes}
use Rattle.trusted_stubs.specs.Events.{Plays, Request}
use Rattle.trusted_stubs.proofs.EventLemmas.{plays_on}
use Rattle.x64_machine.specs.Run.{Core, State, Configuration, configuration, is_running, run, step, step_core}
use Rattle.x64_machine.specs.Entries.{turns}
use Rattle.x64_machine.specs.Endings.{progress_of}
use Rattle.x64_machine.specs.Steps.{stepped, running}
use Rattle.x64_machine.specs.Following.{HasRun, failure_between, unanswered}
use Rattle.x64_machine.specs.declared.outcome.Outcome.{Outcome}
use Rattle.x64_machine.specs.declared.outcome.Outcome.TheVariants as outcome
use Rattle.x64_machine.specs.declared.schedule.Progress.TheVariants as progress
use Rattle.x64_machine.proofs.GateLemmas.{plays_none}
use Rattle.x64_machine.proofs.Runs.{run-ended, run_stopped, turns_next, turns_empty}

-- ---- a step

abbrev state : List Core → Memory → World → Outcome → State
state cores m w o = record { cores = cores; memory = m; world = w; outcome = o }

pub as_running : (s : State) (cores : List Core) (m : Memory) (w : World) (o : Outcome) → state cores m w o ≡ s → o ≡ outcome.Running → s ≡ state cores m w outcome.Running
as_running s cores m w o e h = sym e ∙ ap (state cores m w) h

pub with_cores : (cores cores' : List Core) (m : Memory) (w : World) (o : Outcome) → cores' ≡ cores → state cores' m w o ≡ state cores m w o
with_cores cores cores' m w o e = ap (λ l. state l m w o) e

-- a slice of a whole list, written back
pub written_whole : (len : ℕ) (new items : List Core) → length new ≡ length items → len ≡ length items → take len (new ++ drop (length new) items) ≡ new
written_whole len new items e f = grind (arith, common_steps)

pub machine_step : (core : ℕ) (old new : State) (cores cores' : List Core) (m m' : Memory) (w w' : World) (o : Outcome) (a b : Classes)
    → old ≡ record { cores = cores; memory = m; world = w; outcome = outcome.Running } → new ≡ record { cores = cores'; memory = m'; world = w'; outcome = o }
    → Plays (unanswered o cores') a b w.visible.audit w'.visible.audit (λ r t. stepped cores' m' w' o t ≡ step_core (slice_get cores core) core (running cores m w r))
    → HasRun (core ∷ []) a b old new
unfolding step
machine_step core old new cores cores' m m' w w' o a b is was plays =
    subst₂ (λ (s t : State). HasRun (core ∷ []) a b s t) (sym is) (sym was) plays

pub not_running : (o : Outcome) → (o ≡ outcome.Running → ⊥) → is_running o ≡ false
not_running outcome.Running h = absurd (h refl)
not_running (outcome.Exited status) h = refl
not_running (outcome.Fault core at kind) h = refl
not_running (outcome.Tape core at class) h = refl

pub has_stayed : (schedule : List ℕ) (s : State) (a : Classes) → is_running s.outcome ≡ false → HasRun schedule a a s s
has_stayed schedule s a e =
    plays_none (failure_between s s) a s.world.visible.audit _ (ap (λ b. cond b (unanswered s.outcome s.cores) None) e)
    (λ r. sym (run-ended schedule (configuration s r) e))

-- ---- a run

-- what still runs asks for nothing
nothing_asked : (o : Outcome) (cores : List Core) → is_running o ≡ true → unanswered o cores ≡ None
nothing_asked outcome.Running cores e = refl
nothing_asked (outcome.Exited status) cores e = refl
nothing_asked (outcome.Fault core at kind) cores e = refl
nothing_asked (outcome.Tape core at class) cores e = absurd (true≢false (sym e))

both_none : (test : Bool) (o : Option Request) → o ≡ None → cond test o None ≡ None
both_none true o e = e
both_none false o e = refl

running_or_not : (test : Bool) (o : Outcome) (cores : List Core) → is_running o ≡ test → cond test (unanswered o cores) None ≡ None
running_or_not true o cores e = nothing_asked o cores e
running_or_not false o cores e = refl

-- So far a run has taken the entries of the whole schedule but for the rest, and the machine runs if it ran at first.
pub record IsSoFar (rest whole : List ℕ) (a b : Classes) (old mid : State) : Type 0 where
  pub plays : Plays None a b old.world.visible.audit mid.world.visible.audit (λ before after. run rest (configuration mid after) ≡ run whole (configuration old before))
  pub alike : is_running mid.outcome ≡ is_running old.outcome

pub begins : (whole : List ℕ) (a : Classes) (old : State) → IsSoFar whole whole a a old old
begins whole a old = record { plays = plays_none None a old.world.visible.audit _ refl (λ r. refl); alike = refl }

still_running : (mid new : State) → (is_running mid.outcome ≡ false → new ≡ mid) → is_running new.outcome ≡ true → (b : Bool) → is_running mid.outcome ≡ b → b ≡ true
still_running mid new stays on true e = refl
still_running mid new stays on false e = absurd (true≢false (sym on ∙ ap (λ (s : State). is_running s.outcome) (stays e) ∙ e))

is_on : (o : Outcome) → progress_of o ≡ progress.Running → is_running o ≡ true
is_on outcome.Running e = refl
is_on (outcome.Exited status) e = absurd (cc)
is_on (outcome.Fault core at kind) e = absurd (cc)
is_on (outcome.Tape core at class) e = absurd (cc)

pub goes_on : (core : ℕ) (rest whole : List ℕ) (a b c : Classes) (old mid new : State) → IsSoFar (core ∷ rest) whole a b old mid → HasRun (core ∷ []) b c mid new
    → (is_running mid.outcome ≡ false → new ≡ mid) → progress_of new.outcome ≡ progress.Running → IsSoFar rest whole a c old new
goes_on core rest whole a b c old mid new far ran stays p =
    let on : is_running new.outcome ≡ true = is_on new.outcome p in
    let none : failure_between mid new ≡ None = both_none (is_running mid.outcome) (unanswered new.outcome new.cores) (nothing_asked new.outcome new.cores on) in
    let Goes : Releasers → Releasers → Type 0 = λ before after. configuration new after ≡ step core (configuration mid before) in
    let plain : Plays None b c mid.world.visible.audit new.world.visible.audit Goes =
    subst (λ (f : Option Request). Plays f b c mid.world.visible.audit new.world.visible.audit Goes) none ran in
    record {
      plays = plays_on None a b c _ _ _ (λ before after. run (core ∷ rest) (configuration mid after) ≡ run whole (configuration old before)) Goes _
          (λ r s t h e. ap (λ (x : Configuration). run rest x) e ∙ h) far.plays plain;
      alike = on ∙ sym (still_running mid new stays on (is_running mid.outcome) refl) ∙ far.alike;
    }

pub stops_here : (core : ℕ) (rest whole : List ℕ) (a b c : Classes) (old mid new : State) → IsSoFar (core ∷ rest) whole a b old mid → HasRun (core ∷ []) b c mid new
    → progress_of new.outcome ≡ progress.Ended → HasRun whole a c old new
stops_here core rest whole a b c old mid new far ran p =
    let Goes : Releasers → Releasers → Type 0 = λ before after. configuration new after ≡ run whole (configuration old before) in
    subst (λ (t : Bool). Plays (cond t (unanswered new.outcome new.cores) None) a c old.world.visible.audit new.world.visible.audit Goes) far.alike
    (plays_on (failure_between mid new) a b c _ _ _ (λ before after. run (core ∷ rest) (configuration mid after) ≡ run whole (configuration old before))
    (λ before after. configuration new after ≡ step core (configuration mid before)) Goes
    (λ r s t h e. run_stopped core rest (configuration mid s) (configuration new t) e p ∙ h) far.plays ran)

pub is_over : (whole : List ℕ) (a b : Classes) (old mid : State) → IsSoFar [] whole a b old mid → HasRun whole a b old mid
is_over whole a b old mid far =
    let Goes : Releasers → Releasers → Type 0 = λ before after. configuration mid after ≡ run whole (configuration old before) in
    subst (λ (f : Option Request). Plays f a b old.world.visible.audit mid.world.visible.audit Goes)
    (sym (running_or_not (is_running old.outcome) mid.outcome mid.cores far.alike)) far.plays

-- ---- the entries of a schedule of bytes, and of a round robin

module _ (whole : List ℕ) (a b : Classes) (old mid : State) where
  pub no_byte : (cores : List ℕ) (k : ℕ) → length cores ≤ k → IsSoFar (drop k cores) whole a b old mid → HasRun whole a b old mid
  no_byte cores k past far = is_over whole a b old mid (subst (λ (l : List ℕ). IsSoFar l whole a b old mid) (drop_all k cores past) far)

  pub no_turn : (n j count : ℕ) → count ≤ j → IsSoFar (turns n j (count - j)) whole a b old mid → HasRun whole a b old mid
  no_turn n j count past far = is_over whole a b old mid (subst (λ (l : List ℕ). IsSoFar l whole a b old mid) (turns_empty n j (count - j) (omega arith)) far)

  module _ (c : Classes) (new : State) (core : ℕ) (ran : HasRun (core ∷ []) b c mid new) where
    module _ (cores : List ℕ) (k : ℕ) (is : core ≡ get_or cores k 0) (inside : k < length cores) (far : IsSoFar (drop k cores) whole a b old mid) where
      this_byte : IsSoFar (core ∷ drop (suc k) cores) whole a b old mid
      this_byte =
          subst (λ (i : ℕ). IsSoFar (i ∷ drop (suc k) cores) whole a b old mid) (sym is)
          (subst (λ (l : List ℕ). IsSoFar l whole a b old mid) (drop-cons cores k 0 inside) far)

      pub next_byte : (is_running mid.outcome ≡ false → new ≡ mid) → progress_of new.outcome ≡ progress.Running → IsSoFar (drop (k + 1) cores) whole a c old new
      next_byte stays p = rw (add-one) (goes_on core (drop (suc k) cores) whole a b c old mid new this_byte ran stays p)

      pub last_byte : progress_of new.outcome ≡ progress.Ended → HasRun whole a c old new
      last_byte p = stops_here core (drop (suc k) cores) whole a b c old mid new this_byte ran p

    module _ (n j count : ℕ) (turn : core ≡ j % n) (inside : j < count) (far : IsSoFar (turns n j (count - j)) whole a b old mid) where
      this_turn : IsSoFar (core ∷ turns n (suc j) (count - suc j)) whole a b old mid
      this_turn =
          subst (λ (i : ℕ). IsSoFar (i ∷ turns n (suc j) (count - suc j)) whole a b old mid) (sym turn)
          (subst (λ (l : List ℕ). IsSoFar l whole a b old mid) (turns_next n j count inside) far)

      pub later_turn : (is_running mid.outcome ≡ false → new ≡ mid) → progress_of new.outcome ≡ progress.Running → IsSoFar (turns n (j + 1) (count - (j + 1))) whole a c old new
      later_turn stays p = rw (add-one) (goes_on core (turns n (suc j) (count - suc j)) whole a b c old mid new this_turn ran stays p)

      pub last_turn : progress_of new.outcome ≡ progress.Ended → HasRun whole a c old new
      last_turn p = stops_here core (turns n (suc j) (count - suc j)) whole a b c old mid new this_turn ran p

pub begins_turns : (n count : ℕ) (a : Classes) (old : State) → IsSoFar (turns n 0 (count - 0)) (turns n 0 count) a a old old
begins_turns n count a old =
    let all : count ≡ count - 0 = omega arith in
    subst (λ (k : ℕ). IsSoFar (turns n 0 k) (turns n 0 count) a a old old) all (begins (turns n 0 count) a old)

pub of_cores : (n m count : ℕ) (a b : Classes) (old new : State) → n ≡ m → HasRun (turns n 0 count) a b old new → HasRun (turns m 0 count) a b old new
of_cores n m count a b old new same ran = subst (λ (k : ℕ). HasRun (turns k 0 count) a b old new) same ran
