-- A release, by what its releaser was asked and answered, and the other gates, which ask none.
use Rattle.std.proofs.Common.{◌≡◌, ◌∙◌, ℕ, ◌+◌, ◌-◌, ◌==◌, ◌||◌, ◌≤◌, arith, cond, eqb, ltb-false, length-take, true≢false, eq-eqb, eqb-true, le-ltb, length, length-append, Bool, true, false, List, [], ◌∷◌, ◌++◌, append-nil, take, drop, Option, Some, None, Result, Ok, Err, unwrap_or, slice_set, refl, sym, ap, ap₂, subst, subst₂, flat_map, inl, inr, ◌≢◌, zero, suc, slice_get, is_some}
use borrow.Author.Tests.{eqb-false, ne_eqb}
use Rattle.std.specs.Option.{option_map}
use Rattle.std.proofs.Math.Path.{fun_ext}
use Rattle.std.proofs.lemmas.Bool.{cases_Bool}
use Rattle.std.proofs.lemmas.Option.{get_or_from_slice_get, none-some, same_Some}
use Rattle.std.proofs.lemmas.Grind.{common_steps}
use Rattle.cv_word.specs.Memory.{Memory, Range, range_written}
use Rattle.cv_word.specs.declared.gates.Arguments.{Arguments}
use Rattle.cv_word.specs.declared.gates.Gate.{Gate}
use Rattle.cv_word.specs.declared.gates.Gate.TheVariants as gate
use Rattle.cv_word.specs.declared.registers.Registers.{Registers}
use Rattle.cv_word.specs.declared.fault.FaultKind.{FaultKind}
use Rattle.cv_word.specs.GateStep.{GateEffect, Releasers, arguments_of, faults, gate_step, refusal, unless_refused, TapeState, Work, World, advanced, after_release, after_work, answers, audit_entry, ends, ends_core, exits, is_short, public_range, releases_to, runs_out, with_audit, with_class, with_visible, passes_limit, work, writes}
use Rattle.cv_io.specs.Releasers.{Asks, Classes, Known, held_of, is_held}
use Rattle.trusted_stubs.specs.declared.end.GateEnd.{GateEnd}
use Rattle.trusted_stubs.specs.declared.end.GateEnd.TheVariants as end
use Rattle.trusted_stubs.specs.Answers.{Changed, GateStepsTo, ReleaseAnswers, WorkAnswers, changed, from_place, request_of}
use Rattle.trusted_stubs.specs.Events.{Event, Plays, Request, behind_answers, grown, of_class, played, put_back, with_answers}
use Rattle.trusted_stubs.proofs.AskLemmas.{front}
use Rattle.trusted_stubs.proofs.EventLemmas.{nothing_played, nothing_put_back, plays_nothing}

-- ---- asking

first_false : (a b : Bool) → (a || b) ≡ false → a ≡ false
first_false true b e = absurd (true≢false e)
first_false false b e = refl

-- the front of the buffer is as long as the release
pub long_answer : (a : Arguments) (w : World) (answer buffer : List ℕ) → passes_limit gate.Release a w ≡ false → length answer ≡ length buffer → length buffer ≡ 65536 → length (take a.third answer) ≡ a.third
long_answer a w answer buffer within kept full =
    let few : a.third ≤ 65536 = ltb-false 65536 a.third (first_false _ _ within) in
    omega (arith, length-take a.third answer)

back : (n : ℕ) (xs ys : List ℕ) → n ≡ length xs → drop n (xs ++ ys) ≡ ys
back n xs ys e = grind (arith, common_steps)

whole : (n len : ℕ) (to items : List ℕ) → length to ≡ length items → len ≡ length items → take n to ≡ take n (take len (to ++ drop (length to) items))
whole n len to items e f = grind (arith, common_steps)

-- an answer in the front of a buffer
pub Asks-whole : {T E : Type 0} (answer : Result T E) (class : ℕ) (from source to items : List ℕ) (n len : ℕ) (old new : Classes) → from ≡ source → length from ≡ n → length to ≡ length items → len ≡ length items
    → Asks answer class from (take (length from) to) old new → Asks answer class source (take n (take len (to ++ drop (length to) items))) old new
Asks-whole answer class from source to items n len old new is long e f asks =
    subst₂ (λ (x y : List ℕ). Asks answer class x y old new) is (ap (λ k. take k to) long ∙ whole n len to items e f) asks

-- ---- what the model makes of one answer

same : (b b' : List ℕ) (n n' : Option ℕ) (t t' a a' : ℕ) → b ≡ b' → n ≡ n' → t ≡ t' → a ≡ a'
    → ◌≡◌ {A = TapeState} (record { left = record { bytes = b; releases = n }; taken = t; answered = a }) (record { left = record { bytes = b'; releases = n' }; taken = t'; answered = a' })
same b b' n n' t t' a a' p q r s = cc

-- one answer of a class, put back and taken
module _ (class count : ℕ) (source told : List ℕ) (long : count ≡ length told) where
  abbrev event : Event
  event = record { class = class; source = source; told = told }

  -- the events of a class
  abbrev these : Bool → List Event
  these b = cond b (event ∷ []) []

  is_here : eqb class class ≡ true
  is_here = eq-eqb class class refl

  one_more : (o : Option ℕ) → (unwrap_or (option_map (λ n. 1 + n) o) 1 == 0) ≡ false
  one_more None = refl
  one_more (Some n) = ne_eqb (1 + n) 0 (λ e. omega arith)

  one_less : (o : Option ℕ) → option_map (λ n. n - 1) (option_map (λ n. 1 + n) o) ≡ o
  one_less None = refl
  one_less (Some n) = let e : (1 + n) - 1 ≡ n = omega arith in ap Some e

  no_less : (o : Option ℕ) → option_map (λ n. 0 + n) o ≡ o
  no_less None = refl
  no_less (Some n) = let e : 0 + n ≡ n = omega arith in ap Some e

  either : (a b : Bool) → a ≡ false → b ≡ false → (a || b) ≡ false
  either a b p q = rw (p, q) refl

  -- the tape of the class with the answer put back
  abbrev full : TapeState → TapeState
  full t = record t { left = record { bytes = told ++ t.left.bytes; releases = option_map (λ n. 1 + n) t.left.releases } }

  full_so : (t : TapeState) → with_answers (event ∷ []) class t ≡ full t
  full_so t =
      let P : Bool → TapeState = λ b. record t { left = record { bytes = flat_map (λ e. e.told) (these b) ++ t.left.bytes; releases = option_map (λ n. length (these b) + n) t.left.releases } } in
      ap P is_here ∙ ap (λ bytes. record t { left = record { bytes = bytes ++ t.left.bytes; releases = option_map (λ n. 1 + n) t.left.releases } }) (append-nil told)

  is_short_so : (t : TapeState) → is_short count (full t).left ≡ false
  unfolding is_short
  is_short_so t =
      let all : length (told ++ t.left.bytes) ≡ length told + length t.left.bytes = length-append told t.left.bytes in
      either _ _ (le-ltb (length (told ++ t.left.bytes)) count (omega arith)) (one_more t.left.releases)

  taken_so : (t : TapeState) → take count (full t).left.bytes ≡ told
  taken_so t = front count told t.left.bytes long

  -- what is left behind the answer, of this class and of another
  here_so : (t : TapeState) → advanced count (full t) ≡ behind_answers (event ∷ []) class t
  unfolding advanced
  here_so t =
      let P : Bool → TapeState = λ b. record t { taken = t.taken + length (flat_map (λ (e : Event). e.told) (these b)); answered = t.answered + length (these b) } in
      let left = back count told t.left.bytes long in
      let rest = one_less t.left.releases in
      let all : length (told ++ []) ≡ count = ap length (append-nil told) ∙ sym long in
      sym (ap P is_here ∙ same _ _ _ _ _ _ _ _ (sym left) (sym rest) (ap (λ n. t.taken + n) all) refl)

  there_so : (other : ℕ) (t : TapeState) → eqb class other ≡ false → with_answers (event ∷ []) other t ≡ behind_answers (event ∷ []) other t
  there_so other t e =
      let P : Bool → TapeState = λ b. record t { left = record { bytes = flat_map (λ (e : Event). e.told) (these b) ++ t.left.bytes; releases = option_map (λ n. length (these b) + n) t.left.releases } } in
      let Q : Bool → TapeState = λ b. record t { taken = t.taken + length (flat_map (λ (e : Event). e.told) (these b)); answered = t.answered + length (these b) } in
      ap P e ∙ same _ _ _ _ _ _ _ _ refl (no_less t.left.releases) (omega arith) (omega arith) ∙ sym (ap Q e)

  here_or_there : (other : ℕ) (a b : ℕ → TapeState) → a class ≡ b class → (eqb class other ≡ false → a other ≡ b other) → a other ≡ b other
  here_or_there other a b here there = elim (cases_Bool (eqb class other)) [
    | inl same ↦ subst (λ (k : ℕ). a k ≡ b k) (eqb-true class other same) here
    | inr apart ↦ there apart
  ]

  with_here : {A : Type 0} (x : A) (f : ℕ → A) → with_class class x f class ≡ x
  with_here x f = ap (λ b. cond b x (f class)) is_here

  with_there : {A : Type 0} (x : A) (f : ℕ → A) (other : ℕ) → eqb class other ≡ false → with_class class x f other ≡ f other
  with_there x f other e = ap (λ b. cond b x (f other)) (ne_eqb other class (λ k. eqb-false class other e (sym k)))

  -- what the releasers are behind the answer
  tapes_so : (later : Releasers) (other : ℕ) →
      with_class class (advanced count (with_answers (event ∷ []) class (later.tapes class))) (λ k. with_answers (event ∷ []) k (later.tapes k)) other
      ≡ behind_answers (event ∷ []) other (later.tapes other)
  tapes_so later other =
      let full : ℕ → TapeState = λ k. with_answers (event ∷ []) k (later.tapes k) in
      let a : ℕ → TapeState = with_class class (advanced count (full class)) full in
      let b : ℕ → TapeState = λ k. behind_answers (event ∷ []) k (later.tapes k) in
      here_or_there other a b
      (with_here (advanced count (full class)) full ∙ ap (advanced count) (full_so (later.tapes class)) ∙ here_so (later.tapes class))
      (λ e. with_there (advanced count (full class)) full other e ∙ there_so other (later.tapes other) e)

  asked_here : (asked : ℕ → List ℕ) → with_class class (asked class ++ source) asked class ≡ asked class ++ flat_map (λ (e : Event). e.source) (of_class class (event ∷ []))
  asked_here asked = with_here _ asked ∙ ap (λ l. asked class ++ l) (sym (ap (λ b. flat_map (λ (e : Event). e.source) (these b)) is_here ∙ append-nil source))

  asked_there : (asked : ℕ → List ℕ) (other : ℕ) → eqb class other ≡ false → with_class class (asked class ++ source) asked other ≡ asked other ++ flat_map (λ (e : Event). e.source) (of_class other (event ∷ []))
  asked_there asked other e = with_there _ asked other e ∙ sym (ap (λ b. asked other ++ flat_map (λ (e : Event). e.source) (these b)) e ∙ append-nil (asked other))

  asked_so : (asked : ℕ → List ℕ) (other : ℕ) → with_class class (asked class ++ source) asked other ≡ asked other ++ flat_map (λ (e : Event). e.source) (of_class other (event ∷ []))
  asked_so asked other = elim (cases_Bool (eqb class other)) [
    | inl same ↦
        let P : ℕ → Type 0 = λ k. with_class class (asked class ++ source) asked k ≡ asked k ++ flat_map (λ (e : Event). e.source) (of_class k (event ∷ [])) in
        subst P (eqb-true class other same) (asked_here asked)
    | inr apart ↦ asked_there asked other apart
  ]

  after_so : (later : Releasers) → after_release class count source (put_back (event ∷ []) later) ≡ played (event ∷ []) later
  after_so later =
      ap₂ (λ (t : ℕ → TapeState) (a : ℕ → List ℕ). record later { tapes = t; asked = a })
      (fun_ext (tapes_so later)) (fun_ext (asked_so later.asked))

  abbrev pub answered_work : World → Releasers → Work
  answered_work w later = answers count told (with_audit w (audit_entry class count told)) (played (event ∷ []) later)

  -- the model's release, with the answer put back
  pub releases_so : (w : World) (later : Releasers) → releases_to class count source w (put_back (event ∷ []) later) ≡ answered_work w later
  releases_so w later =
      let t = later.tapes class in
      let W : TapeState → Work = λ s. cond (is_short count s.left) (ends (runs_out class))
      (answers count (take count s.left.bytes) (with_audit w (audit_entry class count (take count s.left.bytes))) (after_release class count source (put_back (event ∷ []) later))) in
      let V : Bool → Work = λ b. cond b (ends (runs_out class))
      (answers count (take count (full t).left.bytes) (with_audit w (audit_entry class count (take count (full t).left.bytes))) (after_release class count source (put_back (event ∷ []) later))) in
      ap W (full_so t) ∙ ap V (is_short_so t)
      ∙ ap₂ (λ (l : List ℕ) (r : Releasers). answers count l (with_audit w (audit_entry class count l)) r) (taken_so t) (after_so later)

-- ---- what a release plays

-- what a release makes of the model
abbrev pub Released : {E : Type 0} → Result ℕ E → Arguments → List ℕ → Memory → Memory → World → World → Releasers → Releasers → Type 0
Released result a source m m' w w' before after = ReleaseAnswers (work gate.Release a source w before) result a m m' w w' before after

-- the world with another audit
abbrev pub audited : World → List ℕ → World
audited w audit = with_visible w (record w.visible { audit = audit })

-- a class of which something is known has a releaser
is_held_where : (classes : Classes) (class : ℕ) (k : Known) → slice_get classes class ≡ Some (Some k) → is_held (held_of classes) class ≡ true
is_held_where [] class k e = absurd (none-some (Some k) e)
is_held_where (x ∷ xs) zero k e = ap is_some (same_Some x (Some k) e)
is_held_where (x ∷ xs) (suc class) k e = is_held_where xs class k e

-- a class that has none is another than that of the event
only_of : (at class : ℕ) (e : Event) → e.class ≡ at → (old : Classes) (k : Known) → slice_get old at ≡ Some (Some k) → is_held (held_of old) class ≡ false → of_class class (e ∷ []) ≡ []
only_of at class e is old k was unheld = elim (cases_Bool (eqb e.class class)) [
  | inl same ↦
      let there : at ≡ class = sym is ∙ eqb-true e.class class same in
      absurd (true≢false (sym (is_held_where old at k was) ∙ ap (λ (c : ℕ). is_held (held_of old) c) there ∙ unheld))
  | inr other ↦ ap (λ (b : Bool). cond b (e ∷ []) []) other
]

-- an answer of a releaser, in memory and in the audit
pub answered_release : {T F : Type 0} (E : Type 0) (ok : T) (a : Arguments) (source told : List ℕ) (m m' : Memory) (v w : World) (audit : List ℕ) (old new : Classes)
    → v ≡ w → length told ≡ a.third → Asks {T = T} {E = F} (Ok ok) a.fourth source told old new → m' ≡ range_written m (public_range a.second a.third) told
    → audit ≡ v.visible.audit ++ audit_entry a.fourth a.third told
    → Plays None old new w.visible.audit audit (Released {E = E} (Ok a.third) a source m m' w (audited v audit))
unfolding work
answered_release E ok a source told m m' v w audit old new is long asks memory listed =
    let e : Event = record { class = a.fourth; source = source; told = told } in
    let listed' : audit ≡ w.visible.audit ++ audit_entry a.fourth a.third told = listed ∙ ap (λ (x : World). x.visible.audit ++ audit_entry a.fourth a.third told) is in
    let world : audited v audit ≡ with_audit w (audit_entry a.fourth a.third told) = ap₂ audited is listed' in record {
      events = e ∷ [];
      goes = λ later held may.
          let P : Work → Type 0 = λ k. WorkAnswers k a.third (writes gate.Release a) m m' (audited v audit) (played (e ∷ []) later) in
          subst P (sym (releases_so a.fourth a.third source told (sym long) w later)) (refl, memory, world, refl);
      listed =
          listed' ∙ ap (λ l. w.visible.audit ++ l) (ap (λ n. audit_entry a.fourth n told) (sym long) ∙ sym (append-nil (audit_entry a.fourth (length told) told)));
      served = λ class unheld. only_of a.fourth class e refl old asks.before asks.was_held unheld;
      known =
          asks.is_set
          ∙ ap (λ o. slice_set old a.fourth o) (ap Some asks.releases ∙ sym (ap (option_map (grown e)) (get_or_from_slice_get old a.fourth (Some asks.before) None asks.was_held)));
    }

-- a releaser that failed
pub failed_release : {T E F : Type 0} (fault : F) (fault' : E) (a : Arguments) (source told : List ℕ) (m m' : Memory) (w w' : World) (old new : Classes)
    → length source ≡ a.third → Asks {T = T} {E = F} (Err fault) a.fourth source told old new → m' ≡ m → w' ≡ w
    → Plays (Some (record { class = a.fourth; count = a.third })) old new w.visible.audit w'.visible.audit (Released {E = E} (Err fault') a source m m' w w')
unfolding work
failed_release {E = E} fault fault' a source told m m' w w' old new long asks memory world = record {
  events = [];
  goes = λ later held may.
      let P : Releasers → Releasers → Type 0 = Released {E = E} (Err fault') a source m m' w w' in
      let W : Bool → Work = λ b. cond b (ends (runs_out a.fourth))
      (answers a.third (take a.third (later.tapes a.fourth).left.bytes) (with_audit w (audit_entry a.fourth a.third (take a.third (later.tapes a.fourth).left.bytes))) (after_release a.fourth a.third source later)) in
      subst₂ P (sym (nothing_put_back later)) (sym (nothing_played later)) (ap W may, memory, world, refl);
  listed = ap (λ (x : World). x.visible.audit) world ∙ sym (append-nil w.visible.audit);
  served = λ class unheld. refl;
  known = record {
    before = asks.before;
    after = asks.after;
    source = source;
    was_held = asks.was_held;
    is_set = asks.is_set;
    long = long;
    failed = asks.releases;
  };
}

-- ---- the other gates

-- what a gate other than Release does leaves the audit, and doesn't end for want of an answer
abbrev IsPlain : World → Work → Type 0
IsPlain w (answers answer bytes w' r) = w'.visible.audit ≡ w.visible.audit
IsPlain w (ends (runs_out class)) = ⊥
IsPlain w (ends ending) = Unit {0}

plain_so : (known : Gate) (a : Arguments) (source : List ℕ) (w : World) (r : Releasers) → known ≢ gate.Release → IsPlain w (work known a source w r)
unfolding work
plain_so gate.Exit a source w r other = tt
plain_so gate.CoreEnd a source w r other = tt
plain_so gate.PubIn a source w r other = refl
plain_so gate.PubOut a source w r other = refl
plain_so gate.PrivIn a source w r other = refl
plain_so gate.PrivOut a source w r other = refl
plain_so gate.PrivGet a source w r other = refl
plain_so gate.PrivPut a source w r other = refl
plain_so gate.PubAlloc a source w r other = refl
plain_so gate.PrivAlloc a source w r other = refl
plain_so gate.PubFree a source w r other = refl
plain_so gate.PrivFree a source w r other = refl
plain_so gate.Release a source w r other = absurd (other refl)

-- such a step keeps the audit, and ends at no request
plain_end : (k : Work) (answer : GateEnd) (a : Arguments) (next : ℕ) (range : Option Range) (s s' : Registers) (m m' : Memory) (w w' : World) (r : Releasers) → IsPlain w k
    → GateStepsTo (after_work k next range s m) answer (changed s m w r) (changed s' m' w' r) → (request_of answer a ≡ None) × (w'.visible.audit ≡ w.visible.audit)
plain_end (answers n bytes v q) end.Next a next range s s' m m' w w' r plain h = (refl, ap (λ (x : Changed). x.world.visible.audit) h ∙ plain)
plain_end (answers n bytes v q) end.CoreEnd a next range s s' m m' w w' r plain h = absurd h
plain_end (answers n bytes v q) (end.Exit status) a next range s s' m m' w w' r plain h = absurd h
plain_end (answers n bytes v q) (end.Fault kind) a next range s s' m m' w w' r plain h = absurd h
plain_end (answers n bytes v q) (end.Tape class) a next range s s' m m' w w' r plain h = absurd h
plain_end (ends (runs_out class)) answer a next range s s' m m' w w' r plain h = absurd plain
plain_end (ends ends_core) end.Next a next range s s' m m' w w' r plain h = absurd h.0
plain_end (ends ends_core) end.CoreEnd a next range s s' m m' w w' r plain h = (refl, ap (λ (x : Changed). x.world.visible.audit) h.1)
plain_end (ends ends_core) (end.Exit status) a next range s s' m m' w w' r plain h = absurd h.0
plain_end (ends ends_core) (end.Fault kind) a next range s s' m m' w w' r plain h = absurd h.0
plain_end (ends ends_core) (end.Tape class) a next range s s' m m' w w' r plain h = absurd h.0
plain_end (ends (exits n)) end.Next a next range s s' m m' w w' r plain h = absurd h.0
plain_end (ends (exits n)) end.CoreEnd a next range s s' m m' w w' r plain h = absurd h.0
plain_end (ends (exits n)) (end.Exit status) a next range s s' m m' w w' r plain h = (refl, ap (λ (x : Changed). x.world.visible.audit) h.1)
plain_end (ends (exits n)) (end.Fault kind) a next range s s' m m' w w' r plain h = absurd h.0
plain_end (ends (exits n)) (end.Tape class) a next range s s' m m' w w' r plain h = absurd h.0

-- what a gate's work makes of the model
abbrev pub WorkSteps : Gate → Arguments → List ℕ → ℕ → GateEnd → Registers → Registers → Memory → Memory → World → World → Releasers → Releasers → Type 0
WorkSteps known a source next answer s s' m m' w w' before after =
    GateStepsTo (after_work (work known a source w before) next (writes known a) s m) answer (changed s m w before) (changed s' m' w' after)

abbrev some_releasers : Releasers
some_releasers = record { held = []; tapes = λ class. record { left = record { bytes = []; releases = None }; taken = 0; answered = 0 }; asked = λ class. [] }

-- a gate other than Release asks no releaser
pub plain_plays : (known : Gate) (a : Arguments) (source : List ℕ) (next : ℕ) (answer : GateEnd) (s s' : Registers) (m m' : Memory) (w w' : World) (classes : Classes) → known ≢ gate.Release
    → ((r : Releasers) → WorkSteps known a source next answer s s' m m' w w' r r)
    → Plays (request_of answer a) classes classes w.visible.audit w'.visible.audit (WorkSteps known a source next answer s s' m m' w w')
plain_plays known a source next answer s s' m m' w w' classes other steps =
    let both = plain_end (work known a source w some_releasers) answer a next (writes known a) s s' m m' w w' some_releasers (plain_so known a source w some_releasers other) (steps some_releasers) in
    let P : Option Request → List ℕ → Type 0 = λ f l. Plays f classes classes w.visible.audit l (WorkSteps known a source next answer s s' m m' w w') in
    subst₂ P (sym both.0) (sym both.1) (plays_nothing classes w.visible.audit _ (λ r held. steps r))

-- ---- the gate step

-- a gate step that faults, for the place or at a refusal
pub faults_at : (known : Gate) (kind : FaultKind) (s : Registers) (m : Memory) (w : World) (classes : Classes)
    → ((r : Releasers) → r.held ≡ held_of classes → gate_step known s m w r ≡ faults kind)
    → Plays None classes classes w.visible.audit w.visible.audit (λ before after. GateStepsTo (gate_step known s m w before) (end.Fault kind) (changed s m w before) (changed s m w after))
faults_at known kind s m w classes is = plays_nothing classes w.visible.audit _ (λ r held.
    let P : GateEffect → Type 0 = λ e. GateStepsTo e (end.Fault kind) (changed s m w r) (changed s m w r) in
    subst P (sym (is r held)) (refl, refl))

-- a gate that refuses
pub refused_at : (known : Gate) (kind : FaultKind) (at : ℕ) (s : Registers) (m : Memory) (w : World) (r : Releasers) (a : Arguments) → a ≡ arguments_of s
    → Some kind ≡ refusal m.size known a w r → from_place (Ok at) known s m w r ≡ faults kind
refused_at known kind at s m w r a is refused =
    let refused' : refusal m.size known (arguments_of s) w r ≡ Some kind = ap (λ (x : Arguments). refusal m.size known x w r) (sym is) ∙ sym refused in
    ap (λ o. unless_refused o known (at + 8) s m w r) refused'
