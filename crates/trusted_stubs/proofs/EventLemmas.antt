-- Events that are put back and played, one list after another.
use Rattle.std.proofs.Common.{◌≡◌, ◌∙◌, ℕ, zero, suc, ◌+◌, arith, add_assoc, cond, eqb, eq-eqb, eqb-true, true, false, List, [], ◌∷◌, ◌++◌, append_assoc, append-nil, length, length-append, length-set, Option, Some, None, get_or, slice_get, slice_set, is_some, refl, sym, ap, ap₂, subst, subst₂, flat_map, inl, inr, Bool}
use borrow.Author.Tests.{eqb-false}
use Rattle.std.specs.Option.{option_map}
use Rattle.std.proofs.Math.Path.{fun_ext}
use Rattle.std.proofs.Math.Seq.{map-set_same}
use Rattle.std.proofs.lemmas.Bool.{cases_Bool}
use Rattle.std.proofs.lemmas.List.Elements.{filter-append}
use Rattle.std.proofs.lemmas.Grind.{flat_map-append}
use Rattle.cv_word.specs.GateStep.{Releasers, TapeState, audit_entry}
use Rattle.cv_io.specs.Releasers.{Known, Classes, held_of, is_held}
use Rattle.trusted_stubs.specs.Events.{Event, Request, Plays, FailsAt, IsKnownAfter, MayFollow, after_event, asked_of, audit_of, behind_answers, grown, known_after, of_class, played, put_back, told_by, with_answers}

-- ---- lists of events

pub of_class-append : (class : ℕ) (es fs : List Event) → of_class class (es ++ fs) ≡ of_class class es ++ of_class class fs
of_class-append class es fs = filter-append _ es fs

length-of_class-append : (class : ℕ) (es fs : List Event) → length (of_class class (es ++ fs)) ≡ length (of_class class es) + length (of_class class fs)
length-of_class-append class es fs = ap length (of_class-append class es fs) ∙ length-append (of_class class es) (of_class class fs)

pub told_by-append : (class : ℕ) (es fs : List Event) → told_by class (es ++ fs) ≡ told_by class es ++ told_by class fs
told_by-append class es fs = ap (flat_map (λ e. e.told)) (of_class-append class es fs) ∙ flat_map-append _ (of_class class es) (of_class class fs)

pub asked_of-append : (class : ℕ) (es fs : List Event) → asked_of class (es ++ fs) ≡ asked_of class es ++ asked_of class fs
asked_of-append class es fs = ap (flat_map (λ e. e.source)) (of_class-append class es fs) ∙ flat_map-append _ (of_class class es) (of_class class fs)

pub audit_of-append : (es fs : List Event) → audit_of (es ++ fs) ≡ audit_of es ++ audit_of fs
audit_of-append es fs = flat_map-append (λ (e : Event). audit_entry e.class (length e.told) e.told) es fs

-- ---- tapes

abbrev tape : List ℕ → Option ℕ → ℕ → ℕ → TapeState
tape bytes releases taken answered = record { left = record { bytes = bytes; releases = releases }; taken = taken; answered = answered }

same_tape : (b b' : List ℕ) (n n' : Option ℕ) (t t' a a' : ℕ) → b ≡ b' → n ≡ n' → t ≡ t' → a ≡ a' → tape b n t a ≡ tape b' n' t' a'
same_tape b b' n n' t t' a a' p q r s = cc

more_releases : (m n k : ℕ) (o : Option ℕ) → k ≡ m + n → option_map (λ x. k + x) o ≡ option_map (λ x. m + x) (option_map (λ x. n + x) o)
more_releases m n k None e = refl
more_releases m n k (Some x) e = ap Some (ap (λ y. y + x) e ∙ add_assoc m n x)

no_more_releases : (o : Option ℕ) → option_map (λ x. 0 + x) o ≡ o
no_more_releases None = refl
no_more_releases (Some x) = let e : 0 + x ≡ x = omega arith in ap Some e

with_answers-append : (es fs : List Event) (class : ℕ) (t : TapeState) → with_answers (es ++ fs) class t ≡ with_answers es class (with_answers fs class t)
with_answers-append es fs class t =
    same_tape _ _ _ _ _ _ _ _
    (ap (λ bytes. bytes ++ t.left.bytes) (told_by-append class es fs) ∙ append_assoc (told_by class es) (told_by class fs) t.left.bytes)
    (more_releases (length (of_class class es)) (length (of_class class fs)) (length (of_class class (es ++ fs))) t.left.releases (length-of_class-append class es fs))
    refl refl

behind_answers-append : (es fs : List Event) (class : ℕ) (t : TapeState) → behind_answers (es ++ fs) class t ≡ behind_answers fs class (behind_answers es class t)
behind_answers-append es fs class t =
    let told : length (told_by class (es ++ fs)) ≡ length (told_by class es) + length (told_by class fs) =
    ap length (told_by-append class es fs) ∙ length-append (told_by class es) (told_by class fs) in
    let count = length-of_class-append class es fs in
    same_tape _ _ _ _ _ _ _ _ refl refl (omega arith) (omega arith)

-- ---- releasers

same_releasers : (r : Releasers) (tapes tapes' : ℕ → TapeState) (asked asked' : ℕ → List ℕ) → tapes ≡ tapes' → asked ≡ asked' →
    record r { tapes = tapes; asked = asked } ≡ record r { tapes = tapes'; asked = asked' }
same_releasers r tapes tapes' asked asked' p q = ap₂ (λ t a. record r { tapes = t; asked = a }) p q

-- answers put back, and then those before them
pub put_back-append : (es fs : List Event) (later : Releasers) → put_back (es ++ fs) later ≡ put_back es (put_back fs later)
put_back-append es fs later = ap (λ tapes. record later { tapes = tapes }) (fun_ext λ class. with_answers-append es fs class (later.tapes class))

-- answers played, and then those behind them
pub played-append : (es fs : List Event) (later : Releasers) → played (es ++ fs) later ≡ played fs (played es later)
played-append es fs later =
    same_releasers later _ _ _ _
    (fun_ext λ class. behind_answers-append es fs class (later.tapes class))
    (fun_ext λ class. ap (λ bytes. later.asked class ++ bytes) (asked_of-append class es fs) ∙ sym (append_assoc (later.asked class) (asked_of class es) (asked_of class fs)))

-- those played first don't meet those put back behind them
pub played-put_back : (es fs : List Event) (later : Releasers) → played es (put_back fs later) ≡ put_back fs (played es later)
played-put_back es fs later = refl

pub nothing_put_back : (later : Releasers) → put_back [] later ≡ later
nothing_put_back later =
    ap (λ tapes. record later { tapes = tapes }) (fun_ext λ class.
    let t = later.tapes class in
    same_tape _ _ _ _ _ _ _ _ refl (no_more_releases t.left.releases) refl refl)

pub nothing_played : (later : Releasers) → played [] later ≡ later
nothing_played later =
    same_releasers later _ _ _ _
    (fun_ext λ class. same_tape _ _ _ _ _ _ _ _ refl refl (omega arith) (omega arith))
    (fun_ext λ class. append-nil (later.asked class))

-- ---- what is known

pub known_after-append : (es fs : List Event) (classes : Classes) → known_after (es ++ fs) classes ≡ known_after fs (known_after es classes)
known_after-append [] fs classes = refl
known_after-append (e ∷ es) fs classes = known_after-append es fs (after_event e classes)

same_is_some : (e : Event) (o : Option Known) → is_some (option_map (grown e) o) ≡ is_some o
same_is_some e None = refl
same_is_some e (Some k) = refl

held_of-after_event : (e : Event) (classes : Classes) → held_of (after_event e classes) ≡ held_of classes
held_of-after_event e classes = map-set_same is_some classes e.class (option_map (grown e) (get_or classes e.class None)) None (same_is_some e (get_or classes e.class None))

-- no class gets or loses a releaser
pub held_of-known_after : (es : List Event) (classes : Classes) → held_of (known_after es classes) ≡ held_of classes
held_of-known_after [] classes = refl
held_of-known_after (e ∷ es) classes = held_of-known_after es (after_event e classes) ∙ held_of-after_event e classes

pub length-known_after : (es : List Event) (classes : Classes) → length (known_after es classes) ≡ length classes
length-known_after [] classes = refl
length-known_after (e ∷ es) classes = length-known_after es (after_event e classes) ∙ length-set classes e.class _

-- what is known of a releaser of this class after them
abbrev pub known_by : List Event → ℕ → Known → Known
known_by es class known = record known { heard = known.heard ++ asked_of class es; told = known.told ++ told_by class es }

same_known : (k : Known) (h h' t t' : List ℕ) → h ≡ h' → t ≡ t' → ◌≡◌ {A = Known} (record k { heard = h; told = t }) (record k { heard = h'; told = t' })
same_known k h h' t t' p q = ap₂ (λ x y. record k { heard = x; told = y }) p q

same_maps : {A B : Type 0} (f g : A → B) (o : Option A) → ((a : A) → f a ≡ g a) → option_map f o ≡ option_map g o
same_maps f g None h = refl
same_maps f g (Some a) h = ap Some (h a)

both_maps : {A B C : Type 0} (f : A → B) (g : B → C) (h : A → C) (o : Option A) → ((a : A) → g (f a) ≡ h a) → option_map g (option_map f o) ≡ option_map h o
both_maps f g h None e = refl
both_maps f g h (Some a) e = ap Some (e a)

id_map : {A : Type 0} (f : A → A) (o : Option A) → ((a : A) → f a ≡ a) → option_map f o ≡ o
id_map f None h = refl
id_map f (Some a) h = ap Some (h a)

set_here : (f : Known → Known) (xs : Classes) (k : ℕ) → slice_get (slice_set xs k (option_map f (get_or xs k None))) k ≡ option_map (option_map f) (slice_get xs k)
set_here f [] k = refl
set_here f (x ∷ xs) zero = refl
set_here f (x ∷ xs) (suc k) = set_here f xs k

set_there : (xs : Classes) (i k : ℕ) (x : Option Known) → (i ≡ k → ⊥) → slice_get (slice_set xs i x) k ≡ slice_get xs k
set_there [] i k x ne = refl
set_there (y ∷ xs) zero zero x ne = absurd (ne refl)
set_there (y ∷ xs) zero (suc k) x ne = refl
set_there (y ∷ xs) (suc i) zero x ne = refl
set_there (y ∷ xs) (suc i) (suc k) x ne = set_there xs i k x (λ e. ne (ap suc e))

-- the first event is of this class, or of another
first_here : (e : Event) (es : List Event) (known : Known) → known_by es e.class (grown e known) ≡ known_by (e ∷ es) e.class known
first_here e es known =
    let here : eqb e.class e.class ≡ true = eq-eqb e.class e.class refl in
    let heard : asked_of e.class (e ∷ es) ≡ e.source ++ asked_of e.class es = ap (λ b. flat_map (λ x. x.source) (cond b (e ∷ of_class e.class es) (of_class e.class es))) here in
    let told : told_by e.class (e ∷ es) ≡ e.told ++ told_by e.class es = ap (λ b. flat_map (λ x. x.told) (cond b (e ∷ of_class e.class es) (of_class e.class es))) here in
    same_known known _ _ _ _
    (append_assoc known.heard e.source (asked_of e.class es) ∙ ap (λ l. known.heard ++ l) (sym heard))
    (append_assoc known.told e.told (told_by e.class es) ∙ ap (λ l. known.told ++ l) (sym told))

first_there : (e : Event) (es : List Event) (class : ℕ) (known : Known) → eqb e.class class ≡ false → known_by es class known ≡ known_by (e ∷ es) class known
first_there e es class known other =
    let heard : asked_of class (e ∷ es) ≡ asked_of class es = ap (λ b. flat_map (λ x. x.source) (cond b (e ∷ of_class class es) (of_class class es))) other in
    let told : told_by class (e ∷ es) ≡ told_by class es = ap (λ b. flat_map (λ x. x.told) (cond b (e ∷ of_class class es) (of_class class es))) other in
    same_known known _ _ _ _ (ap (λ l. known.heard ++ l) (sym heard)) (ap (λ l. known.told ++ l) (sym told))

after_first : (e : Event) (es : List Event) (classes : Classes) (class : ℕ) → option_map (option_map (known_by es class)) (slice_get (after_event e classes) class) ≡ option_map (option_map (known_by (e ∷ es) class)) (slice_get classes class)
after_first e es classes class = elim (cases_Bool (eqb e.class class)) [
  | inl same ↦
      let P : ℕ → Type 0 = λ k. option_map (option_map (known_by es k)) (slice_get (after_event e classes) k) ≡ option_map (option_map (known_by (e ∷ es) k)) (slice_get classes k) in
      subst P (eqb-true e.class class same)
      (ap (option_map (option_map (known_by es e.class))) (set_here (grown e) classes e.class)
      ∙ both_maps _ _ _ (slice_get classes e.class) (λ o. both_maps _ _ _ o (first_here e es)))
  | inr other ↦
      ap (option_map (option_map (known_by es class))) (set_there classes e.class class _ (eqb-false e.class class other))
      ∙ same_maps _ _ (slice_get classes class) (λ o. same_maps _ _ o (λ known. first_there e es class known other))
]

-- by class, both lists have grown by the answers, and the counts are as before
pub slice_get-known_after : (es : List Event) (classes : Classes) (class : ℕ) → slice_get (known_after es classes) class ≡ option_map (option_map (known_by es class)) (slice_get classes class)
slice_get-known_after [] classes class = sym (id_map _ (slice_get classes class) (λ o. id_map _ o (λ known. same_known known _ _ _ _ (append-nil known.heard) (append-nil known.told))))
slice_get-known_after (e ∷ es) classes class = slice_get-known_after es (after_event e classes) class ∙ after_first e es classes class

-- ---- some steps, and more of them

may_follow-played : (failure : Option Request) (es : List Event) (later : Releasers) → MayFollow failure later → MayFollow failure (played es later)
may_follow-played None es later h = tt
may_follow-played (Some request) es later h = h

known_on : (failure : Option Request) (es fs : List Event) (a b c : Classes) → b ≡ known_after es a → IsKnownAfter failure fs b c → IsKnownAfter failure (es ++ fs) a c
known_on None es fs a b c e h = h ∙ ap (known_after fs) e ∙ sym (known_after-append es fs a)
known_on (Some request) es fs a b c e h =
    subst (λ (k : Classes). FailsAt request k c) (ap (known_after fs) e ∙ sym (known_after-append es fs a)) h

-- steps without a failure, and steps behind them
pub plays_on : (failure : Option Request) (a b c : Classes) (x y z : List ℕ) (Goes Goes' Goes'' : Releasers → Releasers → Type 0)
    → ((r s t : Releasers) → Goes r s → Goes' s t → Goes'' r t) → Plays None a b x y Goes → Plays failure b c y z Goes' → Plays failure a c x z Goes''
plays_on failure a b c x y z Goes Goes' Goes'' chain p q =
    let es = p.events in
    let fs = q.events in record {
      events = es ++ fs;
      goes = λ later held may.
          let held' : later.held ≡ held_of b = held ∙ sym (held_of-known_after es a) ∙ ap held_of (sym p.known) in
          subst₂ Goes'' (sym (put_back-append es fs later)) (sym (played-append es fs later))
          (chain (put_back es (put_back fs later)) (put_back fs (played es later)) (played fs (played es later))
          (p.goes (put_back fs later) held tt)
          (q.goes (played es later) held' (may_follow-played failure es later may)));
      listed = q.listed ∙ ap (λ l. l ++ audit_of fs) p.listed ∙ append_assoc x (audit_of es) (audit_of fs) ∙ ap (λ l. x ++ l) (sym (audit_of-append es fs));
      served = λ class unheld.
          let unheld' : is_held (held_of b) class ≡ false = ap (λ (held : List Bool). is_held held class) (ap held_of p.known ∙ held_of-known_after es a) ∙ unheld in
          of_class-append class es fs ∙ ap₂ (λ (l m : List Event). l ++ m) (p.served class unheld) (q.served class unheld');
      known = known_on failure es fs a b c p.known q.known;
    }

-- a step during which no releaser is asked
pub plays_nothing : (classes : Classes) (audit : List ℕ) (Goes : Releasers → Releasers → Type 0)
    → ((r : Releasers) → r.held ≡ held_of classes → Goes r r) → Plays None classes classes audit audit Goes
plays_nothing classes audit Goes goes = record {
  events = [];
  goes = λ later held may. subst₂ Goes (sym (nothing_put_back later)) (sym (nothing_played later)) (goes later held);
  listed = sym (append-nil audit);
  served = λ class unheld. refl;
  known = refl;
}

-- what follows of the model's steps follows of all that plays them
pub plays_as : (failure : Option Request) (old new : Classes) (audit audit' : List ℕ) (Goes Goes' : Releasers → Releasers → Type 0)
    → ((r s : Releasers) → r.held ≡ held_of old → Goes r s → Goes' r s) → Plays failure old new audit audit' Goes → Plays failure old new audit audit' Goes'
plays_as failure old new audit audit' Goes Goes' follows p = record {
  events = p.events;
  goes = λ later held may. follows (put_back p.events later) (played p.events later) held (p.goes later held may);
  listed = p.listed;
  served = p.served;
  known = p.known;
}
