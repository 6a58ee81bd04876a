-- The tapes of a run, by what the releasers answered in it.
use Rattle.std.proofs.Common.{◌≡◌, ◌∙◌, ℕ, zero, suc, ◌+◌, arith, cond, eqb, Bool, true, false, List, [], ◌∷◌, ◌++◌, append-nil, length, map, Option, Some, None, unwrap_or, slice_get, is_some, refl, sym, ap, ap₂, subst, flat_map, inl, inr}
use Rattle.std.specs.Option.{option_map}
use Rattle.std.proofs.Math.Path.{fun_ext}
use Rattle.std.proofs.lemmas.Bool.{cases_Bool}
use Rattle.std.proofs.Math.Seq.{map-set_same}
use Rattle.std.proofs.lemmas.Option.{get_or_from_slice_get, none-some, same_Some, slice_get-map}
use Rattle.cv_word.specs.Words.{AreBytes, word_bytes}
use Rattle.cv_word.specs.GateStep.{Releasers, Tape, TapeState, audit_entry, is_short}
use Rattle.cv_io.specs.Releasers.{Classes, held_of, is_held}
use Rattle.ni_laws.proofs.Bytes.{left_bytes, right_bytes, append_bytes}
use Rattle.trusted_stubs.specs.Events.{Event, Request, IsKnownAfter, MayFollow, audit_of, known_after, of_class, put_back, told_by, with_answers}
use Rattle.trusted_stubs.proofs.EventLemmas.{held_of-known_after}
use Rattle.x64_machine.specs.Start.{fresh_tape, start_releasers}
use Rattle.x64_machine.proofs.GateLemmas.{nothing_follows}
use Rattle.confllvm_top.specs.Released.{tape_of, tapes_from}

-- ---- lists of tapes

-- the tape of a class, if it has a releaser
abbrev tape_if : Bool → List Event → ℕ → Bool → Option Tape
tape_if limited events class held = cond held (Some (tape_of limited events class)) None

slice_get-tapes_from : (limited : Bool) (events : List Event) (first : ℕ) (held : List Bool) (class : ℕ)
    → slice_get (tapes_from limited events first held) class ≡ option_map (tape_if limited events (first + class)) (slice_get held class)
slice_get-tapes_from limited events first [] class = refl
slice_get-tapes_from limited events first (h ∷ hs) zero =
    let e : first ≡ first + 0 = omega arith in ap (λ (n : ℕ). Some (tape_if limited events n h)) e
slice_get-tapes_from limited events first (h ∷ hs) (suc class) =
    let e : suc first + class ≡ first + suc class = omega arith in
    slice_get-tapes_from limited events (suc first) hs class ∙ ap (λ (n : ℕ). option_map (tape_if limited events n) (slice_get hs class)) e

-- of class 0 on
all_tapes : (limited : Bool) (events : List Event) (held : List Bool) (class : ℕ) → slice_get (tapes_from limited events 0 held) class ≡ option_map (tape_if limited events class) (slice_get held class)
all_tapes limited events held class =
    let e : 0 + class ≡ class = omega arith in
    slice_get-tapes_from limited events 0 held class ∙ ap (λ (n : ℕ). option_map (tape_if limited events n) (slice_get held class)) e

same_held : (limited : Bool) (events : List Event) (class : ℕ) (h : Bool) → is_some (tape_if limited events class h) ≡ h
same_held limited events class true = refl
same_held limited events class false = refl

held_of-tapes_from : (limited : Bool) (events : List Event) (first : ℕ) (held : List Bool) → map is_some (tapes_from limited events first held) ≡ held
held_of-tapes_from limited events first [] = refl
held_of-tapes_from limited events first (h ∷ hs) = ap₂ (λ x l. x ∷ l) (same_held limited events first h) (held_of-tapes_from limited events (suc first) hs)

-- ---- what is left behind the answers

abbrev pub rest_releases : Bool → Option Bool → Option ℕ
rest_releases limited None = None
rest_releases limited (Some false) = None
rest_releases limited (Some true) = cond limited (Some 0) None

-- nothing; where the tapes are limited, no more releases either
abbrev pub rest : Bool → List Bool → Releasers
rest limited held = record {
  held = held;
  tapes = λ class. record { left = record { bytes = []; releases = rest_releases limited (slice_get held class) }; taken = 0; answered = 0 };
  asked = λ class. [];
}

abbrev fresh : List ℕ → Option ℕ → TapeState
fresh bytes releases = record { left = record { bytes = bytes; releases = releases }; taken = 0; answered = 0 }

held_by : (held : List Bool) (class : ℕ) → is_held held class ≡ unwrap_or (slice_get held class) false
held_by [] class = refl
held_by (h ∷ hs) zero = refl
held_by (h ∷ hs) (suc class) = held_by hs class

nothing_told : (events : List Event) (class : ℕ) → of_class class events ≡ [] → told_by class events ++ [] ≡ []
nothing_told events class none = ap (λ (l : List Event). flat_map (λ e. e.told) l ++ []) none

limit_again : (limited : Bool) (n : ℕ) → option_map (λ x. n + x) (cond limited (Some 0) None) ≡ cond limited (Some n) None
limit_again true n = let e : n + 0 ≡ n = omega arith in ap Some e
limit_again false n = refl

one_class : (limited : Bool) (events : List Event) (class : ℕ) (o : Option Bool) → (unwrap_or o false ≡ false → of_class class events ≡ [])
    → with_answers events class (record { left = record { bytes = []; releases = rest_releases limited o }; taken = 0; answered = 0 })
    ≡ fresh_tape (option_map (tape_if limited events class) o)
one_class limited events class None none = ap (λ (b : List ℕ). fresh b None) (nothing_told events class (none refl))
one_class limited events class (Some false) none = ap (λ (b : List ℕ). fresh b None) (nothing_told events class (none refl))
one_class limited events class (Some true) none = ap₂ fresh (append-nil (told_by class events)) (limit_again limited (length (of_class class events)))

-- a start with the tapes is one from the rest with the answers put back
pub begins_with : (limited : Bool) (events : List Event) (held : List Bool) → ((class : ℕ) → is_held held class ≡ false → of_class class events ≡ [])
    → put_back events (rest limited held) ≡ start_releasers (tapes_from limited events 0 held)
begins_with limited events held served =
    let same : (class : ℕ) → with_answers events class ((rest limited held).tapes class) ≡ fresh_tape (slice_get (tapes_from limited events 0 held) class) =
    λ class. one_class limited events class (slice_get held class) (λ e. served class (held_by held class ∙ e))
    ∙ ap fresh_tape (sym (all_tapes limited events held class)) in
    ap₂ (λ (h : List Bool) (t : ℕ → TapeState). record { held = h; tapes = t; asked = λ class. [] }) (sym (held_of-tapes_from limited events 0 held)) (fun_ext same)

-- a releaser that failed is held, so its tape is limited
still_held : (events : List Event) (old : Classes) (class : ℕ) (k : _) → slice_get (known_after events old) class ≡ Some (Some k) → slice_get (held_of old) class ≡ Some true
still_held events old class k was =
    ap (λ (l : List Bool). slice_get l class) (sym (held_of-known_after events old)) ∙ slice_get-map is_some (known_after events old) class ∙ ap (option_map is_some) was

pub rest_follows : (failure : Option Request) (events : List Event) (old new : Classes) → IsKnownAfter failure events old new → MayFollow failure (rest (is_some failure) (held_of old))
rest_follows None events old new known = tt
rest_follows (Some request) events old new known =
    subst (λ (o : Option Bool). is_short request.count (record { bytes = []; releases = rest_releases true o }) ≡ true)
    (sym (still_held events old request.class known.before known.was_held)) (nothing_follows (Some request) old)

-- ---- bytes

entry_told : (class count : ℕ) (told rest : List ℕ) → AreBytes (audit_entry class count told ++ rest) → AreBytes told
entry_told class count told rest are =
    right_bytes (word_bytes 4 count) told (right_bytes (word_bytes 4 class) (word_bytes 4 count ++ told) (left_bytes (audit_entry class count told) rest are))

pub told_bytes : (events : List Event) (class : ℕ) → AreBytes (audit_of events) → AreBytes (told_by class events)
told_bytes [] class are = are
told_bytes (e ∷ es) class are =
    let later : AreBytes (told_by class es) = told_bytes es class (right_bytes (audit_entry e.class (length e.told) e.told) (audit_of es) are) in
    let first : AreBytes e.told = entry_told e.class (length e.told) e.told (audit_of es) are in
    elim (cases_Bool (eqb e.class class)) [
      | inl same ↦ subst (λ (b : Bool). AreBytes (flat_map (λ (x : Event). x.told) (cond b (e ∷ of_class class es) (of_class class es)))) (sym same) (append_bytes e.told (told_by class es) first later)
      | inr other ↦ subst (λ (b : Bool). AreBytes (flat_map (λ (x : Event). x.told) (cond b (e ∷ of_class class es) (of_class class es)))) (sym other) later
    ]

tape_is : (limited : Bool) (events : List Event) (class : ℕ) (o : Option Bool) (tape : Tape) → option_map (tape_if limited events class) o ≡ Some (Some tape) → tape.bytes ≡ told_by class events
tape_is limited events class None tape e = absurd (none-some (Some tape) e)
tape_is limited events class (Some false) tape e = absurd (none-some tape (same_Some None (Some tape) e))
tape_is limited events class (Some true) tape e =
    sym (ap (λ (t : Tape). t.bytes) (same_Some (tape_of limited events class) tape (same_Some (Some (tape_of limited events class)) (Some tape) e)))

pub tapes_are_bytes : (limited : Bool) (events : List Event) (held : List Bool) → AreBytes (audit_of events) → (class : ℕ) (tape : Tape)
    → slice_get (tapes_from limited events 0 held) class ≡ Some (Some tape) → AreBytes tape.bytes
tapes_are_bytes limited events held are class tape e =
    subst (λ (l : List ℕ). AreBytes l) (sym (tape_is limited events class (slice_get held class) tape (sym (all_tapes limited events held class) ∙ e)))
    (told_bytes events class are)

-- ---- which classes have a releaser

pub same_classes : (failure : Option Request) (events : List Event) (old new : Classes) → IsKnownAfter failure events old new → held_of new ≡ held_of old
same_classes None events old new known = ap held_of known ∙ held_of-known_after events old
same_classes (Some request) events old new known =
    ap held_of known.is_set
    ∙ map-set_same is_some (known_after events old) request.class (Some known.after) None (ap is_some (sym (get_or_from_slice_get (known_after events old) request.class _ None known.was_held)))
    ∙ held_of-known_after events old
