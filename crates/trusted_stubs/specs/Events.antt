-- What releasers were asked and answered during some steps, and how the model's tapes follow from it.
--
-- The model's releasers answer from tapes, finished lists of bytes. Real ones answer as they like. So a run is described by its
-- events: the releases that were answered, in order. Take any rest of the tapes. The model's run starts from the tapes with the
-- events' answers before that rest (`put_back`), and ends with the rest alone, having asked the events' sources (`played`).
use Rattle.std.specs.Prelude.{◌≡◌, ℕ, ◌+◌, ◌==◌, true, false, List, [], ◌∷◌, ◌++◌, length, filter, flat_map, Option, Some, None, get_or, slice_get, slice_set}
use Rattle.std.specs.Option.{option_map}
use Rattle.cv_io.specs.Releasers.{Known, HasFailed, Classes, held_of, is_held}
use Rattle.cv_word.specs.GateStep.{Releasers, TapeState, audit_entry, is_short}

-- a release that was answered: its class, the source bytes that the releaser was asked with, and the bytes that it told
pub record Event : Type 0 where
  pub class : ℕ
  pub source : List ℕ
  pub told : List ℕ

-- the events of a class; the source bytes of these, joined; the bytes told, joined
abbrev pub of_class : ℕ → List Event → List Event
of_class class events = filter (λ e. e.class == class) events

abbrev pub asked_of : ℕ → List Event → List ℕ
asked_of class events = flat_map (λ e. e.source) (of_class class events)

abbrev pub told_by : ℕ → List Event → List ℕ
told_by class events = flat_map (λ e. e.told) (of_class class events)

-- how the audit lists them
abbrev pub audit_of : List Event → List ℕ
audit_of events = flat_map (λ e. audit_entry e.class (length e.told) e.told) events

-- ---- tapes

-- the tape of a class with the answers put back before what is left of it
abbrev pub with_answers : List Event → ℕ → TapeState → TapeState
with_answers events class tape = record tape {
  left = record {
    bytes = told_by class events ++ tape.left.bytes;
    releases = option_map (λ n. length (of_class class events) + n) tape.left.releases;
  };
}

-- the position in the tape of a class behind the answers
abbrev pub behind_answers : List Event → ℕ → TapeState → TapeState
behind_answers events class tape = record tape {
  taken = tape.taken + length (told_by class events);
  answered = tape.answered + length (of_class class events);
}

abbrev pub put_back : List Event → Releasers → Releasers
put_back events later = record later { tapes = λ class. with_answers events class (later.tapes class) }

abbrev pub played : List Event → Releasers → Releasers
played events later = record later {
  tapes = λ class. behind_answers events class (later.tapes class);
  asked = λ class. later.asked class ++ asked_of class events;
}

-- ---- releasers

-- what is known of all classes after an event, and after several
abbrev pub grown : Event → Known → Known
grown e k = record k { heard = k.heard ++ e.source; told = k.told ++ e.told }

abbrev pub after_event : Event → Classes → Classes
after_event e classes = slice_set classes e.class (option_map (grown e) (get_or classes e.class None))

abbrev pub known_after : List Event → Classes → Classes
known_after [] classes = classes
known_after (e ∷ events) classes = known_after events (after_event e classes)

-- a request at which a releaser failed: its class, and its number of bytes
pub record Request : Type 0 where
  pub class : ℕ
  pub count : ℕ

-- The releaser of the class failed at it: its count has risen, and the length is kept. All else of all classes is as before.
pub record FailsAt (request : Request) (old new : Classes) : Type 0 where
  pub before : Known
  pub after : Known
  pub source : List ℕ
  pub was_held : slice_get old request.class ≡ Some (Some before)
  pub is_set : new ≡ slice_set old request.class (Some after)
  pub long : length source ≡ request.count
  pub failed : HasFailed source before after

-- ---- some steps

-- what may be left of the tapes behind some steps: where these ended with an unanswered request, too little for that
abbrev pub MayFollow : Option Request → Releasers → Type 0
MayFollow None later = Unit {0}
MayFollow (Some request) later = is_short request.count (later.tapes request.class).left ≡ true

-- what is known of the classes behind them
abbrev pub IsKnownAfter : Option Request → List Event → Classes → Classes → Type 0
IsKnownAfter None events old new = new ≡ known_after events old
IsKnownAfter (Some request) events old new = FailsAt request (known_after events old) new

-- `old` and `new` are what is known of the real releasers before and after some steps, and `Goes` relates the model's releasers before
-- and after them. Some events account for it: for any rest of the tapes that may follow, the model goes from the answers put back to
-- the answers played; the audit grew by the events; only classes that have a releaser answered; and what is known grew by the events,
-- and by the failed request if there is one.
pub record Plays (failure : Option Request) (old new : Classes) (audit audit' : List ℕ) (Goes : Releasers → Releasers → Type 0) : Type 0 where
  pub events : List Event
  pub goes : (later : Releasers) → later.held ≡ held_of old → MayFollow failure later → Goes (put_back events later) (played events later)
  pub listed : audit' ≡ audit ++ audit_of events
  pub served : (class : ℕ) → is_held (held_of old) class ≡ false → of_class class events ≡ []
  pub known : IsKnownAfter failure events old new
