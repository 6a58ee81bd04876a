-- Releasers: what each was asked and answered, and the releasers of all classes.
use Rattle.std.specs.Prelude.{◌≡◌, ℕ, ◌≤◌, Bool, false, List, [], ◌++◌, Option, Some, Result, Ok, Err, map, length, get_or, slice_get, slice_set, is_some}
use Rattle.std.specs.Option.{option_map}
use Rattle.cv_io.specs.Counts.{HasRisen}

-- what is known of a releaser
pub record Known : Type 0 where
  -- all bytes that it was asked with, by the releases that succeeded
  pub heard : List ℕ
  -- all bytes that it answered
  pub told : List ℕ
  -- how many bytes the last request that failed had, or 0 before one
  pub failed_len : ℕ
  -- how many releases have failed
  pub faults : ℕ

-- what is known of one that nobody has asked
abbrev pub unasked : Known
unasked = record { heard = []; told = []; failed_len = 0; faults = 0 }

-- a release that was asked with these bytes has failed
pub record HasFailed (from : List ℕ) (old new : Known) : Type 0 where
  pub heard_stays : new.heard ≡ old.heard
  pub told_stays : new.told ≡ old.told
  pub len_is_kept : new.failed_len ≡ length from
  pub risen : HasRisen old.faults new.faults
  pub counted : old.faults ≤ new.faults

-- a release was asked with the first bytes, and has ended with this answer and the second bytes
abbrev pub Releases : {T E : Type 0} → Result T E → List ℕ → List ℕ → Known → Known → Type 0
Releases (Ok _) from to old new = new ≡ record old { heard = old.heard ++ from; told = old.told ++ to }
Releases (Err _) from to old new = HasFailed from old new

-- what is known of the releaser of each class, where the class has one
abbrev pub Classes : Type 0
Classes = List (Option Known)

-- that, of a list of releasers of which this is known
abbrev pub classes_by : {R : Type 0} → (R → Known) → List (Option R) → Classes
classes_by known releasers = map (option_map known) releasers

-- which classes have a releaser
abbrev pub held_of : Classes → List Bool
held_of classes = map is_some classes

-- the class has a releaser; one past the list has none
abbrev pub is_held : List Bool → ℕ → Bool
is_held held class = get_or held class false

-- the releaser of an entry was asked with the first bytes, and has ended with this answer and the second bytes
pub record AsksEntry {T E : Type 0} (answer : Result T E) (from to : List ℕ) (old new : Option Known) : Type 0 where
  pub before : Known
  pub after : Known
  pub was : old ≡ Some before
  pub is : new ≡ Some after
  pub releases : Releases answer from to before after

-- the releaser of the class was so asked, and no other entry has changed
pub record Asks {T E : Type 0} (answer : Result T E) (class : ℕ) (from to : List ℕ) (old new : Classes) : Type 0 where
  pub before : Known
  pub after : Known
  pub was_held : slice_get old class ≡ Some (Some before)
  pub releases : Releases answer from to before after
  pub is_set : new ≡ slice_set old class (Some after)
