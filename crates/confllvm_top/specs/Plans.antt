-- What a command means to tell, in this order: bytes that are put to `out`, in one put or by lines; files that are saved; bytes that are
-- put to `err`.
use Rattle.std.specs.Prelude.{◌≡◌, ◌⊎◌, ℕ, List, [], ◌∷◌, take, Option, Some, slice_get}
use Rattle.cv_io.specs.Counts.{HasRisen}
use Rattle.cv_io.specs.Files.{Files, files_with}
use Rattle.confllvm_top.specs.declared.status.Status.{Status}
use Rattle.confllvm_top.specs.declared.status.Status.TheVariants.{StoreFault, SinkFault, NoMemory}
use Rattle.confllvm_top.specs.Lines.{no_memory_line, store_fault_line}
use Rattle.confllvm_top.specs.Streams.{Stream, HasGot, HasGotNothing, HasGotFront, HasGotLines, MayHaveGot}

-- a file that is saved under a name
pub record Saving : Type 0 where
  pub name : List ℕ
  pub bytes : List ℕ

pub record Plan : Type 0 where
  pub out : List ℕ
  pub saves : List Saving
  pub err : List ℕ

-- a line to `out`, or one to `err`, and nothing else
abbrev pub line_out : List ℕ → Plan
line_out line = record { out = line; saves = []; err = [] }

abbrev pub line_err : List ℕ → Plan
line_err line = record { out = []; saves = []; err = line }

-- ---- the store

-- A store before and after a call, as it is seen: its files, where it tells them, and its count of faults.
pub record Shelf : Type 0 where
  pub files_before : Option Files
  pub files : Option Files
  pub faults_before : ℕ
  pub faults : ℕ

abbrev pub shelf : {T : Type 0} → (T → Option Files) → (T → ℕ) → T → T → Shelf
shelf contents faults before after = record {
  files_before = contents before;
  files = contents after;
  faults_before = faults before;
  faults = faults after;
}

-- the files after these were saved, one after another
abbrev pub saved : List Saving → Option Files → Option Files
saved [] told = told
saved (saving ∷ savings) told = saved savings (files_with told saving.name saving.bytes)

-- these were saved, and no other file has changed
abbrev pub HasSaved : List Saving → Shelf → Type 0
HasSaved savings s = s.files ≡ saved savings s.files_before

abbrev pub HasFaulted : Shelf → Type 0
HasFaulted s = HasRisen s.faults_before s.faults

-- ---- how a plan ends

-- all is told
pub record IsTold (plan : Plan) (out err : Stream) (s : Shelf) : Type 0 where
  pub has_put : HasGot plan.out out
  pub has_saved : HasSaved plan.saves s
  pub has_told : HasGot plan.err err

-- a put failed: there is a front of the bytes, and nothing was put or saved behind it
abbrev pub IsCutOff : Plan → Stream → Stream → Shelf → Type 0
IsCutOff plan out err s =
    (HasGotFront plan.out out × HasSaved [] s × HasGotNothing err)
    ⊎ (HasGot plan.out out × HasSaved plan.saves s × HasGotFront plan.err err)

-- so many of the files were saved, after all was put to `out`
pub record HasSavedFront (plan : Plan) (count : ℕ) (out : Stream) (s : Shelf) : Type 0 where
  pub has_put : HasGot plan.out out
  pub has_saved : HasSaved (take count plan.saves) s

-- a save failed, after which nothing was put or saved but the line of that
pub record IsUnsaved (plan : Plan) (out err : Stream) (s : Shelf) : Type 0 where
  pub count : ℕ
  pub saving : Saving
  pub is_next : slice_get plan.saves count ≡ Some saving
  pub front : HasSavedFront plan count out s
  pub faulted : HasFaulted s
  pub tells : MayHaveGot (store_fault_line saving.name) err

-- Less than all was put to `out`: nothing, or whole lines of a plan that tells by lines to `out` alone.
abbrev pub HasGotLess : Plan → Stream → Type 0
HasGotLess plan out = HasGotNothing out ⊎ ((plan.err ≡ []) × HasGotLines plan.out out)

-- memory was refused: before all was put to `out`, or behind that and so many saves
abbrev pub RanOut : Plan → Stream → Stream → Shelf → Type 0
RanOut plan out err s =
    MayHaveGot no_memory_line err
    × ((HasGotLess plan out × HasSaved [] s) ⊎ ((count : ℕ) × HasSavedFront plan count out s))

-- A plan that tells a status is carried out, and this is answered.
abbrev pub PlanEnds : Status → Status → Plan → Stream → Stream → Shelf → Type 0
PlanEnds result status plan out err s =
    ((result ≡ status) × IsTold plan out err s)
    ⊎ ((result ≡ SinkFault) × IsCutOff plan out err s)
    ⊎ ((result ≡ StoreFault) × IsUnsaved plan out err s)
    ⊎ ((result ≡ NoMemory) × RanOut plan out err s)
