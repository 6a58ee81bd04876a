-- A store in memory: its files, and the calls at which it fails. Loads and saves are numbered together from 1.
use Rattle.std.specs.Prelude.{◌≡◌, ◌<◌, ℕ, List, Result, Ok, Err, Some, Contains, length}
use Rattle.std.specs.List.{find}
use Rattle.std.specs.Option.{option_map}
use Rattle.std.specs.Str.{bytes_eq}
use Rattle.std.specs.String.{string_bytes}
use Rattle.cv_io.specs.declared.memory_store.File.{File}
use Rattle.cv_io.specs.declared.memory_store.MemStore.{MemStore}
use Rattle.cv_io.specs.declared.store.StoreError.{StoreError}
use Rattle.cv_io.specs.declared.store.StoreError.TheVariants.{Failed}
use Rattle.cv_io.specs.declared.store.TheConstants.{LONGEST_LOAD}
use Rattle.cv_io.specs.Counts.{one_more}
use Rattle.cv_io.specs.Files.{Files, with_file}

-- what a store in memory shows
pub record StoreInMemory : Type 0 where
  pub files : Files
  -- the numbers of the calls that fail
  pub failing : List ℕ
  -- how many calls there were
  pub calls : ℕ
  pub faults : ℕ

-- the bytes of the file in a list that has the name
abbrev pub files_of : List File → Files
files_of files = λ name. option_map (λ file. file.bytes.items) (find (λ file. bytes_eq name (string_bytes file.name)) files)

abbrev pub store_of : MemStore → StoreInMemory
store_of store = record {
  files = files_of store.files.items;
  failing = store.failing.items;
  calls = store.calls;
  faults = store.faults;
}

-- the next load or save is one that fails
abbrev pub FailsNext : StoreInMemory → Type 0
FailsNext store = Contains store.failing (one_more store.calls)

-- there is a file of this name, longer than a load answers
pub record IsTooLong (files : Files) (name : List ℕ) : Type 0 where
  pub bytes : List ℕ
  pub has : files name ≡ Some bytes
  pub long : LONGEST_LOAD < length bytes

-- after a call
abbrev pub called : StoreInMemory → StoreInMemory
called store = record store { calls = one_more store.calls }

-- after a call that failed
abbrev pub called_in_vain : StoreInMemory → StoreInMemory
called_in_vain store = record store { calls = one_more store.calls; faults = one_more store.faults }

-- after a call that answers this, and changes no file
abbrev pub answered : {T : Type 0} → Result T StoreError → StoreInMemory → StoreInMemory
answered (Err Failed) store = called_in_vain store
answered _ store = called store

-- after a save that answers this
abbrev pub after_save : {T : Type 0} → Result T StoreError → List ℕ → List ℕ → StoreInMemory → StoreInMemory
after_save (Ok _) name bytes store = record (called store) { files = with_file store.files name bytes }
after_save (Err error) name bytes store = answered {T = ℕ} (Err error) store
