-- What loading and saving the files that options name comes to.
use Rattle.std.specs.Prelude.{◌≡◌, ◌⊎◌, ℕ, List, [], take, slice_get, Option, Some, None}
use Rattle.confllvm_top.specs.declared.loading.LoadFault.{LoadFault}
use Rattle.confllvm_top.specs.declared.loading.LoadFault.TheVariants as load
use Rattle.confllvm_top.specs.declared.status.Status.{Status}
use Rattle.confllvm_top.specs.declared.status.Status.TheVariants.{StoreFault, NoMemory}
use Rattle.confllvm_top.specs.Lines.{no_memory_line, store_fault_line}
use Rattle.confllvm_top.specs.Plans.{Saving, Shelf, HasSaved, HasFaulted}
use Rattle.confllvm_top.specs.Running.{saving}
use Rattle.confllvm_top.specs.Streams.{Stream, HasGotNothing, MayHaveGot}

-- a load of a file that is named so failed: the count rose, or the file isn't there; of want of memory nothing is said
abbrev pub IsLoadFault : LoadFault → (List ℕ → Type 0) → Type 0 → Shelf → Type 0
IsLoadFault load.NoMemory Named Missing s = Unit {0}
IsLoadFault (load.Store name) Named Missing s = Named name.now × (HasFaulted s ⊎ Missing)

-- the line of that was put, or that of want of memory
abbrev pub LoadTold : Status → LoadFault → Stream → Type 0
LoadTold result load.NoMemory err = (result ≡ NoMemory) × MayHaveGot no_memory_line err
LoadTold result (load.Store name) err =
    ((result ≡ StoreFault) × MayHaveGot (store_fault_line name.now) err) ⊎ ((result ≡ NoMemory) × MayHaveGot no_memory_line err)

-- What saving files comes to: None where all went well, or else the status with which the command ends, whose line was put. Where
-- one fails, those before it were saved.
pub record UnsavedFrom (savings : List Saving) (s : Shelf) (err : Stream) : Type 0 where
  pub count : ℕ
  pub saving : Saving
  pub is_next : slice_get savings count ≡ Some saving
  pub has_saved : HasSaved (take count savings) s
  pub faulted : HasFaulted s
  pub tells : MayHaveGot (store_fault_line saving.name) err

abbrev pub SavesAll : Option Status → List Saving → Shelf → Stream → Type 0
SavesAll None savings s err = HasSaved savings s × HasGotNothing err
SavesAll (Some StoreFault) savings s err = UnsavedFrom savings s err
SavesAll (Some NoMemory) savings s err = ((count : ℕ) × HasSaved (take count savings) s) × MayHaveGot no_memory_line err
SavesAll _ savings s err = ⊥

-- What saving a file comes to, if one is named for it: None where it went well or there was nothing to save, or else the status
-- with which the command ends, whose line was put.
abbrev pub SavesNamed : Option Status → Option (List ℕ) → List ℕ → Shelf → Stream → Type 0
SavesNamed None name bytes s err = HasSaved (saving name bytes) s × HasGotNothing err
SavesNamed (Some StoreFault) (Some name) bytes s err = HasSaved [] s × HasFaulted s × MayHaveGot (store_fault_line name) err
SavesNamed (Some NoMemory) name bytes s err = HasSaved [] s × MayHaveGot no_memory_line err
SavesNamed _ name bytes s err = ⊥
