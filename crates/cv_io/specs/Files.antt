-- Files under names: a name is the list of its bytes.
use Rattle.std.specs.Prelude.{◌≡◌, ℕ, List, Option, None, Some, if◌then◌else◌}
use Rattle.std.specs.Option.{option_map}
use Rattle.std.specs.Str.{bytes_eq}

-- the bytes under each name, or None where no file has it
abbrev pub Files : Type 0
Files = List ℕ → Option (List ℕ)

-- the same files, with these bytes under this name
abbrev pub with_file : Files → List ℕ → List ℕ → Files
with_file files name bytes = λ other. if bytes_eq other name then Some bytes else files other

-- that, where the files are told
abbrev pub files_with : Option Files → List ℕ → List ℕ → Option Files
files_with told name bytes = option_map (λ files. with_file files name bytes) told

-- where the files are told, these are the bytes under the name
pub record HasFile (told : Option Files) (name bytes : List ℕ) : Type 0 where
  pub has : (files : Files) → told ≡ Some files → files name ≡ Some bytes

-- the files are told, and none has the name
pub record LacksFile (told : Option Files) (name : List ℕ) : Type 0 where
  pub files : Files
  pub are_told : told ≡ Some files
  pub lacks : files name ≡ None
