-- Latest: how a scope comes to the latest entry of a name.
use Rattle.std.specs.Prelude.{◌≡◌, ℕ, ◌+◌, ◌<◌, List, [], ◌∷◌, length, map, take, slice_index_or, Option, Some, None, if◌then◌else◌}
use Rattle.std.specs.Option.{option_map}
use Rattle.name_scopes.specs.declared.scopes.Declared.{Declared}
use Rattle.name_scopes.specs.declared.scopes.Entry.{Entry}
use Rattle.name_scopes.specs.Scopes.{is_named, or_else}

-- the position of the latest entry of a name
abbrev pub latest_in : List Entry → ℕ → Option ℕ
latest_in [] name = None
latest_in (e ∷ es) name = or_else (option_map (λ i. i + 1) (latest_in es name)) (if is_named name e then Some 0 else None)

-- what is declared, without what each hides
abbrev pub entries_of : List Declared → List Entry
entries_of declared = map (λ d. d.entry) declared

-- a name leads to its latest entry, and each entry to the one that it hides
pub record IsIndexed (declared : List Declared) (latest : ℕ → Option ℕ) : Type 0 where
  -- a name is looked up as the position of its latest entry
  pub finds : (name : ℕ) → latest name ≡ latest_in (entries_of declared) name
  -- an entry hides the latest of its name among those before it
  pub hides : (i : ℕ) (d : Declared) → i < length declared → (slice_index_or declared i d).hides ≡ latest_in (entries_of (take i declared)) (slice_index_or declared i d).entry.name
