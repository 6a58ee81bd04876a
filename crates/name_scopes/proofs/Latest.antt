-- Latest: what the position of a name's latest entry says, and what an entry more or less changes.
use Rattle.std.proofs.Common.{◌≡◌, ℕ, zero, suc, ◌+◌, false, List, [], ◌∷◌, ◌++◌, length, take, get_or, Option, Some, refl, arith, if◌then◌else◌, cond, nat_eq, nat_le}
use Rattle.std.proofs.lemmas.Grind.{common_steps}
use Rattle.std.proofs.lemmas.Option.{gets}
use Rattle.std.specs.List.{slice_get}
use Rattle.std.specs.Option.{IsSome, is_some, option_map_or, option_map}
use Rattle.name_scopes.specs.declared.scopes.Declared.{Declared}
use Rattle.name_scopes.specs.declared.scopes.Entry.{Entry}
use Rattle.name_scopes.specs.Latest.{latest_in, entries_of, IsIndexed}
use Rattle.name_scopes.specs.Scopes.{is_named, meaning_in, is_declared, is_declared_since}

-- what a name means is the entry at that position
pub meaning_at : (es : List Entry) (name : ℕ) → option_map (slice_get es) (latest_in es name) ≡ option_map (λ e. Some e) (meaning_in es name)
meaning_at [] name = refl
meaning_at (e ∷ es) name = grind (arith, common_steps, meaning_at es name)

-- what `find` is proved by
pub ruleset finding = (common_steps, gets, meaning_at)

-- a name is declared if there is such a position
pub declared_at : (es : List Entry) (name : ℕ) → is_declared es name ≡ is_some (latest_in es name)
declared_at [] name = refl
declared_at (e ∷ es) name = grind (arith, common_steps, declared_at es name)

-- a name is declared since a length if that position isn't below it
pub declared_since_at : (start : ℕ) (es : List Entry) (name : ℕ) → is_declared_since start es name ≡ option_map_or (nat_le start) (latest_in es name) false
declared_since_at zero es name = grind (arith, common_steps, declared_at es name)
declared_since_at (suc start) [] name = refl
declared_since_at (suc start) (e ∷ es) name = grind (arith, common_steps, declared_since_at start es name)

-- an entry more is the latest of its name, and of no other
pub latest_more : (es : List Entry) (e : Entry) (name : ℕ) → latest_in (es ++ e ∷ []) name ≡ (if is_named name e then Some (length es) else latest_in es name)
latest_more [] e name = refl
latest_more (x ∷ es) e name = grind (arith, common_steps, latest_more es e name)

-- an entry more hides the latest of its name, and is the latest itself
pub more_indexed : (declared : List Declared) (latest after : ℕ → Option ℕ) (at : ℕ) (last : Declared) → at ≡ length declared → IsIndexed declared latest → ((name : ℕ) → after name ≡ cond (nat_eq last.entry.name name) (Some at) (latest name)) → last.hides ≡ latest_in (entries_of declared) last.entry.name → IsIndexed (declared ++ last ∷ []) after
more_indexed declared latest after at last end indexed put hides = record {
  finds = λ name. grind (arith, common_steps, put name, indexed.finds name, latest_more (entries_of declared) last.entry name);
  hides = λ i d below. grind (arith, common_steps, indexed.hides i d);
}

-- the last entry's name is found
pub last_is_found : (declared : List Declared) (latest : ℕ → Option ℕ) (at : ℕ) (last : Declared) → last ≡ get_or declared at last → at + 1 ≡ length declared → IsIndexed declared latest → IsSome (latest last.entry.name)
last_is_found declared latest at last is end indexed = grind (arith, common_steps, indexed.finds last.entry.name, latest_more (entries_of (take at declared)) last.entry last.entry.name)

-- without the last entry, what it hid is the latest of its name
pub fewer_indexed : (declared : List Declared) (latest after : ℕ → Option ℕ) (at : ℕ) (last : Declared) → last ≡ get_or declared at last → at + 1 ≡ length declared → IsIndexed declared latest → ((name : ℕ) → after name ≡ cond (nat_eq last.entry.name name) last.hides (latest name)) → IsIndexed (take at declared) after
fewer_indexed declared latest after at last is end indexed put = record {
  finds = λ name. grind (arith, common_steps, put name, indexed.finds name, latest_more (entries_of (take at declared)) last.entry name, indexed.hides at last);
  hides = λ i e below. grind (arith, common_steps, indexed.hides i e);
}
