-- What a list of files has under a name: by its place, and after a write.
use Rattle.std.proofs.Common.{◌≡◌, ℕ, ◌≤◌, List, [], ◌∷◌, ◌++◌, Option, Some, None, Bool, true, false, cond, ltb, length, get_or, sym, refl, ap, ◌∙◌, inl, inr}
use Rattle.std.proofs.Math.ListN.{set}
use Rattle.std.proofs.Math.Path.{fun_ext}
use Rattle.std.proofs.lemmas.Bool.{cases_Bool, ltb-false}
use Rattle.std.proofs.lemmas.List.Folds.{find_at, find-set, find_past, find-append}
use Rattle.std.proofs.lemmas.List.Quantifiers.{position-Some}
use Rattle.std.proofs.lemmas.Option.{slice_get_past, slice_get-get_or, cond_some, same_Some}
use Rattle.std.proofs.lemmas.Slice.Eq.{bytes_eq-Decides}
use Rattle.std.specs.List.{find, position, position_or_len, slice_get}
use Rattle.std.specs.Option.{option_map, option_or}
use Rattle.std.specs.Str.{bytes_eq}
use Rattle.std.specs.String.{string_bytes}
use Rattle.cv_io.specs.declared.memory_store.File.{File}
use Rattle.cv_io.specs.Files.{Files, HasFile, with_file}
use Rattle.cv_io.specs.FilesInMemory.{files_of}

abbrev pub named : List ℕ → File → Bool
named name = λ file. bytes_eq name (string_bytes file.name)

false_from_none : {X : Type 0} (b : Bool) (x : X) → cond b (Some x) None ≡ None → b ≡ false
false_from_none true x e = cc
false_from_none false x e = refl

-- the place of the first item that passes
first_place : {X : Type 0} (p : X → Bool) (xs : List X) (i : ℕ) → position p xs ≡ Some i → i ≡ position_or_len p xs
first_place p xs i e = sym (cond_some (ltb (position_or_len p xs) (length xs)) (position_or_len p xs) i e).1

find_at_place : {X : Type 0} (p : X → Bool) (xs : List X) (i : ℕ) (d : X) → position p xs ≡ Some i → find p xs ≡ Some (get_or xs i d)
find_at_place p xs i d e =
    let at : find p xs ≡ slice_get xs (position_or_len p xs) = find_at p xs in
    let same : slice_get xs i ≡ slice_get xs (position_or_len p xs) = ap (slice_get xs) (first_place p xs i e) in
    at ∙ sym same ∙ slice_get-get_or xs i d (position-Some p xs i d e).0

find_nowhere : {X : Type 0} (p : X → Bool) (xs : List X) → position p xs ≡ None → find p xs ≡ None
find_nowhere p xs e =
    let past : length xs ≤ position_or_len p xs = ltb-false _ _ (false_from_none (ltb (position_or_len p xs) (length xs)) (position_or_len p xs) e) in
    find_at p xs ∙ slice_get_past xs (position_or_len p xs) past

pub files_of-at_place : (files : List File) (name : List ℕ) (i : ℕ) (d : File) → Some i ≡ position (named name) files → files_of files name ≡ Some (get_or files i d).bytes.items
files_of-at_place files name i d e = ap (option_map (λ file. file.bytes.items)) (find_at_place (named name) files i d (sym e))

pub files_of-nowhere : (files : List File) (name : List ℕ) → None ≡ position (named name) files → files_of files name ≡ None
files_of-nowhere files name e = ap (option_map (λ file. file.bytes.items)) (find_nowhere (named name) files (sym e))

same_name : (name other : List ℕ) → bytes_eq name other ≡ true → name ≡ other
same_name name other e = (bytes_eq-Decides name other).0 e

itself : (name other : List ℕ) → name ≡ other → bytes_eq name other ≡ true
itself name other e = (bytes_eq-Decides name other).1 e

or_none : {X : Type 0} (o : Option X) → option_or o None ≡ o
or_none None = refl
or_none (Some x) = refl

-- a look-up under any name, where that under the written one and those under all others are known
with_file-from : (old new : List ℕ → Option (List ℕ)) (name bytes : List ℕ) → new name ≡ Some bytes → ((other : List ℕ) → bytes_eq other name ≡ false → new other ≡ old other) → new ≡ with_file old name bytes
with_file-from old new name bytes here others = fun_ext λ other.
    elim (cases_Bool (bytes_eq other name)) [
      | inl same ↦ rw same (ap new (same_name other name same) ∙ here)
      | inr differs ↦ rw differs (others other differs)
    ]

set_at_place : (files : List File) (name : List ℕ) (i : ℕ) (d new : File) → position (named name) files ≡ Some i → new.name ≡ (get_or files i d).name → files_of (set files i new) ≡ with_file (files_of files) name new.bytes.items
set_at_place files name i d new e kept =
    let place = position-Some (named name) files i d e in
    let was : name ≡ string_bytes (get_or files i d).name = same_name _ _ place.1 in
    let is : name ≡ string_bytes new.name = was ∙ ap string_bytes (sym kept) in
    let here : find (named name) (set files i new) ≡ Some new = find-set (named name) files i new (first_place (named name) files i e) place.0 (itself _ _ is) in
    with_file-from (files_of files) (files_of (set files i new)) name new.bytes.items
    (ap (option_map (λ file. file.bytes.items)) here)
    (λ other differs. ap (option_map (λ file. file.bytes.items))
    (find_past (named other) files i new d (sym (ap (bytes_eq other) was) ∙ differs) (sym (ap (bytes_eq other) is) ∙ differs)))

push_new : (files : List File) (name : List ℕ) (new : File) → position (named name) files ≡ None → string_bytes new.name ≡ name → files_of (files ++ new ∷ []) ≡ with_file (files_of files) name new.bytes.items
push_new files name new e is =
    let none : find (named name) files ≡ None = find_nowhere (named name) files e in
    let found : named name new ≡ true = itself _ _ (sym is) in
    let here : find (named name) (files ++ new ∷ []) ≡ Some new = find-append (named name) files (new ∷ []) ∙ (rw (none, found) refl) in
    with_file-from (files_of files) (files_of (files ++ new ∷ [])) name new.bytes.items
    (ap (option_map (λ file. file.bytes.items)) here)
    (λ other differs.
    let not_new : named other new ≡ false = ap (bytes_eq other) is ∙ differs in
    ap (option_map (λ file. file.bytes.items)) (find-append (named other) files (new ∷ []) ∙ (rw not_new (or_none (find (named other) files)))))

-- a file of the same name in its place
pub files_of-set : (files seen : List File) (name bytes : List ℕ) (i : ℕ) (d new : File) → seen ≡ files → Some i ≡ position (named name) seen → new.name ≡ (get_or files i d).name → new.bytes.items ≡ bytes → files_of (set files i new) ≡ with_file (files_of files) name bytes
files_of-set files seen name bytes i d new same here kept is_bytes =
    let e : position (named name) files ≡ Some i = ap (position (named name)) (sym same) ∙ sym here in
    rw (← is_bytes) (set_at_place files name i d new e kept)

-- a file of a new name at the end
pub files_of-push : (files seen : List File) (name bytes : List ℕ) (new : File) → seen ≡ files → None ≡ position (named name) seen → string_bytes new.name ≡ name → new.bytes.items ≡ bytes → files_of (files ++ new ∷ []) ≡ with_file (files_of files) name bytes
files_of-push files seen name bytes new same nowhere is is_bytes =
    let e : position (named name) files ≡ None = ap (position (named name)) (sym same) ∙ sym nowhere in
    rw (← is_bytes) (push_new files name new e is)

-- two lists that are one, and what it has
pub files_of-same : (seen files : List File) (old : Files) → seen ≡ files → files_of files ≡ old → files_of seen ≡ old
files_of-same seen files old same kept = ap files_of same ∙ kept

-- what a store has is what it has where it tells it
pub HasFile-told : (files old : Files) (name bytes : List ℕ) → files ≡ old → files name ≡ Some bytes → HasFile (Some old) name bytes
HasFile-told files old name bytes same found = record {
  has = λ told e. ap (λ f. f name) (sym (same ∙ same_Some old told e)) ∙ found;
}
