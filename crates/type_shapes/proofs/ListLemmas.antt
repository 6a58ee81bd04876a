-- Loops over the items of a list that a definition goes over too.
use Rattle.std.proofs.Common.{◌≡◌, ℕ, ◌+◌, ◌<◌, List, [], ◌∷◌, length, get_or, drop, map, fold, refl, sym, ◌∙◌, ap}
use Rattle.std.proofs.lemmas.List.{drop_more}

-- the item at a place and those behind it
pub from_next : {X : Type 0} (xs : List X) (i : ℕ) (x : X) → i < length xs → x ≡ get_or xs i x → drop i xs ≡ x ∷ drop (i + 1) xs
from_next xs i x h is = drop_more xs i x h ∙ ap (λ v. v ∷ drop (i + 1) xs) (sym is)

-- what is made of the items that come: one step, and then of those behind it
pub fold_next : {A B : Type 0} (f : B → A → B) (xs : List A) (i : ℕ) (x : A) (s next all : B)
    → i < length xs → x ≡ get_or xs i x → next ≡ f s x → fold f s (drop i xs) ≡ all → fold f next (drop (i + 1) xs) ≡ all
fold_next f xs i x s next all h is step before = rw step (sym (ap (fold f s) (from_next xs i x h is)) ∙ before)

-- the same of what a function makes of each
pub fold_map_next : {A B X : Type 0} (f : B → A → B) (g : X → A) (xs : List X) (i : ℕ) (x : X) (s next all : B)
    → i < length xs → x ≡ get_or xs i x → next ≡ f s (g x) → fold f s (map g (drop i xs)) ≡ all → fold f next (map g (drop (i + 1) xs)) ≡ all
fold_map_next f g xs i x s next all h is step before =
    rw step (sym (ap (λ l. fold f s (map g l)) (from_next xs i x h is)) ∙ before)
