-- Lists of types that are compared.
use Rattle.std.proofs.Common.{◌≡◌, ◌≢◌, ℕ, suc, ◌+◌, ◌<◌, ◌≤◌, Bool, true, false, ◌&&◌, List, [], ◌∷◌, length, get_or, drop, map, refl, sym, ◌∙◌, ap}
use Rattle.std.proofs.lemmas.List.{drop_all}
use Rattle.c_ast.specs.declared.qualifiers.Ty.{Ty}
use Rattle.type_shapes.specs.Types.{same_all}
use Rattle.type_shapes.proofs.ListLemmas.{from_next}

and_false : (a b : Bool) → false ≡ b → false ≡ (a && b)
and_false a b h = elim a as (λ v. false ≡ (v && b)) [ false ↦ refl | true ↦ h ]

-- lists of other lengths aren't the same
pub same_all-length : (f : Ty → Ty → Bool) (xs ys : List Ty) → length xs ≢ length ys → false ≡ same_all (map f xs) ys
same_all-length f [] [] h = absurd (h refl)
same_all-length f [] (y ∷ ys) h = refl
same_all-length f (x ∷ xs) [] h = refl
same_all-length f (x ∷ xs) (y ∷ ys) h =
    and_false (f x y) (same_all (map f xs) ys) (same_all-length f xs ys (λ e. h (ap suc e)))

-- the types at a place and those behind it
same_next : (f : Ty → Ty → Bool) (xs ys : List Ty) (i : ℕ) (x y : Ty) → i < length xs → i < length ys → x ≡ get_or xs i x → y ≡ get_or ys i y
    → same_all (map f (drop i xs)) (drop i ys) ≡ (f x y && same_all (map f (drop (i + 1) xs)) (drop (i + 1) ys))
same_next f xs ys i x y hx hy is_x is_y = rw (from_next xs i x hx is_x, from_next ys i y hy is_y) refl

and_true : (a b all : Bool) → true ≡ a → (a && b) ≡ all → b ≡ all
and_true a b all e h = rw (sym e) at h

stops : (a b all : Bool) → false ≡ a → (a && b) ≡ all → false ≡ all
stops a b all e h = rw (sym e) at h

pub same_step : (f : Ty → Ty → Bool) (xs ys : List Ty) (i : ℕ) (x y : Ty) (all : Bool) → i < length xs → i < length ys → x ≡ get_or xs i x
    → y ≡ get_or ys i y → true ≡ f x y → same_all (map f (drop i xs)) (drop i ys) ≡ all → same_all (map f (drop (i + 1) xs)) (drop (i + 1) ys) ≡ all
same_step f xs ys i x y all hx hy is_x is_y e before =
    and_true (f x y) _ all e (sym (same_next f xs ys i x y hx hy is_x is_y) ∙ before)

pub same_stop : (f : Ty → Ty → Bool) (xs ys : List Ty) (i : ℕ) (x y : Ty) (all : Bool) → i < length xs → i < length ys → x ≡ get_or xs i x
    → y ≡ get_or ys i y → false ≡ f x y → same_all (map f (drop i xs)) (drop i ys) ≡ all → false ≡ all
same_stop f xs ys i x y all hx hy is_x is_y e before =
    stops (f x y) _ all e (sym (same_next f xs ys i x y hx hy is_x is_y) ∙ before)

pub same_end : (f : Ty → Ty → Bool) (xs ys : List Ty) (i : ℕ) (all : Bool) → length xs ≤ i → length ys ≤ i
    → same_all (map f (drop i xs)) (drop i ys) ≡ all → true ≡ all
same_end f xs ys i all hx hy before = rw (drop_all i xs hx, drop_all i ys hy) at before
