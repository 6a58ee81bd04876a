-- Lists: the longest front that passes a test, members of a table, and parts of equal lists.
use Rattle.std.proofs.Common.{◌≡◌, ℕ, zero, suc, ◌+◌, ◌<◌, ◌≤◌, Bool, true, false, cond, List, [], ◌∷◌, ◌++◌, length, get_or, take, drop, Option, Some, None, refl, sym, ap, ◌∙◌, arith, one-add, inl, inr}
use Rattle.std.specs.Prelude.{Contains, ◌⊎◌}
use Rattle.std.specs.List.{list_all, prefix_len}
use Rattle.std.proofs.lemmas.Bool.{and_parts, and_from, cond_both, cond-false}
use Rattle.std.proofs.lemmas.List.{take_at, drop_at}
use Rattle.std.proofs.lemmas.List.Sums.{take_while-cons, AllPass-from_list_all}
use Rattle.std.proofs.lemmas.List.Elements.{All-contains}

-- ---- the longest front that passes

pub front_within_run : (p : ℕ → Bool) (xs ys : List ℕ) → list_all p xs ≡ true → length xs ≤ prefix_len p (xs ++ ys)
front_within_run p [] ys h = omega arith
front_within_run p (x ∷ xs) ys h =
    let k = and_parts (p x) (list_all p xs) h in
    let more = front_within_run p xs ys k.1 in
    rw k.0 (omega arith)

pub run_is_front : (p : ℕ → Bool) (xs ys : List ℕ) → list_all p xs ≡ true → prefix_len p ys ≡ 0 → prefix_len p (xs ++ ys) ≡ length xs
run_is_front p [] ys h stops = stops
run_is_front p (x ∷ xs) ys h stops =
    let k = and_parts (p x) (list_all p xs) h in
    let more = run_is_front p xs ys k.1 stops in
    rw k.0 (omega arith)

pub run_passes : (p : ℕ → Bool) (xs : List ℕ) → list_all p (take (prefix_len p xs) xs) ≡ true
run_passes p [] = refl
run_passes p (x ∷ xs) =
    let more = run_passes p xs in
    let front = take (prefix_len p xs) xs in
    ap (list_all p) (take_while-cons p x xs) ∙ cond_both (p x) (x ∷ front) [] (λ l. list_all p l ≡ true) (λ e. and_from (p x) (list_all p front) e more) (λ e. refl)

pub run_stops : (p : ℕ → Bool) (xs : List ℕ) → prefix_len p (drop (prefix_len p xs) xs) ≡ 0
run_stops p [] = refl
run_stops p (x ∷ xs) =
    let more = run_stops p xs in
    cond_both (p x) (1 + prefix_len p xs) 0 (λ n. prefix_len p (drop n (x ∷ xs)) ≡ 0) (λ e. rw one-add more) (λ e. cond-false _ _ _ e)

pub list_all-weaker : (p q : ℕ → Bool) → ((x : ℕ) → p x ≡ true → q x ≡ true) → (xs : List ℕ) → list_all p xs ≡ true → list_all q xs ≡ true
list_all-weaker p q weaker [] h = refl
list_all-weaker p q weaker (x ∷ xs) h =
    let k = and_parts (p x) (list_all p xs) h in
    and_from (q x) (list_all q xs) (weaker x k.0) (list_all-weaker p q weaker xs k.1)

pub list_all-append : (p : ℕ → Bool) (xs ys : List ℕ) → list_all p xs ≡ true → list_all p ys ≡ true → list_all p (xs ++ ys) ≡ true
list_all-append p [] ys h k = k
list_all-append p (x ∷ xs) ys h k =
    let parts = and_parts (p x) (list_all p xs) h in
    and_from (p x) (list_all p (xs ++ ys)) parts.0 (list_all-append p xs ys parts.1 k)

-- ---- members

pub member_passes : {X : Type 0} (p : X → Bool) (xs : List X) (x : X) → list_all p xs ≡ true → Contains xs x → p x ≡ true
member_passes p xs x h member = All-contains (λ y. p y ≡ true) xs x (AllPass-from_list_all p xs h) member

member_at : {X : Type 0} (x : X) (xs : List X) (y : X) (k : ℕ) → k < length (x ∷ xs) → get_or (x ∷ xs) k y ≡ y → (x ≡ y) ⊎ Contains xs y
member_at x xs y zero lt e = inl e
member_at x xs y (suc k) lt e = inr (k, omega arith, e)

pub member_cases : {X : Type 0} (x : X) (xs : List X) (y : X) → Contains (x ∷ xs) y → (x ≡ y) ⊎ Contains xs y
member_cases x xs y h = member_at x xs y h.0 h.1 h.2

pub no_member : {X : Type 0} (y : X) → Contains [] y → ⊥
no_member y h = let lt : h.0 < 0 = h.1 in omega arith

pub first_member : {X : Type 0} (x : X) (xs : List X) → Contains (x ∷ xs) x
first_member x xs = (0, omega arith, refl)

pub later_member : {X : Type 0} (x : X) (xs : List X) (y : X) → Contains xs y → Contains (x ∷ xs) y
later_member x xs y h = let lt : h.0 < length xs = h.1 in (suc h.0, omega arith, h.2)

-- ---- equal lists

pub same_parts : (a b x y : List ℕ) → a ++ x ≡ b ++ y → length a ≡ length b → (a ≡ b) × (x ≡ y)
same_parts a b x y e len = (
  sym (take_at a x (length a) refl) ∙ ap (take (length a)) e ∙ take_at b y (length a) (sym len),
  sym (drop_at a x (length a) refl) ∙ ap (drop (length a)) e ∙ drop_at b y (length a) (sym len),
)

-- ---- choices

pub cond_is_first : {X : Type 0} (t : Bool) (x y z : X) → cond t x y ≡ z → (y ≡ z → ⊥) → (t ≡ true) × (x ≡ z)
cond_is_first true x y z e never = (refl, e)
cond_is_first false x y z e never = absurd (never e)

pub cond_is_second : {X : Type 0} (t : Bool) (x y z : X) → cond t x y ≡ z → (x ≡ z → ⊥) → (t ≡ false) × (y ≡ z)
cond_is_second true x y z e never = absurd (never e)
cond_is_second false x y z e never = (refl, e)

-- ---- options

pub some_is : (x y : ℕ) → ◌≡◌ {A = Option ℕ} (Some x) (Some y) → x ≡ y
some_is x y e = cc

pub none_is_not : (x : ℕ) → ◌≡◌ {A = Option ℕ} None (Some x) → ⊥
none_is_not x e = cc
