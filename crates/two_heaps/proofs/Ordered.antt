-- Lists of spans by offset: what begins below an offset is a front of the list, and what begins above it a rest.
use Rattle.std.proofs.Common.{◌≡◌, ℕ, zero, suc, ◌+◌, ◌<◌, ◌≤◌, ◌⊎◌, inl, inr, Bool, true, false, cond, eqb, ltb, Option, Some, None, List, [], ◌∷◌, ◌++◌, length, get_or, refl, sym, ◌∙◌, ap, subst, arith, length-append}
use Rattle.std.specs.Prelude.{filter, find, Contains, All}
use Rattle.std.proofs.lemmas.List.Elements.{All-nil, All-cons, All-head, All-tail}
use Rattle.std.proofs.lemmas.Bool.{cases_lt, cases_Bool, lt-ltb, le-ltb, ne_eqb}
use Rattle.std.proofs.lemmas.Option.{same_Some, none-some}
use Rattle.cv_word.specs.Heap.{Span, end_of, starting_below, starting_above, replaced_at}
use Rattle.two_heaps.specs.Kept.{Rises}

-- ---- filters and searches, an element at a time

pub kept : (p : Span → Bool) (x : Span) (xs : List Span) → p x ≡ true → filter p (x ∷ xs) ≡ x ∷ filter p xs
kept p x xs e = ap (λ b. cond b (x ∷ filter p xs) (filter p xs)) e

pub left_out : (p : Span → Bool) (x : Span) (xs : List Span) → p x ≡ false → filter p (x ∷ xs) ≡ filter p xs
left_out p x xs e = ap (λ b. cond b (x ∷ filter p xs) (filter p xs)) e

pub found : (p : Span → Bool) (x : Span) (xs : List Span) → p x ≡ true → find p (x ∷ xs) ≡ Some x
found p x xs e = ap (λ b. cond b (Some x) (find p xs)) e

pub passed_by : (p : Span → Bool) (x : Span) (xs : List Span) → p x ≡ false → find p (x ∷ xs) ≡ find p xs
passed_by p x xs e = ap (λ b. cond b (Some x) (find p xs)) e

-- a search answers, or it doesn't
pub either : {A : Type 0} (o : Option A) → (o ≡ None) ⊎ ((x : A) × (o ≡ Some x))
either None = inl refl
either (Some x) = inr (x, refl)

-- what a search finds passes the test
pub find_passes : (p : Span → Bool) (xs : List Span) (x : Span) → find p xs ≡ Some x → p x ≡ true
find_passes p [] x e = cc
find_passes p (y ∷ ys) x e =
    elim (cases_Bool (p y)) [
      | inl passes ↦ let same : y ≡ x = same_Some y x (sym (found p y ys passes) ∙ e) in let P : Span → Type 0 = λ s. p s ≡ true in subst P same passes
      | inr fails ↦ find_passes p ys x (sym (passed_by p y ys fails) ∙ e)
    ]

-- a search that finds nothing was failed by each
pub find_fails : (p : Span → Bool) (xs : List Span) → find p xs ≡ None → All (λ (s : Span). p s ≡ false) xs
find_fails p [] e = All-nil (λ (s : Span). p s ≡ false)
find_fails p (y ∷ ys) e =
    elim (cases_Bool (p y)) [
      | inl passes ↦ absurd (none-some y (sym e ∙ found p y ys passes))
      | inr fails ↦ All-cons (λ (s : Span). p s ≡ false) y ys fails (find_fails p ys (sym (passed_by p y ys fails) ∙ e))
    ]

pub fails_find : (p : Span → Bool) (xs : List Span) → All (λ (s : Span). p s ≡ false) xs → find p xs ≡ None
fails_find p [] all = refl
fails_find p (y ∷ ys) all =
    passed_by p y ys (All-head (λ (s : Span). p s ≡ false) y ys all) ∙ fails_find p ys (All-tail (λ (s : Span). p s ≡ false) y ys all)

-- and stands in the list
pub find_contains : (p : Span → Bool) (xs : List Span) (x : Span) → find p xs ≡ Some x → Contains xs x
find_contains p [] x e = cc
find_contains p (y ∷ ys) x e =
    elim (cases_Bool (p y)) [
      | inl passes ↦ (0, omega arith, same_Some y x (sym (found p y ys passes) ∙ e))
      | inr fails ↦ let h = find_contains p ys x (sym (passed_by p y ys fails) ∙ e) in (suc h.0, let lt = h.1 in omega arith, h.2)
    ]

-- ---- rising lists

pub rises_lower : (gap low from : ℕ) (xs : List Span) → low ≤ from → Rises gap from xs → Rises gap low xs
rises_lower gap low from [] le r = tt
rises_lower gap low from (x ∷ xs) le r = (omega (arith, r.0), r.1, r.2)

pub rises_closer : (gap from : ℕ) (xs : List Span) → Rises gap from xs → Rises 0 from xs
rises_closer gap from [] r = tt
rises_closer gap from (x ∷ xs) r =
    (r.0, r.1, rises_lower 0 (end_of x + 0) (end_of x + gap) xs (omega arith) (rises_closer gap (end_of x + gap) xs r.2))

pub rises_at : (gap from : ℕ) (xs : List Span) (k : ℕ) (d : Span) → Rises gap from xs → k < length xs → (from ≤ (get_or xs k d).at) × (0 < (get_or xs k d).len)
rises_at gap from [] k d r lt = absurd (omega arith)
rises_at gap from (x ∷ xs) zero d r lt = (r.0, r.1)
rises_at gap from (x ∷ xs) (suc k) d r lt = let h = rises_at gap (end_of x + gap) xs k d r.2 (omega arith) in (omega (arith, h.0, r.0), h.1)

-- what a search finds begins no lower than the list
pub find_from : (gap from : ℕ) (p : Span → Bool) (xs : List Span) (x : Span) → Rises gap from xs → find p xs ≡ Some x → from ≤ x.at
find_from gap from p [] x r e = cc
find_from gap from p (y ∷ ys) x r e =
    elim (cases_Bool (p y)) [
      | inl passes ↦ let same : y ≡ x = same_Some y x (sym (found p y ys passes) ∙ e) in let P : Span → Type 0 = λ s. from ≤ s.at in subst P same r.0
      | inr fails ↦ let rest = find_from gap (end_of y + gap) p ys x r.2 (sym (passed_by p y ys fails) ∙ e) in omega (arith, r.0)
    ]

pub none_below : (gap from at : ℕ) (xs : List Span) → at ≤ from → Rises gap from xs → starting_below at xs ≡ []
none_below gap from at [] le r = refl
none_below gap from at (x ∷ xs) le r =
    let first : at ≤ x.at = omega (arith, r.0) in
    left_out (λ span. ltb span.at at) x xs (le-ltb x.at at first)
    ∙ none_below gap (end_of x + gap) at xs (omega arith) r.2

pub all_above : (gap from at : ℕ) (xs : List Span) → at < from → Rises gap from xs → starting_above at xs ≡ xs
all_above gap from at [] le r = refl
all_above gap from at (x ∷ xs) le r =
    let first : at < x.at = omega (arith, r.0) in
    kept (λ span. ltb at span.at) x xs (lt-ltb at x.at first)
    ∙ ap (λ l. x ∷ l) (all_above gap (end_of x + gap) at xs (omega arith) r.2)

-- none of a list that rises from above an offset begins there
pub none_at : (gap from at : ℕ) (xs : List Span) → at < from → Rises gap from xs → find (λ span. eqb span.at at) xs ≡ None
none_at gap from at [] le r = refl
none_at gap from at (x ∷ xs) le r =
    let first : at < x.at = omega (arith, r.0) in
    passed_by (λ span. eqb span.at at) x xs (ne_eqb x.at at (λ e. omega arith))
    ∙ none_at gap (end_of x + gap) at xs (omega arith) r.2

-- ---- replacing, an element at a time

pub replaced_skip : (at : ℕ) (new : List Span) (x : Span) (xs : List Span) → x.at < at → replaced_at at new (x ∷ xs) ≡ x ∷ replaced_at at new xs
replaced_skip at new x xs lt =
    let lower : starting_below at (x ∷ xs) ≡ x ∷ starting_below at xs = kept (λ span. ltb span.at at) x xs (lt-ltb x.at at lt) in
    let upper : starting_above at (x ∷ xs) ≡ starting_above at xs = left_out (λ span. ltb at span.at) x xs (le-ltb at x.at (omega arith)) in
    ap (λ l. l ++ (new ++ starting_above at (x ∷ xs))) lower ∙ ap (λ l. x ∷ (starting_below at xs ++ (new ++ l))) upper

pub replaced_first : (gap from at : ℕ) (new xs : List Span) → at < from → Rises gap from xs → replaced_at at new xs ≡ new ++ xs
replaced_first gap from at new xs lt r =
    ap (λ l. l ++ (new ++ starting_above at xs)) (none_below gap from at xs (omega arith) r) ∙ ap (λ l. new ++ l) (all_above gap from at xs lt r)

pub replaced_here : (gap from : ℕ) (new : List Span) (x : Span) (xs : List Span) → Rises gap from (x ∷ xs) → replaced_at x.at new (x ∷ xs) ≡ new ++ xs
replaced_here gap from new x xs r =
    let lower : starting_below x.at (x ∷ xs) ≡ starting_below x.at xs = left_out (λ span. ltb span.at x.at) x xs (le-ltb x.at x.at (omega arith)) in
    let upper : starting_above x.at (x ∷ xs) ≡ starting_above x.at xs = left_out (λ span. ltb x.at span.at) x xs (le-ltb x.at x.at (omega arith)) in
    ap (λ l. l ++ (new ++ starting_above x.at (x ∷ xs))) lower ∙ ap (λ l. starting_below x.at xs ++ (new ++ l)) upper
    ∙ replaced_first gap (end_of x + gap) x.at new xs (omega (arith, r.1)) r.2

-- of each element at most one of two filters that exclude each other keeps it
either_count : (at : ℕ) (xs : List Span) → length (starting_below at xs) + length (starting_above at xs) ≤ length xs
either_count at [] = omega arith
either_count at (x ∷ xs) =
    let rest = either_count at xs in
    elim (cases_lt x.at at) [
      | inl lt ↦
          let lower = ap length (kept (λ span. ltb span.at at) x xs (lt-ltb x.at at lt)) in
          let upper = ap length (left_out (λ span. ltb at span.at) x xs (le-ltb at x.at (omega arith))) in
          omega (arith, lower, upper)
      | inr ge ↦
          let lower = ap length (left_out (λ span. ltb span.at at) x xs (le-ltb x.at at ge)) in
          elim (cases_lt at x.at) [
            | inl gt ↦ let upper = ap length (kept (λ span. ltb at span.at) x xs (lt-ltb at x.at gt)) in omega (arith, lower, upper)
            | inr le ↦ let upper = ap length (left_out (λ span. ltb at span.at) x xs (le-ltb at x.at le)) in omega (arith, lower, upper)
          ]
    ]

pub below_length : (at : ℕ) (xs : List Span) → length (starting_below at xs) ≤ length xs
below_length at xs = let h = either_count at xs in omega arith

pub replaced_count : (at : ℕ) (new xs : List Span) → length (replaced_at at new xs) ≤ length new + length xs
replaced_count at new xs =
    let outer = length-append (starting_below at xs) (new ++ starting_above at xs) in
    let inner = length-append new (starting_above at xs) in
    omega (arith, either_count at xs)
