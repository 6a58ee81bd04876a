-- Places in a list of spans by offset: where a binary search ends, and what stands before and behind it.
use Rattle.std.proofs.Common.{◌≡◌, ℕ, zero, suc, ◌+◌, ◌-◌, ◌<◌, ◌≤◌, ◌⊎◌, inl, inr, Bool, true, false, cond, eqb, ltb, Some, None, List, [], ◌∷◌, ◌++◌, length, get_or, take, drop, set, refl, sym, ◌∙◌, ap, subst, arith, length-drop}
use Rattle.std.specs.Prelude.{find, position}
use Rattle.std.specs.List.{AllWithin, position_or_len, insert}
use Rattle.std.specs.List.Sorted.{IsNonDecreasingBy}
use Rattle.std.specs.Option.{option_map_or}
use Rattle.std.proofs.lemmas.Bool.{cases_lt, lt-ltb, le-ltb, ltb-true, ltb-false, eq-eqb, ne_eqb, eqb-true}
use Rattle.std.proofs.lemmas.Option.{none-some, cond_some, slice_get-get_or, slice_get_past}
use Rattle.std.proofs.lemmas.List.{set_split, get_or_default, drop_more, get_or-drop}
use Rattle.std.proofs.lemmas.List.Folds.{find_at}
use Rattle.cv_word.specs.Heap.{Span, end_of, span_between, starting_below, starting_above, ending_below, free_from, free_to, hole_between, replaced_at}
use Rattle.two_heaps.specs.Kept.{Rises, Avoids, IsPlace, MayJoin, begins}
use Rattle.two_heaps.proofs.Ordered.{either, find_passes, rises_at, kept, left_out, found, passed_by, none_below, none_at, all_above}
use Rattle.two_heaps.proofs.Merging.{above_skip, above_first, free_to_none, free_to_first, free_from_none, none_ending_below}

-- ---- where a binary search ends

rises_along : (gap from : ℕ) (xs : List Span) → Rises gap from xs → (i j : ℕ) (d : Span) → i ≤ j → j < length xs → (get_or xs i d).at ≤ (get_or xs j d).at
rises_along gap from [] r i j d le lt = absurd (omega arith)
rises_along gap from (x ∷ xs) r zero zero d le lt = omega arith
rises_along gap from (x ∷ xs) r zero (suc j) d le lt = let h = rises_at gap (end_of x + gap) xs j d r.2 (omega arith) in omega (arith, h.0)
rises_along gap from (x ∷ xs) r (suc i) zero d le lt = absurd (omega arith)
rises_along gap from (x ∷ xs) r (suc i) (suc j) d le lt = rises_along gap (end_of x + gap) xs r.2 i j d (omega arith) (omega arith)

pub rises_by : (gap from : ℕ) (xs : List Span) → Rises gap from xs → IsNonDecreasingBy (λ (span : Span). span.at) xs
rises_by gap from xs r = rises_along gap from xs r

pub below_count : (gap from at : ℕ) (xs : List Span) (i : ℕ) → Rises gap from xs → i ≤ length xs →
    AllWithin (λ (span : Span). ltb span.at at ≡ true) xs 0 i → AllWithin (λ (span : Span). ltb span.at at ≡ false) xs i (length xs) →
    i ≡ length (starting_below at xs)
below_count gap from at [] i r le low high = omega arith
below_count gap from at (x ∷ xs) zero r le low high =
    sym (ap length (none_below gap x.at at (x ∷ xs) (ltb-false x.at at (high 0 x (omega arith) (omega arith))) (omega arith, r.1, r.2)))
below_count gap from at (x ∷ xs) (suc i) r le low high =
    ap suc (below_count gap (end_of x + gap) at xs i r.2 (omega arith) (λ k d a b. low (suc k) d (omega arith) (omega arith)) (λ k d a b. high (suc k) d (omega arith) (omega arith)))
    ∙ sym (ap length (kept (λ span. ltb span.at at) x xs (low 0 x (omega arith) (omega arith))))

-- ---- what stands before and behind that place

pub place : (gap from at : ℕ) (xs : List Span) → Rises gap from xs → IsPlace gap at xs (length (starting_below at xs))
place gap from at [] r = record { front = refl; within = omega arith; above = refl; rest = tt; search = refl }
place gap from at (x ∷ xs) r =
    elim (cases_lt x.at at) [
      | inl lt ↦
          let e : starting_below at (x ∷ xs) ≡ x ∷ starting_below at xs = kept (λ span. ltb span.at at) x xs (lt-ltb x.at at lt) in
          let h = place gap (end_of x + gap) at xs r.2 in
          let P : List Span → Type 0 = λ l. IsPlace gap at (x ∷ xs) (length l) in
          let within = h.within in
          subst P (sym e) (record {
            front = e ∙ ap (λ l. x ∷ l) h.front;
            within = omega arith;
            above = above_skip at x xs lt ∙ h.above;
            rest = h.rest;
            search = passed_by (begins at) x xs (ne_eqb x.at at (λ same. omega arith)) ∙ h.search;
          })
      | inr ge ↦
          let e : starting_below at (x ∷ xs) ≡ [] = none_below gap x.at at (x ∷ xs) ge (omega arith, r.1, r.2) in
          let P : List Span → Type 0 = λ l. IsPlace gap at (x ∷ xs) (length l) in
          subst P (sym e) (record { front = e; within = omega arith; above = refl; rest = (ge, r.1, r.2); search = refl })
    ]

-- ---- a span that avoids a list

-- no span begins inside another that the list avoids, so both of its ends have one place
pub same_place : (gap from : ℕ) (span : Span) (xs : List Span) → Rises gap from xs → ((k : ℕ) (d : Span) → k < length xs → (end_of (get_or xs k d) ≤ span.at) ⊎ (end_of span ≤ (get_or xs k d).at)) →
    starting_below (end_of span) xs ≡ starting_below span.at xs
same_place gap from span [] r apart = refl
same_place gap from span (x ∷ xs) r apart =
    let rest = same_place gap (end_of x + gap) span xs r.2 (λ k d lt. apart (suc k) d (omega arith)) in
    elim (apart 0 x (omega arith)) [
      | inl before ↦
          kept (λ s. ltb s.at (end_of span)) x xs (lt-ltb x.at (end_of span) (omega (arith, r.1)))
          ∙ ap (λ l. x ∷ l) rest ∙ sym (kept (λ s. ltb s.at span.at) x xs (lt-ltb x.at span.at (omega (arith, r.1))))
      | inr behind ↦
          left_out (λ s. ltb s.at (end_of span)) x xs (le-ltb x.at (end_of span) behind)
          ∙ rest ∙ sym (left_out (λ s. ltb s.at span.at) x xs (le-ltb x.at span.at (omega arith)))
    ]

-- ---- what begins at an offset

none_above : (gap at : ℕ) (y : Span) (ys : List Span) → at < y.at → 0 < y.len → Rises gap (end_of y + gap) ys → find (begins at) ys ≡ None
none_above gap at y ys lt some r = none_at gap (end_of y + gap) at ys (omega arith) r

pub none_begins : (gap at : ℕ) (ys : List Span) → Rises gap at ys → ((d : Span) → 0 < length ys → (get_or ys 0 d).at ≡ at → ⊥) → (starting_above at ys ≡ ys) × (find (begins at) ys ≡ None) × (free_to at ys ≡ at)
none_begins gap at [] r ne = (refl, refl, refl)
none_begins gap at (y ∷ ys) r ne =
    let not_here = ne y (omega arith) in
    let lt : at < y.at = omega (arith, r.0, not_here) in
    let up : Rises gap y.at (y ∷ ys) = (omega arith, r.1, r.2) in
    let none : find (begins at) (y ∷ ys) ≡ None =
    passed_by (begins at) y ys (ne_eqb y.at at not_here) ∙ none_above gap at y ys lt r.1 r.2 in
    (all_above gap y.at at (y ∷ ys) lt up, none, free_to_none gap y.at at (y ∷ ys) lt up)

-- ---- replacing the span at a place

above_skip_equal : (gap : ℕ) (x : Span) (xs : List Span) → 0 < x.len → Rises gap (end_of x + gap) xs → starting_above x.at (x ∷ xs) ≡ xs
above_skip_equal gap x xs some r = above_first gap x.at x xs refl (omega arith) r

pub at_place : (gap from : ℕ) (xs : List Span) (k : ℕ) (d : Span) → Rises gap from xs → k < length xs →
    (starting_below (get_or xs k d).at xs ≡ take k xs) × (starting_above (get_or xs k d).at xs ≡ drop (suc k) xs)
at_place gap from [] k d r lt = absurd (omega arith)
at_place gap from (x ∷ xs) zero d r lt =
    (none_below gap x.at x.at (x ∷ xs) (omega arith) (omega arith, r.1, r.2), above_skip_equal gap x xs r.1 r.2)
at_place gap from (x ∷ xs) (suc k) d r lt =
    let h = at_place gap (end_of x + gap) xs k d r.2 (omega arith) in
    let low = rises_at gap (end_of x + gap) xs k d r.2 (omega arith) in
    let less : x.at < (get_or xs k d).at = omega (arith, low.0, r.1) in
    (kept (λ s. ltb s.at (get_or xs k d).at) x xs (lt-ltb x.at (get_or xs k d).at less) ∙ ap (λ l. x ∷ l) h.0, above_skip (get_or xs k d).at x xs less ∙ h.1)

pub replaced_at_place : (gap from : ℕ) (new xs : List Span) (k : ℕ) (d : Span) → Rises gap from xs → k < length xs →
    replaced_at (get_or xs k d).at new xs ≡ take k xs ++ (new ++ drop (suc k) xs)
replaced_at_place gap from new xs k d r lt =
    let h = at_place gap from xs k d r lt in
    ap (λ l. l ++ (new ++ starting_above (get_or xs k d).at xs)) h.0 ∙ ap (λ l. take k xs ++ (new ++ l)) h.1

-- the first that passes
pub position_finds : (p : Span → Bool) (xs : List Span) (k : ℕ) (d : Span) → position p xs ≡ Some k → (k < length xs) × (find p xs ≡ Some (get_or xs k d))
position_finds p xs k d e =
    let parts = cond_some (ltb (position_or_len p xs) (length xs)) (position_or_len p xs) k e in
    let within : position_or_len p xs < length xs = ltb-true (position_or_len p xs) (length xs) parts.0 in
    (omega (arith, parts.1), find_at p xs ∙ slice_get-get_or xs (position_or_len p xs) d within ∙ ap (λ n. Some (get_or xs n d)) parts.1)

pub position_fails : (p : Span → Bool) (xs : List Span) → position p xs ≡ None → find p xs ≡ None
position_fails p xs e =
    elim (cases_lt (position_or_len p xs) (length xs)) [
      | inl within ↦
          absurd (none-some (position_or_len p xs) (sym e ∙ ap (λ b. cond b (Some (position_or_len p xs)) None) (lt-ltb (position_or_len p xs) (length xs) within)))
      | inr past ↦ find_at p xs ∙ slice_get_past xs (position_or_len p xs) past
    ]

-- ---- the hole that ends at an offset

pub ends_at : (from at : ℕ) (xs : List Span) (i : ℕ) (d : Span) → Rises 1 from xs → i < length xs → end_of (get_or xs i d) ≡ at →
    (ending_below at xs ≡ take i xs) × (free_from at xs ≡ (get_or xs i d).at)
ends_at from at [] i d r lt e = absurd (omega arith)
ends_at from at (x ∷ xs) zero d r lt e = (
  left_out (λ s. ltb (end_of s) at) x xs (le-ltb (end_of x) at (omega arith)) ∙ none_ending_below 1 (end_of x + 1) at xs (omega arith) r.2,
  ap (λ o. option_map_or (λ (hole : Span). hole.at) o at) (found (λ s. eqb (end_of s) at) x xs (eq-eqb (end_of x) at e)),
)
ends_at from at (x ∷ xs) (suc i) d r lt e =
    let low = rises_at 1 (end_of x + 1) xs i d r.2 (omega arith) in
    let less : end_of x < at = omega (arith, low.0) in
    let h = ends_at (end_of x + 1) at xs i d r.2 (omega arith) e in (
      kept (λ s. ltb (end_of s) at) x xs (lt-ltb (end_of x) at less) ∙ ap (λ l. x ∷ l) h.0,
      ap (λ o. option_map_or (λ (hole : Span). hole.at) o at) (passed_by (λ s. eqb (end_of s) at) x xs (ne_eqb (end_of x) at (λ same. omega arith))) ∙ h.1,
    )

first_below : (at : ℕ) (x : Span) (xs : List Span) (i : ℕ) → Rises 1 (end_of x + 1) xs → i ≤ length xs → ((j : ℕ) (d : Span) → suc j ≡ suc i → end_of (get_or (x ∷ xs) j d) < at) → end_of x < at
first_below at x xs zero r le below = below 0 x refl
first_below at x xs (suc i) r le below =
    let low = rises_at 1 (end_of x + 1) xs i x r (omega arith) in
    let up = below (suc i) x refl in
    omega (arith, low.0, up)

pub none_ends : (from at : ℕ) (xs : List Span) (i : ℕ) → Rises 1 from xs → i ≤ length xs → Rises 1 at (drop i xs) →
    ((j : ℕ) (d : Span) → suc j ≡ i → end_of (get_or xs j d) < at) →
    (ending_below at xs ≡ take i xs) × (free_from at xs ≡ at)
none_ends from at xs zero r le rest below =
    (none_ending_below 1 at at xs (omega arith) rest, ap (λ o. option_map_or (λ (hole : Span). hole.at) o at) (free_from_none 1 at at xs (omega arith) rest))
none_ends from at [] (suc i) r le rest below = absurd (omega arith)
none_ends from at (x ∷ xs) (suc i) r le rest below =
    let h = none_ends (end_of x + 1) at xs i r.2 (omega arith) rest (λ j d e. below (suc j) d (ap suc e)) in
    let less : end_of x < at = first_below at x xs i r.2 (omega arith) below in (
      kept (λ s. ltb (end_of s) at) x xs (lt-ltb (end_of x) at less) ∙ ap (λ l. x ∷ l) h.0,
      ap (λ o. option_map_or (λ (hole : Span). hole.at) o at) (passed_by (λ s. eqb (end_of s) at) x xs (ne_eqb (end_of x) at (λ same. omega arith))) ∙ h.1,
    )

-- what a read before a place found
pub ends_here : (at : ℕ) (xs : List Span) (place : ℕ) (hole : Span) → Rises 1 0 xs → 0 < place → place ≤ length xs → hole ≡ get_or xs (place - 1) hole → end_of hole ≡ at →
    (take (place - 1) xs ≡ ending_below at xs) × (hole.at ≡ free_from at xs)
ends_here at xs place hole r some le read e =
    let h = ends_at 0 at xs (place - 1) hole r (omega arith) (ap end_of (sym read) ∙ e) in
    (sym h.0, ap (λ (s : Span). s.at) read ∙ sym h.1)

pub ends_lower : (at : ℕ) (xs : List Span) (place : ℕ) (hole : Span) → Rises 1 0 xs → IsPlace 1 at xs place → 0 < place → hole ≡ get_or xs (place - 1) hole → end_of hole < at →
    (take place xs ≡ ending_below at xs) × (at ≡ free_from at xs)
ends_lower at xs place hole r is some read less =
    let within = is.within in
    let last : (j : ℕ) (d : Span) → suc j ≡ place → end_of (get_or xs j d) < at =
    λ j d e.
    let same : get_or xs j d ≡ hole =
    get_or_default xs j d hole (omega arith) ∙ ap (λ n. get_or xs n hole) (let h : j ≡ place - 1 = omega arith in h) ∙ sym read in
    omega (arith, ap end_of same) in
    let h = none_ends 0 at xs place r within is.rest last in
    (sym h.0, sym h.1)

pub ends_nowhere : (at : ℕ) (xs : List Span) (place : ℕ) → Rises 1 0 xs → IsPlace 1 at xs place → place ≤ 0 → (take place xs ≡ ending_below at xs) × (at ≡ free_from at xs)
ends_nowhere at xs place r is none =
    let h = none_ends 0 at xs place r is.within is.rest (λ j d e. absurd (omega arith)) in
    (sym h.0, sym h.1)

-- what stands at a place is the first of the rest
pub rest_begins : (at : ℕ) (xs : List Span) (place : ℕ) → ((d : Span) → place < length xs → (get_or xs place d).at ≡ at → ⊥) →
    (d : Span) → 0 < length (drop place xs) → (get_or (drop place xs) 0 d).at ≡ at → ⊥
rest_begins at xs place ne d lt same =
    let long = length-drop place xs in
    let read : get_or (drop place xs) 0 d ≡ get_or xs place d = get_or-drop place xs 0 d ∙ ap (λ n. get_or xs n d) (let h : place + 0 ≡ place = omega arith in h) in
    ne d (omega arith) (ap (λ (s : Span). s.at) (sym read) ∙ same)

-- ---- the hole that begins at an offset, by what a read at a place found

free_to_at_place : (at : ℕ) (xs : List Span) (place : ℕ) → IsPlace 1 at xs place → free_to at xs ≡ free_to at (drop place xs)
free_to_at_place at xs place is = ap (λ o. option_map_or end_of o at) is.search

pub begins_here : (at : ℕ) (xs : List Span) (place : ℕ) (hole : Span) → IsPlace 1 at xs place → place < length xs → hole ≡ get_or xs place hole → hole.at ≡ at →
    (drop (place + 1) xs ≡ starting_above at xs) × (end_of hole ≡ free_to at xs)
begins_here at xs place hole is lt read e =
    let split : drop place xs ≡ hole ∷ drop (place + 1) xs = drop_more xs place hole lt ∙ ap (λ s. s ∷ drop (place + 1) xs) (sym read) in
    let rest : Rises 1 at (hole ∷ drop (place + 1) xs) = subst (Rises 1 at) split is.rest in (
      sym (is.above ∙ ap (starting_above at) split ∙ above_first 1 at hole (drop (place + 1) xs) e (omega (arith, rest.1)) rest.2),
      sym (free_to_at_place at xs place is ∙ ap (free_to at) split ∙ free_to_first at hole (drop (place + 1) xs) e),
    )

pub begins_nowhere : (at : ℕ) (xs : List Span) (place : ℕ) → IsPlace 1 at xs place → ((d : Span) → place < length xs → (get_or xs place d).at ≡ at → ⊥) →
    (drop place xs ≡ starting_above at xs) × (at ≡ free_to at xs)
begins_nowhere at xs place is ne =
    let none = none_begins 1 at (drop place xs) is.rest (rest_begins at xs place ne) in
    (sym (is.above ∙ none.0), sym (free_to_at_place at xs place is ∙ none.2))

pub begins_other : (at : ℕ) (xs : List Span) (place : ℕ) (hole : Span) → IsPlace 1 at xs place → hole ≡ get_or xs place hole → (hole.at ≡ at → ⊥) →
    (drop place xs ≡ starting_above at xs) × (at ≡ free_to at xs)
begins_other at xs place hole is read ne =
    begins_nowhere at xs place is (λ d lt same. ne (ap (λ (s : Span). s.at) (read ∙ get_or_default xs place hole d lt) ∙ same))

-- ---- a new block in its place

pub placed : (block : Span) (xs : List Span) → Rises 0 0 xs → Avoids block xs → 0 < block.len → insert xs (length (starting_below block.at xs)) block ≡ replaced_at block.at (block ∷ []) xs
placed block xs r avoids some =
    let i = length (starting_below block.at xs) in
    let is = place 0 0 block.at xs r in
    let none = none_begins 0 block.at (drop i xs) is.rest
    (rest_begins block.at xs i
    (λ d within here.
    let inside = rises_at 0 0 xs i d r within in
    elim (avoids i d within) [ inl before ↦ omega (arith, inside.1, here) | inr behind ↦ omega (arith, here) ])) in
    sym (ap (λ l. l ++ (block ∷ starting_above block.at xs)) is.front ∙ ap (λ l. take i xs ++ block ∷ l) (is.above ∙ none.0))

-- ---- a hole cut

pub spelled_span : (at len at' len' : ℕ) → at ≡ at' → len ≡ len' → ◌≡◌ {A = Span} (record { at = at; len = len }) (record { at = at'; len = len' })
spelled_span at len at' len' e g = cc

pub cut_items : (xs : List Span) (place : ℕ) (hole : Span) (size at len : ℕ) → place < length xs → size < hole.len → at ≡ hole.at → len ≡ hole.len →
    set xs place (record { at = at + size; len = len - size }) ≡ take place xs ++ (hole_between (hole.at + size) (end_of hole) ++ drop (place + 1) xs)
cut_items xs place hole size at len lt less same_at same_len =
    let some : hole_between (hole.at + size) (end_of hole) ≡ span_between (hole.at + size) (end_of hole) ∷ [] =
    ap (λ b. cond b (span_between (hole.at + size) (end_of hole) ∷ []) []) (lt-ltb (hole.at + size) (end_of hole) (omega arith)) in
    let begin : at + size ≡ hole.at + size = omega arith in
    let long : len - size ≡ end_of hole - (hole.at + size) = omega arith in
    let made : Span = record { at = at + size; len = len - size } in
    let same : made ≡ span_between (hole.at + size) (end_of hole) = spelled_span (at + size) (len - size) (hole.at + size) (end_of hole - (hole.at + size)) begin long in
    set_split xs place made lt ∙ ap (λ s. take place xs ++ s ∷ drop (suc place) xs) same
    ∙ ap (λ n. take place xs ++ span_between (hole.at + size) (end_of hole) ∷ drop n xs) (let h : suc place ≡ place + 1 = omega arith in h)
    ∙ ap (λ l. take place xs ++ (l ++ drop (place + 1) xs)) (sym some)

-- ---- some spans replaced by one

pub written : (xs : List Span) (first last : ℕ) (span : Span) → first < length xs → last ≡ first + 1 → set xs first span ≡ take first xs ++ span ∷ drop last xs
written xs first last span lt e =
    set_split xs first span lt ∙ ap (λ n. take first xs ++ span ∷ drop n xs) (let h : suc first ≡ last = omega arith in h)

-- ---- the ends of what is merged

pub free_from_low : (at : ℕ) (xs : List Span) → free_from at xs ≤ at
free_from_low at xs =
    elim (either (find (λ span. eqb (end_of span) at) xs)) [
      | inl none ↦ omega (arith, ap (λ o. option_map_or (λ (hole : Span). hole.at) o at) none)
      | inr some ↦
          let passes = eqb-true (end_of some.0) at (find_passes (λ span. eqb (end_of span) at) xs some.0 some.1) in
          omega (arith, ap (λ o. option_map_or (λ (hole : Span). hole.at) o at) some.1)
    ]

pub free_to_high : (at : ℕ) (xs : List Span) → at ≤ free_to at xs
free_to_high at xs =
    elim (either (find (λ span. eqb span.at at) xs)) [
      | inl none ↦ omega (arith, ap (λ o. option_map_or end_of o at) none)
      | inr some ↦
          let passes = eqb-true some.0.at at (find_passes (λ span. eqb span.at at) xs some.0 some.1) in
          omega (arith, ap (λ o. option_map_or end_of o at) some.1)
    ]

-- ---- a block that may join the holes

pub below_place : (gap from at : ℕ) (xs : List Span) (k : ℕ) (d : Span) → Rises gap from xs → k < length (starting_below at xs) → (get_or xs k d).at < at
below_place gap from at [] k d r lt = absurd (omega arith)
below_place gap from at (x ∷ xs) zero d r lt =
    elim (cases_lt x.at at) [
      | inl less ↦ less
      | inr high ↦ absurd (let h = ap length (none_below gap x.at at (x ∷ xs) high (omega arith, r.1, r.2)) in omega arith)
    ]
below_place gap from at (x ∷ xs) (suc k) d r lt =
    elim (cases_lt x.at at) [
      | inl less ↦
          let h = ap length (kept (λ s. ltb s.at at) x xs (lt-ltb x.at at less)) in
          below_place gap (end_of x + gap) at xs k d r.2 (omega arith)
      | inr high ↦ absurd (let h = ap length (none_below gap x.at at (x ∷ xs) high (omega arith, r.1, r.2)) in omega arith)
    ]

pub join_place : (block : Span) (xs : List Span) (at i : ℕ) → MayJoin xs block → at ≡ block.at → i ≡ length (starting_below at xs) → IsPlace 1 at xs i
join_place block xs at i may e count = subst (IsPlace 1 at xs) (sym count) (place 1 0 at xs may.rises)

pub join_place_behind : (block : Span) (xs : List Span) (at to i : ℕ) → MayJoin xs block → at ≡ block.at → to ≡ end_of block → i ≡ length (starting_below at xs) → IsPlace 1 to xs i
join_place_behind block xs at to i may e g count =
    let P : ℕ → Type 0 = λ n. IsPlace 1 n xs i in
    let same : length (starting_below (end_of block) xs) ≡ i =
    ap length (same_place 1 0 block xs may.rises may.avoids) ∙ ap (λ n. length (starting_below n xs)) (sym e) ∙ sym count in
    subst P (sym g) (subst (IsPlace 1 (end_of block) xs) same (place 1 0 (end_of block) xs may.rises))

pub join_apart : (block : Span) (xs : List Span) (at i : ℕ) → MayJoin xs block → at ≡ block.at → i ≡ length (starting_below at xs) → (k : ℕ) (d : Span) → 0 ≤ k → k < i → end_of (get_or xs k d) ≤ at
join_apart block xs at i may e count k d low lt =
    let is = join_place block xs at i may e count in
    let within = is.within in
    let below = below_place 1 0 at xs k d may.rises (omega arith) in
    elim (may.avoids k d (omega arith)) [ inl before ↦ omega arith | inr behind ↦ absurd (omega arith) ]
