-- A block among the holes, merged with those that it touches: an element of the list at a time.
use Rattle.std.proofs.Common.{◌≡◌, ℕ, ◌+◌, ◌<◌, ◌≤◌, eqb, ltb, None, List, [], ◌∷◌, ◌++◌, refl, ◌∙◌, ap, arith}
use Rattle.std.specs.Prelude.{find}
use Rattle.std.specs.Option.{option_map_or}
use Rattle.std.proofs.lemmas.Bool.{lt-ltb, le-ltb, eq-eqb, ne_eqb}
use Rattle.cv_word.specs.Heap.{Span, end_of, span_between, starting_above, ending_below, free_from, free_to, merged}
use Rattle.two_heaps.specs.Kept.{Rises}
use Rattle.two_heaps.proofs.Ordered.{kept, left_out, found, passed_by, none_at, all_above}

-- ---- behind a place

pub free_to_none : (gap from at : ℕ) (xs : List Span) → at < from → Rises gap from xs → free_to at xs ≡ at
free_to_none gap from at xs lt r = ap (λ o. option_map_or end_of o at) (none_at gap from at xs lt r)

pub free_to_first : (at : ℕ) (x : Span) (xs : List Span) → x.at ≡ at → free_to at (x ∷ xs) ≡ end_of x
free_to_first at x xs e = ap (λ o. option_map_or end_of o at) (found (λ span. eqb span.at at) x xs (eq-eqb x.at at e))

pub free_to_skip : (at : ℕ) (x : Span) (xs : List Span) → x.at < at → free_to at (x ∷ xs) ≡ free_to at xs
free_to_skip at x xs lt = ap (λ o. option_map_or end_of o at) (passed_by (λ span. eqb span.at at) x xs (ne_eqb x.at at (λ e. omega arith)))

pub above_first : (gap at : ℕ) (x : Span) (xs : List Span) → x.at ≡ at → at < end_of x + gap → Rises gap (end_of x + gap) xs → starting_above at (x ∷ xs) ≡ xs
above_first gap at x xs e lt r =
    left_out (λ span. ltb at span.at) x xs (le-ltb at x.at (omega arith)) ∙ all_above gap (end_of x + gap) at xs lt r

pub above_skip : (at : ℕ) (x : Span) (xs : List Span) → x.at < at → starting_above at (x ∷ xs) ≡ starting_above at xs
above_skip at x xs lt = left_out (λ span. ltb at span.at) x xs (le-ltb at x.at (omega arith))

-- ---- before a place

pub free_from_none : (gap from at : ℕ) (xs : List Span) → at ≤ from → Rises gap from xs → find (λ span. eqb (end_of span) at) xs ≡ None
free_from_none gap from at [] le r = refl
free_from_none gap from at (x ∷ xs) le r =
    let behind : at < end_of x = omega (arith, r.0, r.1) in
    passed_by (λ span. eqb (end_of span) at) x xs (ne_eqb (end_of x) at (λ e. omega arith))
    ∙ free_from_none gap (end_of x + gap) at xs (omega arith) r.2

pub none_ending_below : (gap from at : ℕ) (xs : List Span) → at ≤ from → Rises gap from xs → ending_below at xs ≡ []
none_ending_below gap from at [] le r = refl
none_ending_below gap from at (x ∷ xs) le r =
    let behind : at < end_of x = omega (arith, r.0, r.1) in
    left_out (λ span. ltb (end_of span) at) x xs (le-ltb (end_of x) at (omega arith))
    ∙ none_ending_below gap (end_of x + gap) at xs (omega arith) r.2

-- ---- the merged list

-- a hole that ends below the block stays in front
pub merged_skip : (block x : Span) (xs : List Span) → x.at ≤ end_of x → end_of x < block.at → merged block (x ∷ xs) ≡ x ∷ merged block xs
merged_skip block x xs le lt =
    let lower : ending_below block.at (x ∷ xs) ≡ x ∷ ending_below block.at xs = kept (λ span. ltb (end_of span) block.at) x xs (lt-ltb (end_of x) block.at lt) in
    let begins : free_from block.at (x ∷ xs) ≡ free_from block.at xs =
    ap (λ o. option_map_or (λ (hole : Span). hole.at) o block.at) (passed_by (λ span. eqb (end_of span) block.at) x xs (ne_eqb (end_of x) block.at (λ e. omega arith))) in
    let ends : free_to (end_of block) (x ∷ xs) ≡ free_to (end_of block) xs = free_to_skip (end_of block) x xs (omega arith) in
    let upper : starting_above (end_of block) (x ∷ xs) ≡ starting_above (end_of block) xs = above_skip (end_of block) x xs (omega arith) in
    ap (λ l. l ++ span_between (free_from block.at (x ∷ xs)) (free_to (end_of block) (x ∷ xs)) ∷ starting_above (end_of block) (x ∷ xs)) lower
    ∙ ap (λ n. x ∷ (ending_below block.at xs ++ span_between n (free_to (end_of block) (x ∷ xs)) ∷ starting_above (end_of block) (x ∷ xs))) begins
    ∙ ap (λ n. x ∷ (ending_below block.at xs ++ span_between (free_from block.at xs) n ∷ starting_above (end_of block) (x ∷ xs))) ends
    ∙ ap (λ l. x ∷ (ending_below block.at xs ++ span_between (free_from block.at xs) (free_to (end_of block) xs) ∷ l)) upper

-- all holes are behind the block
pub merged_first : (gap from : ℕ) (block : Span) (xs : List Span) → block.at ≤ from → Rises gap from xs →
    merged block xs ≡ span_between block.at (free_to (end_of block) xs) ∷ starting_above (end_of block) xs
merged_first gap from block xs le r =
    let begins : free_from block.at xs ≡ block.at = ap (λ o. option_map_or (λ (hole : Span). hole.at) o block.at) (free_from_none gap from block.at xs le r) in
    ap (λ l. l ++ span_between (free_from block.at xs) (free_to (end_of block) xs) ∷ starting_above (end_of block) xs) (none_ending_below gap from block.at xs le r)
    ∙ ap (λ n. span_between n (free_to (end_of block) xs) ∷ starting_above (end_of block) xs) begins

-- the first hole ends at the block, and all others are behind it
pub merged_onto : (gap from : ℕ) (block x : Span) (xs : List Span) → 0 < x.len → 0 < block.len → end_of x ≡ block.at → block.at ≤ from → Rises gap from xs →
    merged block (x ∷ xs) ≡ span_between x.at (free_to (end_of block) xs) ∷ starting_above (end_of block) xs
merged_onto gap from block x xs some out e le r =
    let lower : ending_below block.at (x ∷ xs) ≡ [] =
    left_out (λ span. ltb (end_of span) block.at) x xs (le-ltb (end_of x) block.at (omega arith)) ∙ none_ending_below gap from block.at xs le r in
    let begins : free_from block.at (x ∷ xs) ≡ x.at =
    ap (λ o. option_map_or (λ (hole : Span). hole.at) o block.at) (found (λ span. eqb (end_of span) block.at) x xs (eq-eqb (end_of x) block.at e)) in
    let ends : free_to (end_of block) (x ∷ xs) ≡ free_to (end_of block) xs = free_to_skip (end_of block) x xs (omega arith) in
    let upper : starting_above (end_of block) (x ∷ xs) ≡ starting_above (end_of block) xs = above_skip (end_of block) x xs (omega arith) in
    ap (λ l. l ++ span_between (free_from block.at (x ∷ xs)) (free_to (end_of block) (x ∷ xs)) ∷ starting_above (end_of block) (x ∷ xs)) lower
    ∙ ap (λ n. span_between n (free_to (end_of block) (x ∷ xs)) ∷ starting_above (end_of block) (x ∷ xs)) begins
    ∙ ap (λ n. span_between x.at n ∷ starting_above (end_of block) (x ∷ xs)) ends
    ∙ ap (λ l. span_between x.at (free_to (end_of block) xs) ∷ l) upper
