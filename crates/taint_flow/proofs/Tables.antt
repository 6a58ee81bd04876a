-- The table of the items' numbers by blocks of the code.
use Rattle.std.proofs.Common.{subst, ◌≡◌, ℕ, zero, suc, ◌+◌, ◌/◌, ◌^◌, ◌<◌, ◌≤◌, ◌≢◌, min, List, [], ◌∷◌, length, set, get_or, refl, sym, ◌∙◌, ap, arith, Some, None, inl, inr, ◌⊎◌}
use Rattle.std.specs.Prelude.{slice_index, ◌==◌}
use Rattle.std.specs.List.{slice_get}
use Rattle.std.proofs.lemmas.Option.{same_Some, none-some, slice_get_within, slice_get-get_or, slice_get_cases}
use Rattle.std.proofs.lemmas.Bool.{cases_eq, cases_lt, cond-true, cond-false, eq-eqb, ne_eqb}
use Rattle.std.proofs.lemmas.List.{get_or-set_same, get_or-set_other}
use Rattle.std.proofs.Math.Nat.{min-le_left, min-le_right}
use Rattle.code_sweep.specs.declared.item.Placed.{Placed}
use Rattle.taint_flow.specs.Places.{Rise, StandInOrder, BeginsNowhereBelow, FindsItems, NumbersItems, number_from, number_at}

-- an item's place is at least its number
pub place_above : (items : List Placed) (code : List ℕ) → StandInOrder items code → (i : ℕ) (p : Placed) → slice_get items i ≡ Some p → i ≤ p.at
place_above items code o zero p h = omega arith
place_above items code o (suc i) p h =
    let within : suc i < length items = slice_get_within items (suc i) p h in
    let before : slice_get items i ≡ Some (get_or items i p) = slice_get-get_or items i p (omega arith) in
    let low : i ≤ (get_or items i p).at = place_above items code o i (get_or items i p) before in
    let rise : (get_or items i p).at < p.at = o.rising i (suc i) (get_or items i p) p before h (omega arith) in
    omega arith

last_small : (items : List Placed) (code : List ℕ) → StandInOrder items code → (n : ℕ) → length items ≡ suc n →
    ((x : Placed) × (n < length items) × (slice_get items n ≡ Some x) × (get_or items n x ≡ x)) ⊎ ((length items ≤ n) × (slice_get items n ≡ None)) →
    length items ≤ length code
last_small items code o n e (inl x) =
    let low : n ≤ x.0.at = place_above items code o n x.0 x.2 in
    let high : x.0.at < length code = o.inside n x.0 x.2 in
    omega arith
last_small items code o n e (inr x) = let past = x.0 in omega arith

count_at : (items : List Placed) (code : List ℕ) → StandInOrder items code → (n : ℕ) → length items ≡ n → length items ≤ length code
count_at items code o zero e = omega arith
count_at items code o (suc n) e = last_small items code o n e (slice_get_cases items n).1

-- there are no more items than bytes
pub count_small : (items : List Placed) (code : List ℕ) → StandInOrder items code → length items ≤ length code
count_small items code o = count_at items code o (length items) refl

-- ---- the table, item by item

-- the first so many items are found from their blocks' entries on
abbrev pub FindsFirst : List Placed → ℕ → List ℕ → Type 0
FindsFirst items count firsts = (j : ℕ) (q : Placed) → j < count → slice_get items j ≡ Some q → slice_index firsts (q.at / 8) ≤ j

-- the table after item i, which begins in the block
abbrev pub with_first : List ℕ → ℕ → ℕ → List ℕ
with_first firsts block i = set firsts block (min (slice_index firsts block) i)

finds_older : (items : List Placed) (firsts : List ℕ) (i block j : ℕ) (q : Placed) → block < length firsts → FindsFirst items i firsts → j < i →
    slice_get items j ≡ Some q → (q.at / 8 ≡ block) ⊎ (q.at / 8 ≢ block) → slice_index (with_first firsts block i) (q.at / 8) ≤ j
finds_older items firsts i block j q inside old less there (inl same) =
    let now : slice_index (with_first firsts block i) (q.at / 8) ≡ min (slice_index firsts block) i =
    ap (λ (b : ℕ). slice_index (with_first firsts block i) b) same ∙ get_or-set_same firsts block (min (slice_index firsts block) i) 0 inside in
    let was : slice_index firsts block ≤ j = subst (λ (b : ℕ). slice_index firsts b ≤ j) same (old j q less there) in
    let low = min-le_left (slice_index firsts block) i in
    omega (arith, now, was, low)
finds_older items firsts i block j q inside old less there (inr other) =
    subst (λ (n : ℕ). n ≤ j) (sym (get_or-set_other firsts block (q.at / 8) (min (slice_index firsts block) i) 0 other)) (old j q less there)

finds_new : (items : List Placed) (firsts : List ℕ) (i : ℕ) (p : Placed) → p.at / 8 < length firsts →
    slice_index (with_first firsts (p.at / 8) i) (p.at / 8) ≤ i
finds_new items firsts i p inside =
    let now = get_or-set_same firsts (p.at / 8) (min (slice_index firsts (p.at / 8)) i) 0 inside in
    let low = min-le_right (slice_index firsts (p.at / 8)) i in
    subst (λ (n : ℕ). n ≤ i) (sym now) low

finds_each : (items : List Placed) (firsts : List ℕ) (i : ℕ) (p : Placed) → slice_get items i ≡ Some p → p.at / 8 < length firsts →
    FindsFirst items i firsts → (j : ℕ) (q : Placed) → j < i + 1 → slice_get items j ≡ Some q → (j ≡ i) ⊎ (j ≢ i) →
    slice_index (with_first firsts (p.at / 8) i) (q.at / 8) ≤ j
finds_each items firsts i p here inside old j q less there (inl e) =
    let same : p ≡ q = same_Some p q (sym here ∙ (ap (λ (n : ℕ). slice_get items n) (sym e) ∙ there)) in
    let new = finds_new items firsts i p inside in
    subst (λ (n : ℕ). slice_index (with_first firsts (p.at / 8) i) (q.at / 8) ≤ n) (sym e)
    (subst (λ (x : Placed). slice_index (with_first firsts (p.at / 8) i) (x.at / 8) ≤ i) same new)
finds_each items firsts i p here inside old j q less there (inr n) =
    finds_older items firsts i (p.at / 8) j q inside old (omega arith) there (cases_eq (q.at / 8) (p.at / 8))

pub finds_more : (items : List Placed) (firsts : List ℕ) (i : ℕ) (p : Placed) (first : ℕ) → slice_get items i ≡ Some p → p.at / 8 < length firsts →
    first ≡ min (slice_index firsts (p.at / 8)) i → FindsFirst items i firsts → FindsFirst items (i + 1) (set firsts (p.at / 8) first)
finds_more items firsts i p first here inside least old =
    subst (λ (n : ℕ). FindsFirst items (i + 1) (set firsts (p.at / 8) n)) (sym least)
    (λ j q less there. finds_each items firsts i p here inside old j q less there (cases_eq j i))

-- an item's block lies in the table
pub block_inside : (items : List Placed) (code : List ℕ) (i : ℕ) (p : Placed) → StandInOrder items code → slice_get items i ≡ Some p →
    p.at / 8 < length code / 8 + 1
block_inside items code i p order here = let inside : p.at < length code = order.inside i p here in omega (arith, inside)

pub finds_items : (items : List Placed) (code firsts : List ℕ) (count : ℕ) → StandInOrder items code → length code < 2 ^ 32 →
    length firsts ≡ length code / 8 + 1 → length items ≤ count → FindsFirst items count firsts → FindsItems items firsts
finds_items items code firsts count order limit len all found = record {
  rising = order.rising;
  limit = let small = count_small items code order in omega (arith, small);
  inside = λ i p here. let in_block = block_inside items code i p order here in omega (arith, in_block, len);
  first = λ i p here. let within = slice_get_within items i p here in found i p (omega (arith, within, all)) here;
}

-- ---- the number of an item by the definition

step_over : (i : ℕ) (p : Placed) (ps : List Placed) (place : ℕ) → p.at ≢ place → number_from i (p ∷ ps) place ≡ number_from (suc i) ps place
step_over i p ps place n = cond-false (p.at == place) (Some i) (number_from (suc i) ps place) (ne_eqb p.at place n)

pub found_from : (items : List Placed) (i j place : ℕ) (q : Placed) → slice_get items j ≡ Some q → q.at ≡ place → BeginsNowhereBelow items j place →
    number_from i items place ≡ Some (i + j)
found_from [] i j place q e at none = absurd (none-some q e)
found_from (p ∷ ps) i zero place q e at none =
    let same : p.at ≡ place = ap (λ (x : Placed). x.at) (same_Some p q e) ∙ at in
    cond-true (p.at == place) (Some i) (number_from (suc i) ps place) (eq-eqb p.at place same) ∙ ap (λ (n : ℕ). Some n) (omega arith)
found_from (p ∷ ps) i (suc j) place q e at none =
    step_over i p ps place (none 0 p (omega arith) refl)
    ∙ found_from ps (suc i) j place q e at (λ k x less there. none (suc k) x (omega arith) there)
    ∙ ap (λ (n : ℕ). Some n) (omega arith)

pub none_from : (items : List Placed) (i place : ℕ) → BeginsNowhereBelow items (length items) place → number_from i items place ≡ None
none_from [] i place none = refl
none_from (p ∷ ps) i place none =
    step_over i p ps place (none 0 p (omega arith) refl) ∙ none_from ps (suc i) place (λ k x less there. none (suc k) x (omega arith) there)

abbrev Numbered : List Placed → ℕ → ℕ → ℕ → Type 0
Numbered items i place j = (n : ℕ) × (j ≡ i + n) × ((q : Placed) × (slice_get items n ≡ Some q) × (q.at ≡ place))

numbered_behind : (p : Placed) (ps : List Placed) (i place j : ℕ) → Numbered ps (suc i) place j → Numbered (p ∷ ps) i place j
numbered_behind p ps i place j h = let at : j ≡ suc i + h.0 = h.1 in (suc h.0, omega arith, h.2)

number_at_head : (p : Placed) (ps : List Placed) (i place j : ℕ) → (number_from (suc i) ps place ≡ Some j → Numbered ps (suc i) place j) →
    number_from i (p ∷ ps) place ≡ Some j → (p.at ≡ place) ⊎ (p.at ≢ place) → Numbered (p ∷ ps) i place j
number_at_head p ps i place j behind e (inl at) =
    let same : i ≡ j = same_Some i j (sym (cond-true (p.at == place) (Some i) (number_from (suc i) ps place) (eq-eqb p.at place at)) ∙ e) in
    (0, omega arith, (p, refl, at))
number_at_head p ps i place j behind e (inr n) = numbered_behind p ps i place j (behind (sym (step_over i p ps place n) ∙ e))

number_is : (items : List Placed) (i place j : ℕ) → number_from i items place ≡ Some j → Numbered items i place j
number_is [] i place j e = absurd (none-some j e)
number_is (p ∷ ps) i place j e = number_at_head p ps i place j (λ h. number_is ps (suc i) place j h) e (cases_eq p.at place)

-- the items before one that begins at a place don't begin there
pub nowhere_below : (items : List Placed) (j : ℕ) (q : Placed) → Rise items → slice_get items j ≡ Some q → BeginsNowhereBelow items j q.at
nowhere_below items j q rise there k p less e = let low : p.at < q.at = rise k j p q e there less in λ same. absurd (omega arith)

only_at : (items : List Placed) (place j : ℕ) → Numbered items 0 place j → (q : Placed) × (slice_get items j ≡ Some q) × (q.at ≡ place)
only_at items place j h =
    let same : h.0 ≡ j = omega (arith, h.1) in
    (h.2.0, subst (λ (n : ℕ). slice_get items n ≡ Some h.2.0) same h.2.1, h.2.2)

-- of items in order the definition gives the numbers
pub numbers_items : (items : List Placed) → Rise items → NumbersItems items (number_at items)
numbers_items items rise = record {
  each = λ j q there. found_from items 0 j q.at q there refl (nowhere_below items j q rise there) ∙ ap (λ (n : ℕ). Some n) (omega arith);
  only = λ place j e. only_at items place j (number_is items 0 place j e);
}

-- ---- the search of a block

-- an item begins at the place
pub search_found : (items : List Placed) (j place : ℕ) (q : Placed) → slice_get items j ≡ Some q → q.at ≡ place → BeginsNowhereBelow items j place →
    number_at items place ≡ Some j
search_found items j place q there at none = found_from items 0 j place q there at none ∙ ap (λ (n : ℕ). Some n) (omega arith)

passed_from : (items : List Placed) (j place : ℕ) (q : Placed) → Rise items → slice_get items j ≡ Some q → place < q.at →
    (k : ℕ) (p : Placed) → slice_get items k ≡ Some p → j ≤ k → (k ≡ j) ⊎ (k ≢ j) → p.at ≢ place
passed_from items j place q rise there high k p e more (inl same) =
    let is : q ≡ p = same_Some q p (sym there ∙ (ap (λ (n : ℕ). slice_get items n) (sym same) ∙ e)) in
    let at : q.at ≡ p.at = ap (λ (x : Placed). x.at) is in
    λ here. absurd (omega arith)
passed_from items j place q rise there high k p e more (inr n) =
    let up : q.at < p.at = rise j k q p there e (omega arith) in λ here. absurd (omega arith)

passed_each : (items : List Placed) (j place : ℕ) (q : Placed) → Rise items → slice_get items j ≡ Some q → place < q.at →
    BeginsNowhereBelow items j place → (k : ℕ) (p : Placed) → slice_get items k ≡ Some p → (k < j) ⊎ (j ≤ k) → p.at ≢ place
passed_each items j place q rise there high none k p e (inl less) = none k p less e
passed_each items j place q rise there high none k p e (inr more) = passed_from items j place q rise there high k p e more (cases_eq k j)

-- none of the items begins at a place that one of them has passed, where none before it does
pub search_passed : (items : List Placed) (j place : ℕ) (q : Placed) → Rise items → slice_get items j ≡ Some q → place < q.at →
    BeginsNowhereBelow items j place → number_at items place ≡ None
search_passed items j place q rise there high none =
    none_from items 0 place (λ k p less e. passed_each items j place q rise there high none k p e (cases_lt k j))

-- none of the items begins at the place
pub none_upto : (items : List Placed) (j place : ℕ) → length items ≤ j → BeginsNowhereBelow items j place → number_at items place ≡ None
none_upto items j place all none = none_from items 0 place (λ k p less e. none k p (omega arith) e)

nowhere_each : (items : List Placed) (j place : ℕ) (q : Placed) → slice_get items j ≡ Some q → q.at ≢ place → BeginsNowhereBelow items j place →
    (k : ℕ) (p : Placed) → k < j + 1 → slice_get items k ≡ Some p → (k ≡ j) ⊎ (k ≢ j) → p.at ≢ place
nowhere_each items j place q there n none k p less e (inl same) =
    let is : q ≡ p = same_Some q p (sym there ∙ (ap (λ (m : ℕ). slice_get items m) (sym same) ∙ e)) in
    subst (λ (x : Placed). x.at ≢ place) is n
nowhere_each items j place q there n none k p less e (inr other) = none k p (omega arith) e

-- one more item doesn't begin at the place
pub nowhere_more : (items : List Placed) (j place : ℕ) (q : Placed) → slice_get items j ≡ Some q → q.at ≢ place → BeginsNowhereBelow items j place →
    BeginsNowhereBelow items (j + 1) place
nowhere_more items j place q there n none k p less e = nowhere_each items j place q there n none k p less e (cases_eq k j)

-- no item begins behind the last block
pub nowhere_past : (items : List Placed) (firsts : List ℕ) (place : ℕ) →
    ((i : ℕ) (p : Placed) → slice_get items i ≡ Some p → p.at / 8 < length firsts) → length firsts ≤ place / 8 → number_at items place ≡ None
nowhere_past items firsts place inside past =
    none_from items 0 place (λ k p less e.
    let low : p.at / 8 < length firsts = inside k p e in
    λ same. let there : place / 8 < length firsts = subst (λ (x : ℕ). x / 8 < length firsts) same low in absurd (omega arith))
