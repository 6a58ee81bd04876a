-- Items by their places, and what the searches over a listing found.
use Rattle.std.proofs.Common.{◌≡◌, ℕ, ◌-◌, ◌<◌, ◌≤◌, true, false, List, length, get_or, Option, Some, None, sym, ◌∙◌, ap, subst, arith, slice_get, not}
use Rattle.std.proofs.lemmas.Bool.{true≢false, not-true, not-false}
use Rattle.std.proofs.lemmas.Option.{none-some, same_Some, slice_get_within, get_or_from_slice_get, slice_get-get_or}
use Rattle.cv_word.specs.MemoryMap.{code_base}
use Rattle.code_sweep.specs.declared.item.Placed.{Placed}
use Rattle.taint_flow.specs.Places.{NumbersItems}
use Rattle.conf_verify.specs.Rules.{is_word, is_call_word, IsGoodTarget, FollowsCallWord}
use Rattle.conf_verify.specs.Search.{BeginsAt, IsProcedure, HasWord}
use Rattle.conf_verify.proofs.Procedures.{same_procedure, not_below, not_above}

-- no number at the place: no item begins there
pub no_number : (items : List Placed) (number : ℕ → Option ℕ) (place : ℕ) → NumbersItems items number → (let o : Option ℕ = None in o) ≡ number place →
    (j : ℕ) (q : Placed) → slice_get items j ≡ Some q → q.at ≡ place → ⊥
no_number items number place n e j q stands here = none-some j (e ∙ ap number (sym here) ∙ n.each j q stands)

-- a number at the place: that item begins there, and no other
pub this_number : (items : List Placed) (number : ℕ → Option ℕ) (place k : ℕ) → NumbersItems items number → (let o : Option ℕ = Some k in o) ≡ number place →
    (j : ℕ) (q : Placed) → slice_get items j ≡ Some q → q.at ≡ place → j ≡ k
this_number items number place k n e j q stands here = sym (same_Some k j (e ∙ ap number (sym here) ∙ n.each j q stands))

pub found_item : (items : List Placed) (number : ℕ → Option ℕ) (place k : ℕ) (d : Placed) → NumbersItems items number → (let o : Option ℕ = Some k in o) ≡ number place → BeginsAt items (get_or items k d) place
found_item items number place k d n e =
    let f = n.only place k (sym e) in
    let same = get_or_from_slice_get items k f.0 d f.1 in
    subst (λ (q : Placed). BeginsAt items q place) (sym same) (k, f.1, f.2)

pub only_item : (items : List Placed) (number : ℕ → Option ℕ) (place k : ℕ) (d : Placed) → NumbersItems items number → (let o : Option ℕ = Some k in o) ≡ number place →
    (j : ℕ) (q : Placed) → slice_get items j ≡ Some q → q.at ≡ place → (let o : Option Placed = Some (get_or items k d) in o) ≡ Some q
only_item items number place k d n e j q stands here =
    let same = this_number items number place k n e j q stands here in
    ap (λ (x : Placed). let o : Option Placed = Some x in o) (get_or_from_slice_get items k q d (ap (λ i. slice_get items i) (sym same) ∙ stands))

pub past_item : (items : List Placed) (number : ℕ → Option ℕ) (place k : ℕ) → NumbersItems items number → (let o : Option ℕ = Some k in o) ≡ number place → length items ≤ k → ⊥
past_item items number place k n e past =
    let f = n.only place k (sym e) in
    let h = slice_get_within items k f.0 f.1 in omega arith

-- ---- the tests at a place

pub target_none : (items : List Placed) (number : ℕ → Option ℕ) (i target : ℕ) → NumbersItems items number → (let o : Option ℕ = None in o) ≡ number (target - code_base) →
    IsGoodTarget items i target → ⊥
target_none items number i target n e h = no_number items number (target - code_base) n e h.0 h.1 h.2 (let at = h.3 in omega arith)

pub target_yes : (items : List Placed) (number : ℕ → Option ℕ) (start end i target j : ℕ) (d : Placed) → NumbersItems items number → IsProcedure items start end → start ≤ i → i < end →
    code_base ≤ target → (let o : Option ℕ = Some j in o) ≡ number (target - code_base) → start ≤ j → j < end → not (is_word (get_or items j d).item) ≡ true → IsGoodTarget items i target
target_yes items number start end i target j d n p from to low e above below word =
    let f = n.only (target - code_base) j (sym e) in
    let here = get_or_from_slice_get items j f.0 d f.1 in
    let within : j < length items = slice_get_within items j f.0 f.1 in (
      j,
      get_or items j d,
      slice_get-get_or items j d within,
      (let at : (get_or items j d).at ≡ target - code_base = ap (λ (x : Placed). x.at) here ∙ f.2 in omega arith),
      not-true (is_word (get_or items j d).item) word,
      same_procedure items start end i j p from to above below,
    )

pub target_below : (items : List Placed) (number : ℕ → Option ℕ) (start end i target j : ℕ) → NumbersItems items number → IsProcedure items start end → start ≤ i → i < end →
    (let o : Option ℕ = Some j in o) ≡ number (target - code_base) → j < start → IsGoodTarget items i target → ⊥
target_below items number start end i target j n p from to e below h =
    let same : h.0 ≡ j = this_number items number (target - code_base) j n e h.0 h.1 h.2 (let at = h.3 in omega arith) in
    not_below items start end i h.0 p from to (omega arith) h.5

pub target_above : (items : List Placed) (number : ℕ → Option ℕ) (start end i target j : ℕ) → NumbersItems items number → IsProcedure items start end → i < end →
    (let o : Option ℕ = Some j in o) ≡ number (target - code_base) → end ≤ j → IsGoodTarget items i target → ⊥
target_above items number start end i target j n p to e above h =
    let same : h.0 ≡ j = this_number items number (target - code_base) j n e h.0 h.1 h.2 (let at = h.3 in omega arith) in
    not_above items start end i h.0 p to (omega arith) (slice_get_within items h.0 h.1 h.2) h.5

pub target_word : (items : List Placed) (number : ℕ → Option ℕ) (i target j : ℕ) (d : Placed) → NumbersItems items number →
    (let o : Option ℕ = Some j in o) ≡ number (target - code_base) → not (is_word (get_or items j d).item) ≡ false → IsGoodTarget items i target → ⊥
target_word items number i target j d n e word h =
    let same : h.0 ≡ j = this_number items number (target - code_base) j n e h.0 h.1 h.2 (let at = h.3 in omega arith) in
    let here = get_or_from_slice_get items j h.1 d (ap (λ k. slice_get items k) (sym same) ∙ h.2) in
    true≢false (sym (not-false (is_word (get_or items j d).item) word) ∙ ap (λ (x : Placed). is_word x.item) here ∙ h.4)

pub word_yes : (items : List Placed) (q : Placed) (place : ℕ) → 2 ≤ place → BeginsAt items q (place - 2) → is_word q.item ≡ true → HasWord items place
word_yes items q place low b word = (b.0, q, b.1, word, let h = b.2 in omega arith)

pub word_no : (items : List Placed) (q : Placed) (place : ℕ) → ((j : ℕ) (x : Placed) → slice_get items j ≡ Some x → x.at ≡ place - 2 → (let o : Option Placed = Some q in o) ≡ Some x) →
    is_word q.item ≡ false → HasWord items place → ⊥
word_no items q place only word h =
    let same = same_Some q h.1 (only h.0 h.1 h.2 (let e = h.4 in omega arith)) in
    true≢false (sym h.3 ∙ ap (λ (x : Placed). is_word x.item) (sym same) ∙ word)

pub word_none : (items : List Placed) (place : ℕ) → ((j : ℕ) (x : Placed) → slice_get items j ≡ Some x → x.at ≡ place - 2 → (let o : Option Placed = None in o) ≡ Some x) → HasWord items place → ⊥
word_none items place only h = none-some h.1 (only h.0 h.1 h.2 (let e = h.4 in omega arith))

abbrev pub CallsHaveEight : List Placed → Type 0
CallsHaveEight items = (i : ℕ) (p : Placed) → slice_get items i ≡ Some p → is_call_word p.item ≡ true → p.len ≡ 8

pub entry_yes : (items : List Placed) (q : Placed) (entry : ℕ) → 8 ≤ entry → CallsHaveEight items → BeginsAt items q (entry - 8) → is_call_word q.item ≡ true → FollowsCallWord items entry
entry_yes items q entry low eight b call = (b.0, q, b.1, call, let h = b.2 in let e = eight b.0 q b.1 call in omega arith)

pub entry_no : (items : List Placed) (q : Placed) (entry : ℕ) → CallsHaveEight items →
    ((j : ℕ) (x : Placed) → slice_get items j ≡ Some x → x.at ≡ entry - 8 → (let o : Option Placed = Some q in o) ≡ Some x) → is_call_word q.item ≡ false → FollowsCallWord items entry → ⊥
entry_no items q entry eight only call h =
    let same = same_Some q h.1 (only h.0 h.1 h.2 (let e = h.4 in let g = eight h.0 h.1 h.2 h.3 in omega arith)) in
    true≢false (sym h.3 ∙ ap (λ (x : Placed). is_call_word x.item) (sym same) ∙ call)

pub entry_none : (items : List Placed) (entry : ℕ) → CallsHaveEight items →
    ((j : ℕ) (x : Placed) → slice_get items j ≡ Some x → x.at ≡ entry - 8 → (let o : Option Placed = None in o) ≡ Some x) → FollowsCallWord items entry → ⊥
entry_none items entry eight only h = none-some h.1 (only h.0 h.1 h.2 (let e = h.4 in let g = eight h.0 h.1 h.2 h.3 in omega arith))

pub entry_low : (items : List Placed) (entry : ℕ) → CallsHaveEight items → entry < 8 → FollowsCallWord items entry → ⊥
entry_low items entry eight low h = let e = h.4 in let g = eight h.0 h.1 h.2 h.3 in omega arith
