-- The items of a procedure, and no others, have the same number of call words up to them.
use Rattle.std.proofs.Common.{◌≡◌, ℕ, zero, suc, ◌+◌, ◌-◌, ◌<◌, ◌≤◌, true, false, List, [], ◌∷◌, length, take, get_or, Some, refl, sym, ◌∙◌, ap, arith, inl, inr, slice_get, cond, not, add-one}
use Rattle.std.proofs.lemmas.Option.{get_or_from_slice_get, slice_get_cases, slice_get-get_or}
use Rattle.std.proofs.lemmas.Bool.{cases_lt, not-true, not-false, true≢false}
use Rattle.code_sweep.specs.declared.item.Placed.{Placed}
use Rattle.conf_verify.specs.Rules.{is_call_word, call_words, may_end, procedure_of, IsLast}
use Rattle.conf_verify.specs.Search.{BadEnd, IsBorder, IsProcedure, IsReached}
use Rattle.conf_verify.proofs.Chains.{call_words_more}

both_more : (n a b : ℕ) → a ≤ b → n + a ≤ n + b
both_more n a b low = omega arith

-- the more items, the more call words
words_up : (items : List Placed) (a b : ℕ) → a ≤ b → call_words (take a items) ≤ call_words (take b items)
words_up items zero b low = omega arith
words_up items (suc a) zero low = absurd (omega arith)
words_up [] (suc a) (suc b) low = omega arith
words_up (x ∷ xs) (suc a) (suc b) low =
    let h : call_words (take a xs) ≤ call_words (take b xs) = words_up xs a b (omega arith) in
    both_more (cond (is_call_word x.item) 1 0) (call_words (take a xs)) (call_words (take b xs)) h

-- a call word counts for itself
at_call : (items : List Placed) (i : ℕ) (q : Placed) → slice_get items i ≡ Some q → is_call_word q.item ≡ true → call_words (take (suc i) items) ≡ call_words (take i items) + 1
at_call items i q stands call = call_words_more items i q stands ∙ ap (λ b. call_words (take i items) + cond b 1 0) call

pub plus_none : (n : ℕ) → n + 0 ≡ n
plus_none n = omega arith

-- an item so far behind another, and no call word from there on
no_more : (items : List Placed) (start n j : ℕ) → j ≡ start + n → j < length items →
    ((k : ℕ) (q : Placed) → start < k → k ≤ j → slice_get items k ≡ Some q → is_call_word q.item ≡ false) → procedure_of items j ≡ procedure_of items start
no_more items start zero j e inside none =
    let same : j ≡ start = omega arith in
    ap (λ k. procedure_of items k) same
no_more items start (suc n) zero e inside none = absurd (omega arith)
no_more items start (suc n) (suc h) e inside none =
    let earlier : procedure_of items h ≡ procedure_of items start = no_more items start n h (omega arith) (omega arith) (λ k q low high stands. none k q low (omega arith) stands) in
    elim (slice_get_cases items (suc h)).1 [
      | inl f ↦
          call_words_more items (suc h) f.0 f.2 ∙ ap (λ b. call_words (take (suc h) items) + cond b 1 0) (none (suc h) f.0 (omega arith) (omega arith) f.2) ∙ plus_none (call_words (take (suc h) items))
          ∙ earlier
      | inr f ↦ let past = f.0 in absurd (omega arith)
    ]

as_the_first : (items : List Placed) (start end j : ℕ) → IsProcedure items start end → start ≤ j → j < end → procedure_of items j ≡ procedure_of items start
as_the_first items start end j p low high =
    let within = p.within in
    no_more items start (j - start) j (omega arith) (omega arith) (λ k q above below stands. p.inner k q above (omega arith) stands)

pub same_procedure : (items : List Placed) (start end i j : ℕ) → IsProcedure items start end → start ≤ i → i < end → start ≤ j → j < end → procedure_of items j ≡ procedure_of items i
same_procedure items start end i j p from to low high = as_the_first items start end j p low high ∙ sym (as_the_first items start end i p from to)

pub not_below : (items : List Placed) (start end i j : ℕ) → IsProcedure items start end → start ≤ i → i < end → j < start → procedure_of items j ≡ procedure_of items i → ⊥
not_below items start end i j p from to low same =
    let some = p.some in
    let within = p.within in
    elim p.front [
      | inl first ↦ omega arith
      | inr more ↦ elim more [
        | inl last ↦ omega arith
        | inr word ↦
            let one : call_words (take (suc start) items) ≡ call_words (take start items) + 1 = at_call items start word.0 word.1 word.2 in
            let up : call_words (take (suc j) items) ≤ call_words (take start items) = words_up items (suc j) start (omega arith) in
            let up' : call_words (take (suc start) items) ≤ call_words (take (suc i) items) = words_up items (suc start) (suc i) (omega arith) in
            let same' : call_words (take (suc j) items) ≡ call_words (take (suc i) items) = same in
            omega arith
      ]
    ]

pub not_above : (items : List Placed) (start end i j : ℕ) → IsProcedure items start end → i < end → end ≤ j → j < length items → procedure_of items j ≡ procedure_of items i → ⊥
not_above items start end i j p to high inside same =
    let some = p.some in
    elim p.behind [
      | inl first ↦ omega arith
      | inr more ↦ elim more [
        | inl last ↦ omega arith
        | inr word ↦
            let one : call_words (take (suc end) items) ≡ call_words (take end items) + 1 = at_call items end word.0 word.1 word.2 in
            let up : call_words (take (suc i) items) ≤ call_words (take end items) = words_up items (suc i) end (omega arith) in
            let up' : call_words (take (suc end) items) ≤ call_words (take (suc j) items) = words_up items (suc end) (suc j) (omega arith) in
            let same' : call_words (take (suc j) items) ≡ call_words (take (suc i) items) = same in
            omega arith
      ]
    ]

-- ---- the next procedure, as a loop over items finds it

-- no call word stands behind the first item of a procedure, up to a number
abbrev pub NoneBetween : List Placed → ℕ → ℕ → Type 0
NoneBetween items start j = (k : ℕ) (q : Placed) → start < k → k < j → slice_get items k ≡ Some q → is_call_word q.item ≡ false

pub none_more : (items : List Placed) (start j : ℕ) (d : Placed) → NoneBetween items start j → is_call_word (get_or items j d).item ≡ false → NoneBetween items start (j + 1)
none_more items start j d none isnt k q low high stands =
    elim (cases_lt k j) [
      | inl below ↦ none k q low below stands
      | inr above ↦
          let here : k ≡ j = omega arith in
          let same = get_or_from_slice_get items j q d (ap (λ n. slice_get items n) (sym here) ∙ stands) in
          ap (λ (x : Placed). is_call_word x.item) (sym same) ∙ isnt
    ]

pub ends_at_call : (items : List Placed) (start j : ℕ) (d : Placed) → start < j → j < length items → IsBorder items start → NoneBetween items start j → is_call_word (get_or items j d).item ≡ true →
    IsProcedure items start j
ends_at_call items start j d above inside front none call = record {
  some = above;
  within = omega arith;
  front = front;
  inner = none;
  behind = inr (inr (get_or items j d, slice_get-get_or items j d inside, call));
}

pub ends_at_last : (items : List Placed) (start j : ℕ) → start < j → j ≡ length items → IsBorder items start → NoneBetween items start j → IsProcedure items start (length items)
ends_at_last items start j above last front none = record {
  some = omega arith;
  within = omega arith;
  front = front;
  inner = λ k q low high stands. none k q low (omega arith) stands;
  behind = inr (inl refl);
}

pub reached_next : (items : List Placed) (start end i : ℕ) → IsProcedure items start end → start ≤ i → i < end → IsReached items start end (i + 1)
reached_next items start end i p from to = record {
  from = omega arith;
  to = omega arith;
  goes_on = λ below. p;
  border = p.behind;
}

-- ---- the last of a procedure

is_last : (items : List Placed) (start end i : ℕ) → IsProcedure items start end → i + 1 ≡ end → IsLast items i
is_last items start end i p e =
    let some = p.some in
    let next : end ≡ suc i = sym e ∙ add-one i in
    elim p.behind [
      | inl first ↦ absurd (omega arith)
      | inr more ↦ elim more [
        | inl last ↦ inl (sym next ∙ last)
        | inr word ↦ inr (word.0, ap (λ n. slice_get items n) (sym next) ∙ word.1, word.2)
      ]
    ]

pub ends_badly : (items : List Placed) (start end i : ℕ) (d : Placed) → IsProcedure items start end → i < end → i + 1 ≡ end → not (may_end (get_or items i d).item) ≡ true → BadEnd items i
ends_badly items start end i d p to last may =
    let within = p.within in
    (get_or items i d, slice_get-get_or items i d (omega arith), inr (is_last items start end i p last, not-true (may_end (get_or items i d).item) may))

pub ends_well : (items : List Placed) (i : ℕ) (d : Placed) → (i ≡ 0 → is_call_word (get_or items i d).item ≡ false → ⊥) → not (may_end (get_or items i d).item) ≡ false → BadEnd items i → ⊥
ends_well items i d first may bad =
    let here = get_or_from_slice_get items i bad.0 d bad.1 in
    elim bad.2 [
      | inl none ↦ first none.0 (ap (λ (x : Placed). is_call_word x.item) here ∙ none.1)
      | inr last ↦ true≢false (sym (not-false (may_end (get_or items i d).item) may) ∙ ap (λ (x : Placed). may_end x.item) here ∙ last.1)
    ]
