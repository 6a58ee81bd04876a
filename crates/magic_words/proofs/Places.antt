-- Lists of occurrences that grow, and what a search for the prefix found.
use Rattle.std.proofs.Common.{◌≡◌, ℕ, suc, ◌+◌, ◌-◌, ◌<◌, ◌≤◌, List, [], ◌∷◌, ◌++◌, length, take, drop, get_or, Option, Some, None, sym, ◌∙◌, ap, subst, arith, inl, inr, length-append, length-drop, drop-drop, length-take}
use Rattle.std.proofs.lemmas.Bool.{cases_eq, cases_lt}
use Rattle.std.proofs.Math.Seq.{get_or-append_seam}
use Rattle.std.proofs.lemmas.List.{get_or_append_left}
use Rattle.std.specs.Prelude.{MatchOption}
use Rattle.memchr.specs.Find.{OccursAt, FindsNeedle}
use Rattle.memchr.proofs.lemmas.MatchLemmas.{OccursAt-part, OccursAt-from_part}
use Rattle.magic_words.specs.MagicWords.{IsOccurrence, NoneBetween, AreOccurrences}

-- where the prefix stands nowhere from one bound to another, the list stays
pub skipped : (prefix code : List ℕ) (bound next : ℕ) (places : List ℕ) → bound ≤ next → AreOccurrences prefix code bound places → NoneBetween prefix code bound next → AreOccurrences prefix code next places
skipped prefix code bound next places le are none = record {
  each = λ k h. (let e = (are.each k h).0 in omega arith, (are.each k h).1);
  all = λ place h is. elim (cases_lt place bound) [ inl below ↦ are.all place below is | inr above ↦ absurd (none place above h is) ];
  rising = are.rising;
}

each_more : (prefix code : List ℕ) (place : ℕ) (places : List ℕ) → AreOccurrences prefix code place places → IsOccurrence prefix code place →
    (k : ℕ) → k < length (places ++ place ∷ []) → (get_or (places ++ place ∷ []) k 0 < suc place) × IsOccurrence prefix code (get_or (places ++ place ∷ []) k 0)
each_more prefix code place places are is k h =
    let long = length-append places (place ∷ []) in
    let P : ℕ → Type 0 = λ n. (n < suc place) × IsOccurrence prefix code n in
    elim (cases_eq k (length places)) [
      | inl last ↦ subst P (sym (ap (λ n. get_or (places ++ place ∷ []) n 0) last ∙ get_or-append_seam places place [] 0)) (omega arith, is)
      | inr inside ↦
          let below : k < length places = omega arith in
          subst P (sym (get_or_append_left places (place ∷ []) 0 k below)) (let e = (are.each k below).0 in omega arith, (are.each k below).1)
    ]

rising_more : (prefix code : List ℕ) (place : ℕ) (places : List ℕ) → AreOccurrences prefix code place places →
    (i j : ℕ) → i < j → j < length (places ++ place ∷ []) → get_or (places ++ place ∷ []) i 0 < get_or (places ++ place ∷ []) j 0
rising_more prefix code place places are i j h g =
    let long = length-append places (place ∷ []) in
    let below : i < length places = omega arith in
    let left = get_or_append_left places (place ∷ []) 0 i below in
    elim (cases_eq j (length places)) [
      | inl last ↦
          let right : get_or (places ++ place ∷ []) j 0 ≡ place = ap (λ n. get_or (places ++ place ∷ []) n 0) last ∙ get_or-append_seam places place [] 0 in
          let e = (are.each i below).0 in omega (arith, left, right)
      | inr inside ↦
          let below' : j < length places = omega arith in
          let right = get_or_append_left places (place ∷ []) 0 j below' in
          let e = are.rising i j h below' in omega (arith, left, right)
    ]

pub more : (prefix code : List ℕ) (place : ℕ) (places : List ℕ) → AreOccurrences prefix code place places → IsOccurrence prefix code place →
    AreOccurrences prefix code (suc place) (places ++ place ∷ [])
more prefix code place places are is = record {
  each = each_more prefix code place places are is;
  all = λ other h occurs.
      let long = length-append places (place ∷ []) in
      elim (cases_eq other place) [
        | inl here ↦ (length places, omega arith, get_or-append_seam places place [] 0 ∙ sym here)
        | inr there ↦
            let e = are.all other (omega arith) occurs in
            (e.0, let p = e.1 in omega arith, get_or_append_left places (place ∷ []) 0 e.0 e.1 ∙ e.2)
      ];
  rising = rising_more prefix code place places are;
}

-- ---- searches

-- an occurrence lies in the code
occurrence_fits : (prefix code : List ℕ) (place : ℕ) → 0 < length prefix → IsOccurrence prefix code place → place + length prefix ≤ length code
occurrence_fits prefix code place some is =
    let e : length (take (length prefix) (drop place code)) ≡ length prefix = ap length is in
    let f = length-take (length prefix) (drop place code) in
    let g = length-drop place code in omega arith

to_occurrence : (prefix code : List ℕ) (from k : ℕ) → OccursAt (drop from code) prefix k → IsOccurrence prefix code (from + k)
to_occurrence prefix code from k o = ap (λ l. take (length prefix) l) (sym (drop-drop k from code)) ∙ OccursAt-part (drop from code) prefix k o

to_occurs : (prefix code : List ℕ) (from place : ℕ) → 0 < length prefix → from ≤ place → IsOccurrence prefix code place → OccursAt (drop from code) prefix (place - from)
to_occurs prefix code from place some le is =
    let fits = occurrence_fits prefix code place some is in
    let long = length-drop from code in
    let same : from + (place - from) ≡ place = omega arith in
    OccursAt-from_part (drop from code) prefix (place - from) (omega arith)
    (ap (λ l. take (length prefix) l) (drop-drop (place - from) from code ∙ ap (λ n. drop n code) same) ∙ is)

-- what a search behind a place says of the code
abbrev pub FoundBehind : List ℕ → List ℕ → ℕ → Option ℕ → Type 0
FoundBehind prefix code from r = MatchOption r (NoneBetween prefix code from (length code))
    (λ k. (from ≤ from + k) × (from + k < length code) × IsOccurrence prefix code (from + k) × NoneBetween prefix code from (from + k))

pub found_behind : (prefix code : List ℕ) (from : ℕ) (r : Option ℕ) → 0 < length prefix → from ≤ length code → FindsNeedle (drop from code) prefix 0 r → FoundBehind prefix code from r
found_behind prefix code from None some le f =
    λ place low high is.
    let long = length-drop from code in
    f (place - from) (omega arith) (omega arith) (to_occurs prefix code from place some low is)
found_behind prefix code from (Some k) some le f =
    let is = to_occurrence prefix code from k f.1 in
    let fits = occurrence_fits prefix code (from + k) some is in (
      omega arith,
      omega arith,
      is,
      λ place low high occurs. f.0.before (place - from) (omega arith) (omega arith) (to_occurs prefix code from place some low occurs),
    )
