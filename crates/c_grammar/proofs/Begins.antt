-- What a complete run begins with, and what a stack of symbols must keep.
use Rattle.std.proofs.Common.{◌≡◌, ℕ, zero, suc, ◌+◌, ◌<◌, ◌==◌, Bool, true, false, not, ◌&&◌, ◌||◌, List, [], ◌∷◌, ◌++◌, length, get_or, refl, sym, ap, subst, ◌∙◌, inl, inr, arith}
use Rattle.std.specs.Prelude.{Contains, ◌⊎◌}
use Rattle.std.specs.List.{list_all}
use Rattle.std.proofs.lemmas.Bool.{and_parts, and_from, or_cases, or_left, or_right, both_ways, eqb-true}
use Rattle.c_lexer.proofs.Lists.{member_passes}
use Rattle.c_grammar.specs.declared.words.Terminal.{Terminal}
use Rattle.c_grammar.specs.Terminals.{number_of, same_terminal}
use Rattle.c_grammar.specs.Steps.{Value}
use Rattle.c_grammar.specs.Grammar.{Form, Symbol, T, L, N, M, B, Here, Unless}
use Rattle.c_grammar.specs.Ways.{ways, way_at, firsts, may_be_empty, can_be, begins, passes, empty_way, begun_way}
use Rattle.c_grammar.specs.Reading.{State, nesting, Nested, nested, Ending, Complete, Run, stop, done, token, leaf, here, mark, step, unless, rule}
use Rattle.c_grammar.proofs.Runs.{heads}
use Rattle.c_grammar.proofs.Tables.{all_terminals, every_terminal, follows, can_end, fit_in, end_in, is_hard, can_have, one_from, one_empty_from, are_firsts_closed, are_empty_closed, are_follows_closed, are_ends_closed, has_one_way, has_one_empty}

-- ---- tests

pub implied : (a b : Bool) → (not a || b) ≡ true → a ≡ true → b ≡ true
implied true b h e = h
implied false b h e = cc

same_number : (n : ℕ) → (n == n) ≡ true
same_number n = grind arith

pub is_same : (t u : Terminal) → t ≡ u → same_terminal t u ≡ true
is_same t u e = subst (λ (v : Terminal). same_terminal t v ≡ true) e (same_number (number_of t))

pub of_all_terminals : (p : Terminal → Bool) → list_all p all_terminals ≡ true → (t : Terminal) → p t ≡ true
of_all_terminals p h t = member_passes p all_terminals t h (every_terminal t)

-- ---- what symbols begin with

pub begins-append : (a k : List Symbol) (t : Terminal) → begins (a ++ k) t ≡ true → (begins a t ≡ true) ⊎ ((passes a ≡ true) × (begins k t ≡ true))
begins-append [] k t h = inr (refl, h)
begins-append (T u ∷ a) k t h = inl h
begins-append (L u ∷ a) k t h = inl h
begins-append (M m ∷ a) k t h = begins-append a k t h
begins-append (B b ∷ a) k t h = begins-append a k t h
begins-append (Here ∷ a) k t h = begins-append a k t h
begins-append (Unless ts ∷ a) k t h = begins-append a k t h
begins-append (N f ∷ a) k t h =
    elim (or_cases (can_be (firsts f) t) (may_be_empty f && begins (a ++ k) t) h) [
      | inl first ↦ inl (or_left (can_be (firsts f) t) (may_be_empty f && begins a t) first)
      | inr later ↦
          let both = and_parts (may_be_empty f) (begins (a ++ k) t) later in
          elim (begins-append a k t both.1) [
            | inl within ↦ inl (or_right (can_be (firsts f) t) (may_be_empty f && begins a t) (and_from (may_be_empty f) (begins a t) both.0 within))
            | inr behind ↦ inr (and_from (may_be_empty f) (passes a) both.0 behind.0, behind.1)
          ]
    ]

pub passes-append : (a k : List Symbol) → passes (a ++ k) ≡ true → (passes a ≡ true) × (passes k ≡ true)
passes-append [] k h = (refl, h)
passes-append (T u ∷ a) k h = cc
passes-append (L u ∷ a) k h = cc
passes-append (M m ∷ a) k h = passes-append a k h
passes-append (B b ∷ a) k h = passes-append a k h
passes-append (Here ∷ a) k h = passes-append a k h
passes-append (Unless ts ∷ a) k h = passes-append a k h
passes-append (N f ∷ a) k h =
    let both = and_parts (may_be_empty f) (passes (a ++ k)) h in
    let more = passes-append a k both.1 in
    (and_from (may_be_empty f) (passes a) both.0 more.0, more.1)

first_of_way : (f : Form) (p : List Symbol) (t : Terminal) → Contains (ways f) p → begins p t ≡ true → can_be (firsts f) t ≡ true
first_of_way f p t among h =
    implied (begins p t) (can_be (firsts f) t)
    (member_passes (λ q. not (begins q t) || can_be (firsts f) t) (ways f) p (of_all_terminals (λ u. list_all (λ q. not (begins q u) || can_be (firsts f) u) (ways f)) (are_firsts_closed f) t) among) h

empty_of_way : (f : Form) (p : List Symbol) → Contains (ways f) p → passes p ≡ true → may_be_empty f ≡ true
empty_of_way f p among h =
    implied (passes p) (may_be_empty f) (member_passes (λ q. not (passes q) || may_be_empty f) (ways f) p (are_empty_closed f) among) h

form_begins : (f : Form) (p k : List Symbol) (t : Terminal) → Contains (ways f) p → begins (p ++ k) t ≡ true → begins (N f ∷ k) t ≡ true
form_begins f p k t among h =
    elim (begins-append p k t h) [
      | inl within ↦ or_left (can_be (firsts f) t) (may_be_empty f && begins k t) (first_of_way f p t among within)
      | inr behind ↦ or_right (can_be (firsts f) t) (may_be_empty f && begins k t) (and_from (may_be_empty f) (begins k t) (empty_of_way f p among behind.0) behind.1)
    ]

-- ---- runs of some words

pub run_begins : (s : State) (q : List Symbol) (way : List Nested) (e : Ending) (w : Nested) (rest : List Nested)
    → Run ways s q way e → way ≡ w ∷ rest → begins q w.word.terminal ≡ true
run_begins s q way e w rest (stop s' p) long = cc
run_begins s q way e w rest (done s') long = cc
run_begins s q way e w rest (token s' t v p r e' h more) long =
    let first = heads (nested v (nesting s)) w r rest long in
    is_same w.word.terminal t (ap (λ (x : Nested). x.word.terminal) (sym first.0) ∙ h)
run_begins s q way e w rest (leaf s' t v p r e' h more) long =
    let first = heads (nested v (nesting s)) w r rest long in
    is_same w.word.terminal t (ap (λ (x : Nested). x.word.terminal) (sym first.0) ∙ h)
run_begins s q way e w rest (here s' v p r e' more) long = run_begins _ p way e w rest more long
run_begins s q way e w rest (mark s' m p r e' more) long = run_begins _ p way e w rest more long
run_begins s q way e w rest (step s' b p r e' more) long = run_begins _ p way e w rest more long
run_begins s q way e w rest (unless s' ts p r e' h more) long = run_begins s p way e w rest more long
run_begins s q way e w rest (rule s' f parts p r e' among more) long =
    form_begins f parts p w.word.terminal among (run_begins s (parts ++ p) way e w rest more long)

-- ---- complete runs

pub run_passes : (s : State) (q : List Symbol) (way : List Nested) (e : Ending) (vs : List Value)
    → Run ways s q way e → e ≡ Complete vs → way ≡ [] → passes q ≡ true
run_passes s q way e vs (stop s' p) is none = cc
run_passes s q way e vs (done s') is none = refl
run_passes s q way e vs (token s' t v p r e' h more) is none = cc
run_passes s q way e vs (leaf s' t v p r e' h more) is none = cc
run_passes s q way e vs (here s' v p r e' more) is none = cc
run_passes s q way e vs (mark s' m p r e' more) is none = run_passes _ p way e vs more is none
run_passes s q way e vs (step s' b p r e' more) is none = run_passes _ p way e vs more is none
run_passes s q way e vs (unless s' ts p r e' h more) is none = run_passes s p way e vs more is none
run_passes s q way e vs (rule s' f parts p r e' among more) is none =
    let both = passes-append parts p (run_passes s (parts ++ p) way e vs more is none) in
    and_from (may_be_empty f) (passes p) (empty_of_way f parts among both.0) both.1

-- ---- what comes after each form of a stack can come after it

pub record FitAfter (f : Form) (k : List Symbol) : Type 0 where
  pub follows : (t : Terminal) → begins k t ≡ true → can_be (follows f) t ≡ true
  pub ends : passes k ≡ true → can_end f ≡ true

abbrev pub Fit : List Symbol → Type 0
Fit [] = Unit {0}
Fit (N f ∷ k) = FitAfter f k × Fit k
Fit (T u ∷ k) = Fit k
Fit (L u ∷ k) = Fit k
Fit (M m ∷ k) = Fit k
Fit (B b ∷ k) = Fit k
Fit (Here ∷ k) = Fit k
Fit (Unless ts ∷ k) = Fit k

fit_after : (f g : Form) (p k : List Symbol) → ((t : Terminal) → (not (begins p t || (passes p && can_be (follows f) t)) || can_be (follows g) t) ≡ true)
    → (not (passes p && can_end f) || can_end g) ≡ true → FitAfter f k → FitAfter g (p ++ k)
fit_after f g p k h l after_f = record {
  follows = λ t b. implied (begins p t || (passes p && can_be (follows f) t)) (can_be (follows g) t) (h t)
      (elim (begins-append p k t b) [
        | inl within ↦ or_left (begins p t) (passes p && can_be (follows f) t) within
        | inr behind ↦ or_right (begins p t) (passes p && can_be (follows f) t) (and_from (passes p) (can_be (follows f) t) behind.0 (after_f.follows t behind.1))
      ]);
  ends = λ b. let both = passes-append p k b in
      implied (passes p && can_end f) (can_end g) l (and_from (passes p) (can_end f) both.0 (after_f.ends both.1));
}

fit_append : (f : Form) (p k : List Symbol) → ((t : Terminal) → fit_in f p t ≡ true) → end_in f p ≡ true → FitAfter f k → Fit k → Fit (p ++ k)
fit_append f [] k h l a fit = fit
fit_append f (T u ∷ p) k h l a fit = fit_append f p k h l a fit
fit_append f (L u ∷ p) k h l a fit = fit_append f p k h l a fit
fit_append f (M m ∷ p) k h l a fit = fit_append f p k h l a fit
fit_append f (B b ∷ p) k h l a fit = fit_append f p k h l a fit
fit_append f (Here ∷ p) k h l a fit = fit_append f p k h l a fit
fit_append f (Unless ts ∷ p) k h l a fit = fit_append f p k h l a fit
fit_append f (N g ∷ p) k h l a fit =
    let test = λ (t : Terminal). and_parts (not (begins p t || (passes p && can_be (follows f) t)) || can_be (follows g) t) (fit_in f p t) (h t) in
    let end_test = and_parts (not (passes p && can_end f) || can_end g) (end_in f p) l in
    (fit_after f g p k (λ t. (test t).0) end_test.0 a, fit_append f p k (λ t. (test t).1) end_test.1 a fit)

pub fit_way : (f : Form) (p k : List Symbol) → Contains (ways f) p → Fit (N f ∷ k) → Fit (p ++ k)
fit_way f p k among fit =
    fit_append f p k
    (λ t. member_passes (λ q. fit_in f q t) (ways f) p (of_all_terminals (λ u. list_all (λ q. fit_in f q u) (ways f)) (are_follows_closed f) t) among)
    (member_passes (λ q. end_in f q) (ways f) p (are_ends_closed f) among)
    fit.0 fit.1

-- ---- the way of a form where one word decides

one_of : (f : Form) (i : ℕ) (ps : List (List Symbol)) (t : Terminal) (j : ℕ) → one_from f i ps t ≡ true → j < length ps → can_have f (get_or ps j []) t ≡ true → i + j ≡ begun_way f t
one_of f i [] t j h below has = absurd (omega arith)
one_of f i (p ∷ ps) t zero h below has =
    let both = and_parts (not (can_have f p t) || i == begun_way f t) (one_from f (suc i) ps t) h in
    let same = eqb-true i (begun_way f t) (implied (can_have f p t) (i == begun_way f t) both.0 has) in omega arith
one_of f i (p ∷ ps) t (suc j) h below has =
    let both = and_parts (not (can_have f p t) || i == begun_way f t) (one_from f (suc i) ps t) h in
    let more = one_of f (suc i) ps t j both.1 (omega arith) has in omega arith

pub way_begun : (f : Form) (t : Terminal) (j : ℕ) → is_hard f t ≡ false → j < length (ways f) → can_have f (way_at ways f j) t ≡ true → j ≡ begun_way f t
way_begun f t j easy below has =
    elim (or_cases (is_hard f t) (one_from f 0 (ways f) t) (of_all_terminals (λ u. is_hard f u || one_from f 0 (ways f) u) (has_one_way f) t)) [
      | inl hard ↦ absurd (both_ways (is_hard f t) easy hard)
      | inr one ↦ let same = one_of f 0 (ways f) t j one below has in omega arith
    ]

one_empty_of : (f : Form) (i : ℕ) (ps : List (List Symbol)) (j : ℕ) → one_empty_from f i ps ≡ true → j < length ps → passes (get_or ps j []) ≡ true → i + j ≡ empty_way f
one_empty_of f i [] j h below has = absurd (omega arith)
one_empty_of f i (p ∷ ps) zero h below has =
    let both = and_parts (not (passes p) || i == empty_way f) (one_empty_from f (suc i) ps) h in
    let same = eqb-true i (empty_way f) (implied (passes p) (i == empty_way f) both.0 has) in omega arith
one_empty_of f i (p ∷ ps) (suc j) h below has =
    let both = and_parts (not (passes p) || i == empty_way f) (one_empty_from f (suc i) ps) h in
    let more = one_empty_of f (suc i) ps j both.1 (omega arith) has in omega arith

pub way_empty : (f : Form) (j : ℕ) → j < length (ways f) → passes (way_at ways f j) ≡ true → j ≡ empty_way f
way_empty f j below has = let same = one_empty_of f 0 (ways f) j (has_one_empty f) below has in omega arith

-- a way of a run can be had at the word that it begins with
pub way_had : (f : Form) (p k : List Symbol) (t : Terminal) → Fit (N f ∷ k) → begins (p ++ k) t ≡ true → can_have f p t ≡ true
way_had f p k t fit h =
    elim (begins-append p k t h) [
      | inl within ↦ or_left (begins p t) (passes p && can_be (follows f) t) within
      | inr behind ↦ or_right (begins p t) (passes p && can_be (follows f) t) (and_from (passes p) (can_be (follows f) t) behind.0 (fit.0.follows t behind.1))
    ]
