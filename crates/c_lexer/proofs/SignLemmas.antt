-- The sign that is read is the longest of the table that stands there.
use Rattle.std.proofs.Common.{◌≡◌, ℕ, ◌≤◌, Bool, true, false, ◌&&◌, ◌||◌, ◌==◌, nat_lt, List, [], ◌∷◌, ◌++◌, length, get_or, take, refl, sym, ap, subst, ◌∙◌, arith, inl, inr}
use Rattle.std.specs.Prelude.{Contains, codes, bytes_eq}
use Rattle.std.specs.List.{list_all, list_any}
use Rattle.std.proofs.lemmas.Bool.{and_parts, or_cases, cond-true, cond-false, cases_Bool, eqb-true, both_ways}
use Rattle.std.proofs.lemmas.Slice.Eq.{bytes_eq-Decides}
use Rattle.c_lexer.specs.declared.tokens.TokenKind.TheVariants.{Sign}
use Rattle.c_lexer.specs.declared.lexer.Piece.TheVariants.{Lexeme, Unknown}
use Rattle.c_lexer.specs.Spelling.{signs}
use Rattle.c_lexer.specs.Reading.{is_single, is_pair, is_triple, sign_at}
use Rattle.c_lexer.proofs.Lists.{member_passes, first_member, later_member}

-- a member of a table, by a test
pub member_from_any : (text : List ℕ) (table : List (List ℕ)) → list_any (λ word. bytes_eq text word) table ≡ true → Contains table text
member_from_any text [] h = absurd cc
member_from_any text (word ∷ table) h =
    elim (or_cases (bytes_eq text word) (list_any (λ w. bytes_eq text w) table) h) [
      | inl e ↦ subst (λ (t : List ℕ). Contains (t ∷ table) text) ((bytes_eq-Decides text word).0 e) (first_member text table)
      | inr more ↦ later_member word table text (member_from_any text table more)
    ]

-- what holds of each byte of a list holds of one that is among them
among : (q : ℕ → Bool) (a : ℕ) (xs : List ℕ) → list_all q xs ≡ true → list_any (λ s. a == s) xs ≡ true → q a ≡ true
among q a [] each h = absurd cc
among q a (x ∷ xs) each h =
    let k = and_parts (q x) (list_all q xs) each in
    elim (or_cases (a == x) (list_any (λ s. a == s) xs) h) [
      | inl e ↦ ap q (eqb-true a x e) ∙ k.0
      | inr more ↦ among q a xs k.1 more
    ]

is_sign : List ℕ → Bool
is_sign text = list_any (λ word. bytes_eq text word) signs

-- the signs by their lengths
abbrev shape : List ℕ → Bool
shape [] = false
shape (a ∷ []) = is_single a
shape (a ∷ b ∷ []) = is_pair a b
shape (a ∷ b ∷ c ∷ []) = is_triple a b c
shape (a ∷ b ∷ c ∷ d ∷ rest) = false

sign_shape : (text : List ℕ) → Contains signs text → shape text ≡ true
sign_shape text h = member_passes shape signs text refl h

single_sign : (a : ℕ) → is_single a ≡ true → Contains signs (a ∷ []) × (nat_lt 0 a ≡ true)
unfolding is_sign
single_sign a h = (
  member_from_any (a ∷ []) signs (among (λ x. is_sign (x ∷ [])) a (codes "+-*/%&|^~!<>=?:;,.()[]{}") refl h),
  among (λ x. nat_lt 0 x) a (codes "+-*/%&|^~!<>=?:;,.()[]{}") refl h,
)

abbrev PairFacts : ℕ → ℕ → Type 0
PairFacts a b = Contains signs (a ∷ b ∷ []) × (nat_lt 0 a ≡ true) × (nat_lt 0 b ≡ true)

pair_sign : (a b : ℕ) → is_pair a b ≡ true → PairFacts a b
unfolding is_sign
pair_sign a b h =
    let equals = b == 61 && list_any (λ s. a == s) (codes "<>=!+-*/%&|^") in
    let twice = b == a && list_any (λ s. a == s) (codes "<>&|+-") in
    elim (or_cases equals (twice || (a == 45 && b == 62)) h) [
      | inl e ↦
          let k = and_parts (b == 61) (list_any (λ s. a == s) (codes "<>=!+-*/%&|^")) e in
          subst (λ x. PairFacts a x) (sym (eqb-true b 61 k.0)) (
            member_from_any (a ∷ 61 ∷ []) signs (among (λ x. is_sign (x ∷ 61 ∷ [])) a (codes "<>=!+-*/%&|^") refl k.1),
            among (λ x. nat_lt 0 x) a (codes "<>=!+-*/%&|^") refl k.1,
            refl,
          )
      | inr more ↦ elim (or_cases twice (a == 45 && b == 62) more) [
        | inl e ↦
            let k = and_parts (b == a) (list_any (λ s. a == s) (codes "<>&|+-")) e in
            let positive = among (λ x. nat_lt 0 x) a (codes "<>&|+-") refl k.1 in
            subst (λ x. PairFacts a x) (sym (eqb-true b a k.0))
            (member_from_any (a ∷ a ∷ []) signs (among (λ x. is_sign (x ∷ x ∷ [])) a (codes "<>&|+-") refl k.1), positive, positive)
        | inr e ↦
            let k = and_parts (a == 45) (b == 62) e in
            subst (λ x. PairFacts x b) (sym (eqb-true a 45 k.0)) (subst (λ x. PairFacts 45 x) (sym (eqb-true b 62 k.1))
            (member_from_any (45 ∷ 62 ∷ []) signs refl, refl, refl))
      ]
    ]

triple_sign : (a b c : ℕ) → is_triple a b c ≡ true → Contains signs (a ∷ b ∷ c ∷ []) × (nat_lt 0 c ≡ true)
triple_sign a b c h =
    let k = and_parts (a == 60 || a == 62) (b == a && c == 61) h in
    let m = and_parts (b == a) (c == 61) k.1 in
    let Both : ℕ → ℕ → ℕ → Type 0 = λ x y z. Contains signs (x ∷ y ∷ z ∷ []) × (nat_lt 0 z ≡ true) in
    subst (λ z. Both a b z) (sym (eqb-true c 61 m.1)) (subst (λ y. Both a y 61) (sym (eqb-true b a m.0))
    (elim (or_cases (a == 60) (a == 62) k.0) [
      | inl e ↦ subst (λ x. Both x x 61) (sym (eqb-true a 60 e)) (member_from_any (60 ∷ 60 ∷ 61 ∷ []) signs refl, refl)
      | inr e ↦ subst (λ x. Both x x 61) (sym (eqb-true a 62 e)) (member_from_any (62 ∷ 62 ∷ 61 ∷ []) signs refl, refl)
    ]))

-- ---- the sign that is read

pub record SignFound (bytes : List ℕ) (len : ℕ) : Type 0 where
  pub text : Contains signs (take len bytes)
  pub within : len ≤ length bytes

found_single : (bytes : List ℕ) → is_single (get_or bytes 0 0) ≡ true → SignFound bytes 1
found_single [] h = let f = (single_sign 0 h).1 in absurd cc
found_single (a ∷ bytes) h = record { text = (single_sign a h).0; within = omega arith }

found_pair : (bytes : List ℕ) → is_pair (get_or bytes 0 0) (get_or bytes 1 0) ≡ true → SignFound bytes 2
found_pair [] h = let f = (pair_sign 0 0 h).2 in absurd cc
found_pair (a ∷ []) h = let f = (pair_sign a 0 h).2 in absurd cc
found_pair (a ∷ b ∷ bytes) h = record { text = (pair_sign a b h).0; within = omega arith }

found_triple : (bytes : List ℕ) → is_triple (get_or bytes 0 0) (get_or bytes 1 0) (get_or bytes 2 0) ≡ true → SignFound bytes 3
found_triple [] h = let f = (triple_sign 0 0 0 h).1 in absurd cc
found_triple (a ∷ []) h = let f = (triple_sign a 0 0 h).1 in absurd cc
found_triple (a ∷ b ∷ []) h = let f = (triple_sign a b 0 h).1 in absurd cc
found_triple (a ∷ b ∷ c ∷ bytes) h = record { text = (triple_sign a b c h).0; within = omega arith }

pub data SignCase (bytes : List ℕ) : Type 0 where
  three : is_triple (get_or bytes 0 0) (get_or bytes 1 0) (get_or bytes 2 0) ≡ true → sign_at bytes ≡ Lexeme Sign 3 → SignCase bytes
  two : is_triple (get_or bytes 0 0) (get_or bytes 1 0) (get_or bytes 2 0) ≡ false → is_pair (get_or bytes 0 0) (get_or bytes 1 0) ≡ true
      → sign_at bytes ≡ Lexeme Sign 2 → SignCase bytes
  one : is_triple (get_or bytes 0 0) (get_or bytes 1 0) (get_or bytes 2 0) ≡ false → is_pair (get_or bytes 0 0) (get_or bytes 1 0) ≡ false
      → is_single (get_or bytes 0 0) ≡ true → sign_at bytes ≡ Lexeme Sign 1 → SignCase bytes
  none : is_triple (get_or bytes 0 0) (get_or bytes 1 0) (get_or bytes 2 0) ≡ false → is_pair (get_or bytes 0 0) (get_or bytes 1 0) ≡ false
      → is_single (get_or bytes 0 0) ≡ false → sign_at bytes ≡ Unknown → SignCase bytes

pub sign_case : (bytes : List ℕ) → SignCase bytes
unfolding sign_at
sign_case bytes =
    let a = get_or bytes 0 0 in
    let b = get_or bytes 1 0 in
    elim (cases_Bool (is_triple a b (get_or bytes 2 0))) [
      | inl t ↦ three t (cond-true _ _ _ t)
      | inr no_t ↦ elim (cases_Bool (is_pair a b)) [
        | inl p ↦ two no_t p (cond-false _ _ _ no_t ∙ cond-true _ _ _ p)
        | inr no_p ↦ elim (cases_Bool (is_single a)) [
          | inl s ↦ one no_t no_p s (cond-false _ _ _ no_t ∙ cond-false _ _ _ no_p ∙ cond-true _ _ _ s)
          | inr no_s ↦ none no_t no_p no_s (cond-false _ _ _ no_t ∙ cond-false _ _ _ no_p ∙ cond-false _ _ _ no_s)
        ]
      ]
    ]

-- what the reader finds is no shorter than a sign that stands there
pub record SignReached (bytes : List ℕ) (least : ℕ) : Type 0 where
  pub len : ℕ
  pub read : sign_at bytes ≡ Lexeme Sign len
  pub long : least ≤ len
  pub found : SignFound bytes len

reach_one : (bytes : List ℕ) → is_single (get_or bytes 0 0) ≡ true → SignCase bytes → SignReached bytes 1
reach_one bytes h (three t e) = record { len = 3; read = e; long = omega arith; found = found_triple bytes t }
reach_one bytes h (two no_t p e) = record { len = 2; read = e; long = omega arith; found = found_pair bytes p }
reach_one bytes h (one no_t no_p s e) = record { len = 1; read = e; long = omega arith; found = found_single bytes s }
reach_one bytes h (none no_t no_p no_s e) = absurd (both_ways _ no_s h)

reach_two : (bytes : List ℕ) → is_pair (get_or bytes 0 0) (get_or bytes 1 0) ≡ true → SignCase bytes → SignReached bytes 2
reach_two bytes h (three t e) = record { len = 3; read = e; long = omega arith; found = found_triple bytes t }
reach_two bytes h (two no_t p e) = record { len = 2; read = e; long = omega arith; found = found_pair bytes p }
reach_two bytes h (one no_t no_p s e) = absurd (both_ways _ no_p h)
reach_two bytes h (none no_t no_p no_s e) = absurd (both_ways _ no_p h)

reach_three : (bytes : List ℕ) → is_triple (get_or bytes 0 0) (get_or bytes 1 0) (get_or bytes 2 0) ≡ true → SignCase bytes → SignReached bytes 3
reach_three bytes h (three t e) = record { len = 3; read = e; long = omega arith; found = found_triple bytes t }
reach_three bytes h (two no_t p e) = absurd (both_ways _ no_t h)
reach_three bytes h (one no_t no_p s e) = absurd (both_ways _ no_t h)
reach_three bytes h (none no_t no_p no_s e) = absurd (both_ways _ no_t h)

reach : (text rest : List ℕ) → shape text ≡ true → SignReached (text ++ rest) (length text)
reach [] rest h = absurd cc
reach (a ∷ []) rest h = reach_one (a ∷ rest) h (sign_case (a ∷ rest))
reach (a ∷ b ∷ []) rest h = reach_two (a ∷ b ∷ rest) h (sign_case (a ∷ b ∷ rest))
reach (a ∷ b ∷ c ∷ []) rest h = reach_three (a ∷ b ∷ c ∷ rest) h (sign_case (a ∷ b ∷ c ∷ rest))
reach (a ∷ b ∷ c ∷ d ∷ more) rest h = absurd cc

pub sign_reached : (text rest : List ℕ) → Contains signs text → SignReached (text ++ rest) (length text)
sign_reached text rest h = reach text rest (sign_shape text h)

pub same_sign : (m n : ℕ) → Lexeme Sign m ≡ Lexeme Sign n → m ≡ n
same_sign m n e = cc

found_case : (bytes : List ℕ) (len : ℕ) → sign_at bytes ≡ Lexeme Sign len → SignCase bytes → SignFound bytes len
found_case bytes len e (three t r) = subst (SignFound bytes) (same_sign 3 len (sym r ∙ e)) (found_triple bytes t)
found_case bytes len e (two no_t p r) = subst (SignFound bytes) (same_sign 2 len (sym r ∙ e)) (found_pair bytes p)
found_case bytes len e (one no_t no_p s r) = subst (SignFound bytes) (same_sign 1 len (sym r ∙ e)) (found_single bytes s)
found_case bytes len e (none no_t no_p no_s r) = let clash = sym r ∙ e in absurd cc

pub sign_found : (bytes : List ℕ) (len : ℕ) → sign_at bytes ≡ Lexeme Sign len → SignFound bytes len
sign_found bytes len e = found_case bytes len e (sign_case bytes)
