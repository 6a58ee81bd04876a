-- The first byte of a token tells what kinds it may have.
use Rattle.std.proofs.Common.{◌≡◌, ℕ, ◌<◌, ◌≤◌, Bool, true, false, not, ◌&&◌, ◌||◌, ◌==◌, cond, nat_lt, List, [], ◌∷◌, ◌++◌, get_or, refl, sym, ap, subst, ◌∙◌, arith, inl, inr}
use Rattle.std.specs.Prelude.{Contains, if◌then◌else◌}
use Rattle.std.specs.List.{list_all}
use Rattle.std.specs.Char.{is_ascii_digit}
use Rattle.std.proofs.lemmas.Bool.{and_parts, and_from, and_left, or_left, cond-true, cases_Bool, eqb-true, agree_below_at, not_from_false, false_from_ne_true}
use Rattle.std.proofs.lemmas.Bool.Decides.{nat_tests}
use Rattle.c_lexer.specs.declared.tokens.TokenKind.{TokenKind}
use Rattle.c_lexer.specs.declared.tokens.TokenKind.TheVariants.{Name, Keyword, Num, Char, Str, Sign}
use Rattle.c_lexer.specs.Spelling.{is_name_start, is_name_byte, IsNameText, keywords, digit_value, IsDigits, nought, decimal, hexadecimal, signs}
use Rattle.c_lexer.specs.Tokens.{IsToken, is_space, opens_comment}
use Rattle.c_lexer.specs.Reading.{is_single}
use Rattle.c_lexer.proofs.Lists.{member_passes, cond_is_first, cond_is_second}
use Rattle.c_lexer.proofs.NumberLemmas.{number_is_word, first_is_digit}

abbrev pub class_of : ℕ → ℕ
class_of b =
    if is_name_start b then 0
    else (if is_ascii_digit b then 1
    else (if b == 39 then 2
    else (if b == 34 then 3
    else (if is_single b then 4 else 5))))

abbrev pub kind_class : TokenKind → ℕ
kind_class Name = 0
kind_class Keyword = 0
kind_class (Num value) = 1
kind_class (Char value) = 2
kind_class Str = 3
kind_class Sign = 4

-- ---- the tests on a byte

digit_below : (b : ℕ) → nat_lt (digit_value b) 10 ≡ true → b < 58
digit_below b h = grind (arith, nat_tests)

digit_class : (b : ℕ) → nat_lt (digit_value b) 10 ≡ true → class_of b ≡ 1
digit_class b h =
    let none = agree_below_at (λ b. nat_lt (digit_value b) 10 && not (class_of b == 1)) (λ b. false) 58 b refl (digit_below b h) in
    elim (cases_Bool (class_of b == 1)) [
      | inl e ↦ eqb-true _ _ e
      | inr e ↦ let both = and_from (nat_lt (digit_value b) 10) (not (class_of b == 1)) h (not_from_false _ e) in absurd cc
    ]

space_below : (b : ℕ) → is_space b ≡ true → b < 33
space_below b h = grind (arith, nat_tests)

space_class : (b : ℕ) → is_space b ≡ true → class_of b ≡ 5
space_class b h =
    let none = agree_below_at (λ b. is_space b && not (class_of b == 5)) (λ b. false) 33 b refl (space_below b h) in
    elim (cases_Bool (class_of b == 5)) [
      | inl e ↦ eqb-true _ _ e
      | inr e ↦ let both = and_from (is_space b) (not (class_of b == 5)) h (not_from_false _ e) in absurd cc
    ]

pub no_space : (b : ℕ) → class_of b < 5 → is_space b ≡ false
no_space b h = false_from_ne_true (is_space b) (λ e. let five = space_class b e in omega arith)

pub not_slash : (b : ℕ) → class_of b < 4 → (b == 47) ≡ false
not_slash b h = false_from_ne_true (b == 47) (λ e. let four : class_of b ≡ 4 = ap class_of (eqb-true b 47 e) in omega arith)

pub opens_no_comment : (bytes : List ℕ) → (get_or bytes 0 0 == 47) ≡ false → opens_comment bytes ≡ false
opens_no_comment [] h = refl
opens_no_comment (a ∷ []) h = refl
opens_no_comment (a ∷ b ∷ bytes) h = and_left (a == 47) (b == 42 || b == 47) h

-- ---- what the class says of the tests, in the order of the reader

abbrev after_name : ℕ → ℕ
after_name b = cond (is_ascii_digit b) 1 (cond (b == 39) 2 (cond (b == 34) 3 (cond (is_single b) 4 5)))

abbrev after_digit : ℕ → ℕ
after_digit b = cond (b == 39) 2 (cond (b == 34) 3 (cond (is_single b) 4 5))

abbrev after_quote : ℕ → ℕ
after_quote b = cond (b == 34) 3 (cond (is_single b) 4 5)

least : (t : Bool) (x y n : ℕ) → n ≤ x → n ≤ y → n ≤ cond t x y
least true x y n a b = a
least false x y n a b = b

after_name_positive : (b : ℕ) → 1 ≤ after_name b
after_name_positive b =
    least (is_ascii_digit b) 1 (after_digit b) 1 (omega arith) (least (b == 39) 2 (after_quote b) 1 (omega arith)
    (least (b == 34) 3 (cond (is_single b) 4 5) 1 (omega arith) (least (is_single b) 4 5 1 (omega arith) (omega arith))))

after_digit_above : (b : ℕ) → 2 ≤ after_digit b
after_digit_above b =
    least (b == 39) 2 (after_quote b) 2 (omega arith)
    (least (b == 34) 3 (cond (is_single b) 4 5) 2 (omega arith) (least (is_single b) 4 5 2 (omega arith) (omega arith)))

pub class_0 : (b : ℕ) → class_of b ≡ 0 → is_name_start b ≡ true
class_0 b e = (cond_is_first (is_name_start b) 0 (after_name b) 0 e (λ z. let p = after_name_positive b in omega arith)).0

pub record IsDigitByte (b : ℕ) : Type 0 where
  pub name : is_name_start b ≡ false
  pub digit : is_ascii_digit b ≡ true

pub class_1 : (b : ℕ) → class_of b ≡ 1 → IsDigitByte b
class_1 b e =
    let n = cond_is_second (is_name_start b) 0 (after_name b) 1 e (λ z. omega arith) in
    let d = cond_is_first (is_ascii_digit b) 1 (after_digit b) 1 n.1 (λ z. let p = after_digit_above b in omega arith) in
    record { name = n.0; digit = d.0 }

pub record IsSignByte (b : ℕ) : Type 0 where
  pub name : is_name_start b ≡ false
  pub digit : is_ascii_digit b ≡ false
  pub quote : (b == 39) ≡ false
  pub string : (b == 34) ≡ false

pub class_4 : (b : ℕ) → class_of b ≡ 4 → IsSignByte b
class_4 b e =
    let n = cond_is_second (is_name_start b) 0 (after_name b) 4 e (λ z. omega arith) in
    let d = cond_is_second (is_ascii_digit b) 1 (after_digit b) 4 n.1 (λ z. omega arith) in
    let q = cond_is_second (b == 39) 2 (after_quote b) 4 d.1 (λ z. omega arith) in
    let s = cond_is_second (b == 34) 3 (cond (is_single b) 4 5) 4 q.1 (λ z. omega arith) in
    record { name = n.0; digit = d.0; quote = q.0; string = s.0 }

-- ---- the first byte of a token

pub record Begins (kind : TokenKind) (text : List ℕ) : Type 0 where
  pub first : ℕ
  pub more : List ℕ
  pub parts : text ≡ first ∷ more
  pub class : class_of first ≡ kind_class kind

-- a letter or `_`, and then letters, digits and `_`, as a test
pub is_word : List ℕ → Bool
is_word [] = false
is_word (b ∷ bs) = is_name_start b && list_all is_name_byte bs

word_is_name : (text : List ℕ) → is_word text ≡ true → IsNameText text
unfolding is_word
word_is_name [] h = absurd cc
word_is_name (b ∷ bs) h = and_parts (is_name_start b) (list_all is_name_byte bs) h

pub keyword_is_name : (text : List ℕ) → Contains keywords text → IsNameText text
unfolding is_word
keyword_is_name text h = word_is_name text (member_passes is_word keywords text refl h)

name_begins : (kind : TokenKind) → kind_class kind ≡ 0 → (text : List ℕ) → IsNameText text → Begins kind text
name_begins kind k [] h = absurd h
name_begins kind k (b ∷ bs) h = record { first = b; more = bs; parts = refl; class = cond-true _ _ _ h.0 ∙ sym k }

digits_begin : (digits suffix : List ℕ) (value : ℕ) → IsDigits digits value → Begins (Num value) (digits ++ suffix)
digits_begin digits suffix value nought = record { first = 48; more = suffix; parts = refl; class = refl }
digits_begin digits suffix value (decimal first more range digit) =
    record { first = first; more = more ++ suffix; parts = refl; class = digit_class first (first_is_digit first range).0 }
digits_begin digits suffix value (hexadecimal first more digit) =
    record { first = 48; more = 120 ∷ first ∷ more ++ suffix; parts = refl; class = refl }

first_class : List ℕ → ℕ
first_class [] = 9
first_class (b ∷ bs) = class_of b

sign_begins : (text : List ℕ) → Contains signs text → (first_class text == 4) ≡ true → Begins Sign text
unfolding first_class
sign_begins [] member h = absurd cc
sign_begins (b ∷ bs) member h = record { first = b; more = bs; parts = refl; class = eqb-true _ _ h }

pub token_begins : (kind : TokenKind) (text : List ℕ) → IsToken kind text → Begins kind text
unfolding first_class
token_begins Name text h = name_begins Name refl text h.0
token_begins Keyword text h = name_begins Keyword refl text (keyword_is_name text h)
token_begins (Num value) text h = subst (Begins (Num value)) (sym h.spelled) (digits_begin h.digits h.suffix value h.are_digits)
token_begins (Char value) text h = record { first = 39; more = h.0 ++ 39 ∷ []; parts = h.1; class = refl }
token_begins Str text h = record { first = 34; more = h.1.0 ++ 34 ∷ []; parts = h.1.1; class = refl }
token_begins Sign text h = sign_begins text h (member_passes (λ t. first_class t == 4) signs text refl h)

-- the first of the bytes that a token begins
pub first_of_bytes : (kind : TokenKind) (text rest bytes : List ℕ) → IsToken kind text → text ++ rest ≡ bytes → class_of (get_or bytes 0 0) ≡ kind_class kind
first_of_bytes kind text rest bytes h e =
    let b = token_begins kind text h in
    ap (λ (l : List ℕ). class_of (get_or l 0 0)) (sym e ∙ ap (λ l. l ++ rest) b.parts) ∙ b.class

-- ---- words: names, keywords and numbers

name_bytes : (text : List ℕ) → IsNameText text → list_all is_name_byte text ≡ true
name_bytes [] h = absurd h
name_bytes (b ∷ bs) h = and_from (is_name_byte b) (list_all is_name_byte bs) (or_left _ _ h.0) h.1

pub word_bytes : (kind : TokenKind) (text : List ℕ) → IsToken kind text → kind_class kind ≤ 1 → list_all is_name_byte text ≡ true
word_bytes Name text h k = name_bytes text h.0
word_bytes Keyword text h k = name_bytes text (keyword_is_name text h)
word_bytes (Num value) text h k = number_is_word text value h
word_bytes (Char value) text h k = absurd (omega arith)
word_bytes Str text h k = absurd (omega arith)
word_bytes Sign text h k = absurd (omega arith)
