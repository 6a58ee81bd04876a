-- The values of a source's words lie below the bounds of their terminals.
use Rattle.std.proofs.Common.{◌≡◌, ℕ, suc, ◌+◌, ◌^◌, ◌<◌, ◌≤◌, Bool, true, false, cond, ◌||◌, ◌==◌, not, nat_le, List, [], ◌∷◌, ◌++◌, length, Option, Some, refl, ap, subst, arith, lit<, length-append}
use Rattle.std.specs.Prelude.{bytes_eq}
use Rattle.std.specs.Int.{is_in_range}
use Rattle.std.specs.List.{All, list_any}
use Rattle.std.proofs.lemmas.Bool.{and_parts, leb-true}
use Rattle.std.proofs.lemmas.List.Elements.{All-nil, All-cons, All-head, All-tail}
use Rattle.c_lexer.specs.declared.tokens.Token.{Token}
use Rattle.c_lexer.specs.declared.tokens.TokenKind.{TokenKind}
use Rattle.c_lexer.specs.declared.tokens.TokenKind.TheVariants as kind
use Rattle.c_lexer.specs.Spelling.{escaped, is_plain, Spells, nothing, plain, escape}
use Rattle.c_lexer.specs.Texts.{text_of, LiesIn, LieIn}
use Rattle.c_lexer.specs.Tokens.{IsToken}
use Rattle.c_grammar.specs.declared.words.Word.{Word}
use Rattle.c_grammar.specs.declared.words.Terminal.{Terminal}
use Rattle.c_grammar.specs.declared.words.Terminal.TheVariants.{Name, String, Character}
use Rattle.c_grammar.specs.Terminals.{terminal_of, spelled_in, keyword_spellings, sign_spellings}
use Rattle.c_parser.specs.Programs.{is_name, is_string, with_name, names_after, names_of, number_in, value_of, word_of, words_after, words_of_source}
use Rattle.c_parser.specs.Paths.{bound_of, AreBounded}

-- ---- characters

either_small : (t : Bool) (k b : ℕ) (rest : Option ℕ) → cond t (Some k) rest ≡ Some b → k < 256 → (rest ≡ Some b → b < 256) → b < 256
either_small true k b rest e small other = let same : k ≡ b = cc in subst (λ n. n < 256) same small
either_small false k b rest e small other = other e

escaped_small : (e b : ℕ) → escaped e ≡ Some b → b < 256
escaped_small e b h =
    either_small (e == 110) 10 b _ h (lit< tt) (λ h1. either_small (e == 116) 9 b _ h1 (lit< tt) (λ h2. either_small (e == 114) 13 b _ h2 (lit< tt) (λ h3. either_small (e == 48) 0 b _ h3 (lit< tt) (λ h4. either_small (e == 92) 92 b _ h4 (lit< tt) (λ h5. either_small (e == 39) 39 b _ h5 (lit< tt) (λ h6. either_small (e == 34) 34 b _ h6 (lit< tt) (λ h7. absurd cc)))))))

plain_small : (quote b : ℕ) → is_plain quote b ≡ true → b < 256
plain_small quote b h =
    let k = and_parts (is_in_range 32 126 b) (not (b == quote || b == 92)) h in
    let most : b ≤ 126 = leb-true b 126 (and_parts (nat_le 32 b) (nat_le b 126) k.0).1 in
    omega arith

abbrev Small : List ℕ → Type 0
Small [] = Unit {0}
Small (b ∷ bytes) = b < 256

spelled_small : (quote : ℕ) (text bytes : List ℕ) → Spells quote text bytes → Small bytes
spelled_small quote text bytes nothing = tt
spelled_small quote text bytes (plain b inner more p s) = plain_small quote b p
spelled_small quote text bytes (escape e b inner more p s) = escaped_small e b p

-- ---- numbers of names

length_names : (source : List ℕ) (tokens : List Token) (names : List (List ℕ)) → length (names_after source names tokens) ≤ length names + length tokens
length_names source [] names = omega arith
length_names source (t ∷ tokens) names =
    elim (is_name t.kind) as (λ (b : Bool). length (names_after source (cond b (with_name names (text_of source t)) names) tokens) ≤ length names + length (t ∷ tokens)) [
      | true ↦ let h = length_names source tokens (with_name names (text_of source t)) in let one = length_with names (text_of source t) (list_any (bytes_eq (text_of source t)) names) in omega arith
      | false ↦ let h = length_names source tokens names in omega arith
    ]
  where
    length_with : (names : List (List ℕ)) (text : List ℕ) (b : Bool) → length (cond b names (names ++ text ∷ [])) ≤ length names + 1
    length_with names text true = omega arith
    length_with names text false = let l = length-append names (text ∷ []) in omega arith

number_within : (text : List ℕ) (names : List (List ℕ)) → number_in names text ≤ length names
number_within text [] = omega arith
number_within text (n ∷ names) =
    elim (bytes_eq text n) as (λ (b : Bool). cond b 0 (suc (number_in names text)) ≤ length (n ∷ names)) [
      | true ↦ omega arith
      | false ↦ let h = number_within text names in omega arith
    ]

-- ---- words

positive : (t : Terminal) → 0 < bound_of t
positive Name = lit< tt
positive String = lit< tt
positive Character = lit< tt
positive other = lit< tt

bounded_value : (source : List ℕ) (names : List (List ℕ)) (n : ℕ) (t : Token) (k : TokenKind) → length names < 2 ^ 32 → n < 2 ^ 32 → IsToken k (text_of source t)
    → value_of source names n t k < bound_of (terminal_of k (text_of source t))
bounded_value source names n t kind.Name few below h = let w = number_within (text_of source t) names in omega arith
bounded_value source names n t kind.Keyword few below h = positive (spelled_in keyword_spellings (text_of source t))
bounded_value source names n t (kind.Num v) few below h = let r = h.in_range in omega arith
bounded_value source names n t (kind.Char v) few below h = spelled_small 39 h.0 (v ∷ []) h.2
bounded_value source names n t kind.Str few below h = below
bounded_value source names n t kind.Sign few below h = positive (spelled_in sign_spellings (text_of source t))

bounded_words : (source : List ℕ) (names : List (List ℕ)) (tokens : List Token) (n : ℕ) → length names < 2 ^ 32 → n + length tokens < 2 ^ 32 → All (LiesIn source) tokens
    → AreBounded (words_after source names n tokens)
bounded_words source names [] n few below each = All-nil (λ (w : Word). w.value < bound_of w.terminal)
bounded_words source names (t ∷ tokens) n few below each =
    let lies = All-head (LiesIn source) t tokens each in
    let next : (b : Bool) → cond b (suc n) n + length tokens < 2 ^ 32 = λ b. elim b as (λ (b : Bool). cond b (suc n) n + length tokens < 2 ^ 32) [ true ↦ omega arith | false ↦ omega arith ] in
    All-cons (λ (w : Word). w.value < bound_of w.terminal) (word_of source names n t) (words_after source names (cond (is_string t.kind) (suc n) n) tokens)
    (bounded_value source names n t t.kind few (omega arith) lies.spelled)
    (bounded_words source names tokens (cond (is_string t.kind) (suc n) n) few (next (is_string t.kind)) (All-tail (LiesIn source) t tokens each))

length_words : (source : List ℕ) (names : List (List ℕ)) (tokens : List Token) (n : ℕ) → length (words_after source names n tokens) ≡ length tokens
length_words source names [] n = refl
length_words source names (t ∷ tokens) n = ap suc (length_words source names tokens (cond (is_string t.kind) (suc n) n))

pub words_bounded : (source : List ℕ) (tokens : List Token) → length source < 2 ^ 32 → LieIn source tokens → AreBounded (words_of_source source tokens)
words_bounded source tokens short lie =
    let few = length_names source tokens [] in
    let within = lie.no_more_than_bytes in
    bounded_words source (names_of source tokens) tokens 0 (omega arith) (omega arith) lie.each

pub words_short : (source : List ℕ) (tokens : List Token) → length source < 2 ^ 32 → LieIn source tokens → length (words_of_source source tokens) < 2 ^ 32
words_short source tokens short lie =
    let same = length_words source (names_of source tokens) tokens 0 in
    let within = lie.no_more_than_bytes in
    omega arith
