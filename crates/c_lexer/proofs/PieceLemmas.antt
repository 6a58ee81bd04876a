-- What the reader finds at a place stands there, and what stands there is found.
use Rattle.std.proofs.Common.{◌≡◌, ℕ, suc, ◌+◌, ◌<◌, ◌≤◌, true, false, ◌||◌, ◌==◌, cond, nat_lt, List, [], ◌∷◌, ◌++◌, length, get_or, take, drop, Option, Some, None, refl, sym, ap, subst, ◌∙◌, arith, inl, inr}
use Rattle.std.specs.Prelude.{Contains, ◌⊎◌}
use Rattle.std.specs.List.{list_all, prefix_len}
use Rattle.std.specs.Char.{is_ascii_digit}
use Rattle.std.proofs.lemmas.Bool.{and_parts, or_cases, or_right, cond_both, cond-true, cond-false, eqb-true, both_ways, false_from_ne_true}
use Rattle.std.proofs.lemmas.Bool.Decides.{nat_tests}
use Rattle.std.proofs.lemmas.List.{append_assoc, length-append, length-take-le, take_at, drop_at, take-append-drop, get_or-take}
use Rattle.std.proofs.lemmas.List.Sums.{prefix_len-le-length}
use Rattle.c_lexer.specs.declared.tokens.TokenKind.{TokenKind}
use Rattle.c_lexer.specs.declared.tokens.TokenKind.TheVariants.{Name, Keyword, Num, Char, Str, Sign}
use Rattle.c_lexer.specs.declared.lexer.Piece.{Piece}
use Rattle.c_lexer.specs.declared.lexer.Piece.TheVariants.{Blank, Lexeme, Unknown}
use Rattle.c_lexer.specs.Spelling.{is_name_start, is_name_byte, IsNameText, keywords, digit_value, IsCharacterText}
use Rattle.c_lexer.specs.Tokens.{IsToken, is_space, is_not_line_feed, opens_comment, IsBlank, space, block, line, IsApart, IsTokenBefore, NothingBegins}
use Rattle.c_lexer.specs.Reading.{is_keyword, name_at, number_text, number_piece, number_at, character_at, character_piece, string_end, string_piece, comment_end, blank_piece, comment_at, sign_at, piece_at}
use Rattle.c_lexer.proofs.Lists.{front_within_run, run_is_front, run_passes, run_stops, member_passes, some_is}
use Rattle.c_lexer.proofs.NumberLemmas.{number_again, number_found, number_is_word}
use Rattle.c_lexer.proofs.QuotedLemmas.{character_again, character_found, string_again, string_found}
use Rattle.c_lexer.proofs.CommentLemmas.{comment_again, comment_found, EndsLine-stops, EndsLine-from_stops}
use Rattle.c_lexer.proofs.SignLemmas.{same_sign, member_from_any, sign_reached, sign_found, SignCase, three, two, one, none, sign_case}
use Rattle.c_lexer.proofs.FirstBytes.{class_of, kind_class, no_space, not_slash, opens_no_comment, class_0, class_1, class_4, token_begins, first_of_bytes, word_bytes}

abbrev pub IsPieceOf : List ℕ → Piece → Type 0
IsPieceOf bytes (Blank len) = (len ≤ length bytes) × IsBlank (take len bytes) (drop len bytes)
IsPieceOf bytes (Lexeme kind len) = (len ≤ length bytes) × IsTokenBefore kind (take len bytes) (drop len bytes)
IsPieceOf bytes Unknown = Unit {0}

-- ---- names and keywords

run_positive : (bytes : List ℕ) → is_name_start (get_or bytes 0 0) ≡ true → 0 < prefix_len is_name_byte bytes
run_positive [] h = absurd cc
run_positive (b ∷ bs) h = rw h (omega arith)

name_text : (text : List ℕ) → is_name_start (get_or text 0 0) ≡ true → list_all is_name_byte text ≡ true → IsNameText text
name_text [] h k = absurd cc
name_text (b ∷ bs) h k = (h, (and_parts (is_name_byte b) (list_all is_name_byte bs) k).1)

-- no token that begins with a letter, `_` or a digit goes further than the run of letters, digits and `_`
word_longest : (bytes : List ℕ) → class_of (get_or bytes 0 0) ≤ 1 → (other : TokenKind) (front back : List ℕ) → IsToken other front
    → front ++ back ≡ bytes → length front ≤ prefix_len is_name_byte bytes
word_longest bytes h other front back token e =
    let class = first_of_bytes other front back bytes token e in
    let passes = word_bytes other front token (omega arith) in
    subst (λ l. length front ≤ prefix_len is_name_byte l) e (front_within_run is_name_byte front back passes)

-- a token that is the run of letters, digits and `_`
run_token : (bytes : List ℕ) (kind : TokenKind) → class_of (get_or bytes 0 0) ≤ 1 → IsToken kind (take (prefix_len is_name_byte bytes) bytes)
    → IsApart kind (drop (prefix_len is_name_byte bytes) bytes) → IsPieceOf bytes (Lexeme kind (prefix_len is_name_byte bytes))
run_token bytes kind h token apart =
    let len = prefix_len is_name_byte bytes in
    let within : len ≤ length bytes = prefix_len-le-length is_name_byte bytes in
    let whole : take len bytes ++ drop len bytes ≡ bytes = take-append-drop len bytes in
    let text_length : length (take len bytes) ≡ len = length-take-le len bytes within in (
      within,
      record {
        token = token;
        longest = λ other front back t e. let short = word_longest bytes h other front back t (e ∙ whole) in omega arith;
        apart = apart;
        no_comment = ap opens_comment whole ∙ opens_no_comment bytes (not_slash (get_or bytes 0 0) (omega arith));
      },
    )

keyword_decides : (text : List ℕ) → is_keyword text ≡ true → Contains keywords text
keyword_decides text h = member_from_any text keywords h

keyword_again : (text : List ℕ) → Contains keywords text → is_keyword text ≡ true
keyword_again text h = member_passes is_keyword keywords text refl h

pub name_found : (bytes : List ℕ) → is_name_start (get_or bytes 0 0) ≡ true → IsPieceOf bytes (name_at bytes)
unfolding name_at
name_found bytes h =
    let len = prefix_len is_name_byte bytes in
    let text = take len bytes in
    let class : class_of (get_or bytes 0 0) ≡ 0 = cond-true _ _ _ h in
    let first : get_or text 0 0 ≡ get_or bytes 0 0 = get_or-take len bytes 0 0 (run_positive bytes h) in
    let is_name = name_text text (ap is_name_start first ∙ h) (run_passes is_name_byte bytes) in
    cond_both (is_keyword text) Keyword Name (λ kind. IsPieceOf bytes (Lexeme kind len))
    (λ e. run_token bytes Keyword (omega arith) (keyword_decides text e) tt)
    (λ e. run_token bytes Name (omega arith) (is_name, λ member. both_ways _ e (keyword_again text member)) tt)

-- the run is the token, where the token can't be longer
word_length : (text rest : List ℕ) (kind other : TokenKind) → IsTokenBefore kind text rest → kind_class kind ≤ 1
    → IsToken other (take (prefix_len is_name_byte (text ++ rest)) (text ++ rest)) → prefix_len is_name_byte (text ++ rest) ≡ length text
word_length text rest kind other t k run =
    let bytes = text ++ rest in
    let len = prefix_len is_name_byte bytes in
    let within : len ≤ length bytes = prefix_len-le-length is_name_byte bytes in
    let run_length : length (take len bytes) ≡ len = length-take-le len bytes within in
    let no_longer = t.longest other (take len bytes) (drop len bytes) run (take-append-drop len bytes) in
    let no_shorter = front_within_run is_name_byte text rest (word_bytes kind text t.token k) in
    omega arith

name_is_run : (text rest : List ℕ) (kind : TokenKind) → IsTokenBefore kind text rest → kind_class kind ≡ 0
    → (is_keyword text ≡ true → Keyword ≡ kind) → (is_keyword text ≡ false → Name ≡ kind) → name_at (text ++ rest) ≡ Lexeme kind (length text)
unfolding name_at
name_is_run text rest kind t k yes_keyword no_keyword =
    let bytes = text ++ rest in
    let len = prefix_len is_name_byte bytes in
    let start = class_0 (get_or bytes 0 0) (first_of_bytes kind text rest bytes t.token refl ∙ k) in
    let found = name_found bytes start in
    let run = cond_both (is_keyword (take len bytes)) Keyword Name (λ other. IsPieceOf bytes (Lexeme other len) → len ≡ length text)
    (λ e piece. word_length text rest kind Keyword t (omega arith) piece.1.token)
    (λ e piece. word_length text rest kind Name t (omega arith) piece.1.token) found in
    let same : take len bytes ≡ text = take_at text rest len (sym run) in
    (λ i. Lexeme (cond (is_keyword (same i)) Keyword Name) (run i))
    ∙ cond_both (is_keyword text) Keyword Name (λ other. Lexeme other (length text) ≡ Lexeme kind (length text))
    (λ e. ap (λ other. Lexeme other (length text)) (yes_keyword e)) (λ e. ap (λ other. Lexeme other (length text)) (no_keyword e))

-- ---- numbers

apart_from_stop : (value : ℕ) (rest : List ℕ) → prefix_len is_name_byte rest ≡ 0 → IsApart (Num value) rest
apart_from_stop value [] h = tt
apart_from_stop value (b ∷ rest) h =
    false_from_ne_true (is_name_byte b) (λ e. let more : 1 + prefix_len is_name_byte rest ≡ 0 = sym (cond-true (is_name_byte b) _ _ e) ∙ h in omega arith)

stop_from_apart : (value : ℕ) (rest : List ℕ) → IsApart (Num value) rest → prefix_len is_name_byte rest ≡ 0
stop_from_apart value [] h = refl
stop_from_apart value (b ∷ rest) h = cond-false _ _ _ h

digit_is_decimal : (b : ℕ) → is_ascii_digit b ≡ true → nat_lt (digit_value b) 10 ≡ true
digit_is_decimal b h = grind (arith, nat_tests)

digit_in_name : (b : ℕ) → is_ascii_digit b ≡ true → is_name_byte b ≡ true
digit_in_name b h = or_right _ _ h

run_digit : (bytes : List ℕ) → is_ascii_digit (get_or bytes 0 0) ≡ true → nat_lt (digit_value (get_or (take (prefix_len is_name_byte bytes) bytes) 0 0)) 10 ≡ true
run_digit [] h = absurd cc
run_digit (b ∷ bs) h =
    let len = prefix_len is_name_byte (b ∷ bs) in
    let positive : 0 < len = rw (digit_in_name b h) (omega arith) in
    ap (λ x. nat_lt (digit_value x) 10) (get_or-take len (b ∷ bs) 0 0 positive) ∙ digit_is_decimal b h

number_piece_found : (bytes : List ℕ) → class_of (get_or bytes 0 0) ≡ 1 → is_ascii_digit (get_or bytes 0 0) ≡ true → (o : Option ℕ) → number_text (take (prefix_len is_name_byte bytes) bytes) ≡ o
    → IsPieceOf bytes (number_piece (prefix_len is_name_byte bytes) o)
number_piece_found bytes class digit None e = tt
number_piece_found bytes class digit (Some value) e =
    run_token bytes (Num value) (omega arith) (number_found (take (prefix_len is_name_byte bytes) bytes) value (run_digit bytes digit) e)
    (apart_from_stop value _ (run_stops is_name_byte bytes))

pub number_is_found : (bytes : List ℕ) → is_name_start (get_or bytes 0 0) ≡ false → is_ascii_digit (get_or bytes 0 0) ≡ true → IsPieceOf bytes (number_at bytes)
unfolding number_at
number_is_found bytes name digit =
    number_piece_found bytes (cond-false _ _ _ name ∙ cond-true _ _ _ digit) digit (number_text (take (prefix_len is_name_byte bytes) bytes)) refl

number_is_run : (text rest : List ℕ) (value : ℕ) → IsTokenBefore (Num value) text rest → number_at (text ++ rest) ≡ Lexeme (Num value) (length text)
unfolding number_at
number_is_run text rest value t =
    let bytes = text ++ rest in
    let len = prefix_len is_name_byte bytes in
    let run : len ≡ length text = run_is_front is_name_byte text rest (number_is_word text value t.token) (stop_from_apart value rest t.apart) in
    let same : take len bytes ≡ text = take_at text rest len (sym run) in
    (λ i. number_piece (run i) (number_text (same i))) ∙ ap (number_piece (length text)) (number_again text value t.token)

-- ---- characters and strings

char_of : (kind : TokenKind) → kind_class kind ≡ 2 → (value : ℕ) × (kind ≡ Char value)
char_of Name h = absurd (omega arith)
char_of Keyword h = absurd (omega arith)
char_of (Num value) h = absurd (omega arith)
char_of (Char value) h = (value, refl)
char_of Str h = absurd (omega arith)
char_of Sign h = absurd (omega arith)

str_of : (kind : TokenKind) → kind_class kind ≡ 3 → kind ≡ Str
str_of Name h = absurd (omega arith)
str_of Keyword h = absurd (omega arith)
str_of (Num value) h = absurd (omega arith)
str_of (Char value) h = absurd (omega arith)
str_of Str h = refl
str_of Sign h = absurd (omega arith)

sign_of : (kind : TokenKind) → kind_class kind ≡ 4 → kind ≡ Sign
sign_of Name h = absurd (omega arith)
sign_of Keyword h = absurd (omega arith)
sign_of (Num value) h = absurd (omega arith)
sign_of (Char value) h = absurd (omega arith)
sign_of Str h = absurd (omega arith)
sign_of Sign h = refl

second_of : (x n y m : ℕ) → ◌≡◌ {A = Option (ℕ × ℕ)} (Some (x, n)) (Some (y, m)) → n ≡ m
second_of x n y m e = let same : ◌≡◌ {A = ℕ × ℕ} (x, n) (y, m) = cc in ap (λ (q : ℕ × ℕ). q.1) same

-- a token at the front that nothing longer can replace
front_token : (bytes : List ℕ) (kind : TokenKind) (len : ℕ) → (get_or bytes 0 0 == 47) ≡ false → len ≤ length bytes → IsToken kind (take len bytes)
    → ((rest : List ℕ) → IsApart kind rest)
    → ((other : TokenKind) (front back : List ℕ) → IsToken other front → front ++ back ≡ bytes → length front ≤ len)
    → IsPieceOf bytes (Lexeme kind len)
front_token bytes kind len slash within token apart longest =
    let whole : take len bytes ++ drop len bytes ≡ bytes = take-append-drop len bytes in
    let text_length : length (take len bytes) ≡ len = length-take-le len bytes within in (
      within,
      record {
        token = token;
        longest = λ other front back t e. let short = longest other front back t (e ∙ whole) in omega arith;
        apart = apart (drop len bytes);
        no_comment = ap opens_comment whole ∙ opens_no_comment bytes slash;
      },
    )

character_piece_found : (bytes : List ℕ) → get_or bytes 0 0 ≡ 39 → (o : Option (ℕ × ℕ)) → character_at bytes ≡ o → IsPieceOf bytes (character_piece o)
character_piece_found bytes quote None e = tt
character_piece_found bytes quote (Some found) e =
    let f = character_found bytes found.0 found.1 quote e in
    front_token bytes (Char found.0) found.1 (ap (λ b. b == 47) quote) f.within f.text (λ rest. tt)
    (λ other front back t whole.
    let class : kind_class other ≡ 2 = sym (first_of_bytes other front back bytes t whole) ∙ ap class_of quote in
    let c = char_of other class in
    let text : IsCharacterText front c.0 = subst (λ kind. IsToken kind front) c.1 t in
    let same : found.1 ≡ length front = second_of found.0 found.1 c.0 (length front) (sym e ∙ ap character_at (sym whole) ∙ character_again front back c.0 text) in
    omega arith)

string_piece_found : (bytes : List ℕ) → get_or bytes 0 0 ≡ 34 → (o : Option ℕ) → string_end 1 (drop 1 bytes) ≡ o → IsPieceOf bytes (string_piece o)
string_piece_found bytes quote None e = tt
string_piece_found bytes quote (Some len) e =
    let f = string_found bytes len quote e in
    front_token bytes Str len (ap (λ b. b == 47) quote) f.within (f.values, f.text) (λ rest. tt)
    (λ other front back t whole.
    let class : kind_class other ≡ 3 = sym (first_of_bytes other front back bytes t whole) ∙ ap class_of quote in
    let text : IsToken Str front = subst (λ kind. IsToken kind front) (str_of other class) t in
    let same : len ≡ length front = some_is len (length front) (sym e ∙ ap (λ l. string_end 1 (drop 1 l)) (sym whole) ∙ string_again front back text.0 text.1) in
    omega arith)

-- ---- signs

sign_token : (bytes : List ℕ) (len : ℕ) → opens_comment bytes ≡ false → sign_at bytes ≡ Lexeme Sign len → IsPieceOf bytes (Lexeme Sign len)
sign_token bytes len comment e =
    let f = sign_found bytes len e in
    let whole : take len bytes ++ drop len bytes ≡ bytes = take-append-drop len bytes in
    let text_length : length (take len bytes) ≡ len = length-take-le len bytes f.within in
    let class : class_of (get_or bytes 0 0) ≡ 4 = first_of_bytes Sign (take len bytes) (drop len bytes) bytes f.text whole in (
      f.within,
      record {
        token = f.text;
        longest = λ other front back t parts.
            let at_bytes : front ++ back ≡ bytes = parts ∙ whole in
            let other_class : kind_class other ≡ 4 = sym (first_of_bytes other front back bytes t at_bytes) ∙ class in
            let text : IsToken Sign front = subst (λ kind. IsToken kind front) (sign_of other other_class) t in
            let reached = sign_reached front back text in
            let same : len ≡ reached.len = same_sign len reached.len (sym e ∙ ap sign_at (sym at_bytes) ∙ reached.read) in
            omega (arith, reached.long);
        apart = tt;
        no_comment = ap opens_comment whole ∙ comment;
      },
    )

sign_case_found : (bytes : List ℕ) → opens_comment bytes ≡ false → SignCase bytes → IsPieceOf bytes (sign_at bytes)
sign_case_found bytes comment (three t e) = subst (IsPieceOf bytes) (sym e) (sign_token bytes 3 comment e)
sign_case_found bytes comment (two no_t p e) = subst (IsPieceOf bytes) (sym e) (sign_token bytes 2 comment e)
sign_case_found bytes comment (one no_t no_p s e) = subst (IsPieceOf bytes) (sym e) (sign_token bytes 1 comment e)
sign_case_found bytes comment (none no_t no_p no_s e) = subst (IsPieceOf bytes) (sym e) tt

sign_is_read : (text rest : List ℕ) → IsTokenBefore Sign text rest → sign_at (text ++ rest) ≡ Lexeme Sign (length text)
sign_is_read text rest t =
    let bytes = text ++ rest in
    let reached = sign_reached text rest t.token in
    let no_longer = t.longest Sign (take reached.len bytes) (drop reached.len bytes) reached.found.text (take-append-drop reached.len bytes) in
    let front_length : length (take reached.len bytes) ≡ reached.len = length-take-le reached.len bytes reached.found.within in
    let same : reached.len ≡ length text = omega (arith, reached.long) in
    reached.read ∙ ap (λ len. Lexeme Sign len) same

-- ---- comments

line_found : (bs : List ℕ) → IsPieceOf (47 ∷ 47 ∷ bs) (Blank (2 + prefix_len is_not_line_feed bs))
line_found bs =
    let len = prefix_len is_not_line_feed bs in
    let within : len ≤ length bs = prefix_len-le-length is_not_line_feed bs in
    let two : suc (suc len) ≡ 2 + len = omega arith in
    let here : IsBlank (47 ∷ 47 ∷ take len bs) (drop len bs) = line (take len bs) (drop len bs) (run_passes is_not_line_feed bs) (EndsLine-from_stops (drop len bs) (run_stops is_not_line_feed bs)) in
    (omega arith, subst (λ n. IsBlank (take n (47 ∷ 47 ∷ bs)) (drop n (47 ∷ 47 ∷ bs))) two here)

block_found : (bs : List ℕ) (o : Option ℕ) → comment_end 2 bs ≡ o → IsPieceOf (47 ∷ 42 ∷ bs) (blank_piece o)
block_found bs None e = tt
block_found bs (Some len) e =
    let f = comment_found 2 bs len e in
    let whole = 47 ∷ 42 ∷ f.body ++ 42 ∷ 47 ∷ [] in
    let parts : 47 ∷ 42 ∷ bs ≡ whole ++ f.rest = ap (λ l. 47 ∷ 42 ∷ l) (f.parts ∙ sym (append_assoc f.body (42 ∷ 47 ∷ []) f.rest)) in
    let len_is : length whole ≡ len = omega (arith, length-append f.body (42 ∷ 47 ∷ []), f.end_is) in
    let here : IsBlank whole f.rest = block f.body f.rest f.open_before in
    let text : take len (47 ∷ 42 ∷ bs) ≡ whole = ap (take len) parts ∙ take_at whole f.rest len len_is in
    let rest : drop len (47 ∷ 42 ∷ bs) ≡ f.rest = ap (drop len) parts ∙ drop_at whole f.rest len len_is in
    (omega (arith, ap length parts, length-append whole f.rest), subst (λ t. IsBlank t (drop len (47 ∷ 42 ∷ bs))) (sym text) (subst (λ r. IsBlank whole r) (sym rest) here))

comment_case : (b : ℕ) (bs : List ℕ) → (b ≡ 42) ⊎ (b ≡ 47) → IsPieceOf (47 ∷ b ∷ bs) (comment_at (47 ∷ b ∷ bs))
unfolding comment_at
comment_case b bs (inl e) = subst (λ x. IsPieceOf (47 ∷ x ∷ bs) (comment_at (47 ∷ x ∷ bs))) (sym e) (block_found bs (comment_end 2 bs) refl)
comment_case b bs (inr e) = subst (λ x. IsPieceOf (47 ∷ x ∷ bs) (comment_at (47 ∷ x ∷ bs))) (sym e) (line_found bs)

comment_is_found : (bytes : List ℕ) → opens_comment bytes ≡ true → IsPieceOf bytes (comment_at bytes)
comment_is_found [] h = absurd cc
comment_is_found (a ∷ []) h = absurd cc
comment_is_found (a ∷ b ∷ bs) h =
    let k = and_parts (a == 47) (b == 42 || b == 47) h in
    let second : (b ≡ 42) ⊎ (b ≡ 47) = elim (or_cases (b == 42) (b == 47) k.1) [ inl e ↦ inl (eqb-true b 42 e) | inr e ↦ inr (eqb-true b 47 e) ] in
    subst (λ x. IsPieceOf (x ∷ b ∷ bs) (comment_at (x ∷ b ∷ bs))) (sym (eqb-true a 47 k.0)) (comment_case b bs second)

space_found : (bytes : List ℕ) → is_space (get_or bytes 0 0) ≡ true → IsPieceOf bytes (Blank 1)
space_found [] h = absurd cc
space_found (b ∷ bs) h = (omega arith, space b bs h)

-- ---- whatever stands there

pub piece_found : (bytes : List ℕ) → IsPieceOf bytes (piece_at bytes)
unfolding piece_at
piece_found bytes =
    let first = get_or bytes 0 0 in
    let Found : Piece → Type 0 = IsPieceOf bytes in
    cond_both (is_space first) _ _ Found (λ e. space_found bytes e) (λ not_space.
    cond_both (is_name_start first) _ _ Found (λ e. name_found bytes e) (λ not_name.
    cond_both (is_ascii_digit first) _ _ Found (λ e. number_is_found bytes not_name e) (λ not_digit.
    cond_both (first == 39) _ _ Found (λ e. character_piece_found bytes (eqb-true _ _ e) (character_at bytes) refl) (λ not_quote.
    cond_both (first == 34) _ _ Found (λ e. string_piece_found bytes (eqb-true _ _ e) (string_end 1 (drop 1 bytes)) refl) (λ not_string.
    cond_both (opens_comment bytes) _ _ Found (λ e. comment_is_found bytes e) (λ not_comment.
    sign_case_found bytes not_comment (sign_case bytes)))))))

pub blank_again : (text rest : List ℕ) → IsBlank text rest → piece_at (text ++ rest) ≡ Blank (length text)
unfolding piece_at comment_at
blank_again text rest (space b rest' h) = cond-true _ _ _ h
blank_again text rest (block body rest' h) =
    ap blank_piece (ap (comment_end 2) (append_assoc body (42 ∷ 47 ∷ []) rest) ∙ comment_again 2 body rest h)
    ∙ ap (λ len. Blank len) (omega (arith, length-append body (42 ∷ 47 ∷ [])))
blank_again text rest (line body rest' passes ends) =
    let run = run_is_front is_not_line_feed body rest passes (EndsLine-stops rest ends) in
    ap (λ len. Blank len) (omega arith)

pub token_again : (kind : TokenKind) (text rest : List ℕ) → IsTokenBefore kind text rest → piece_at (text ++ rest) ≡ Lexeme kind (length text)
unfolding piece_at
token_again Name text rest t =
    let class : class_of (get_or (text ++ rest) 0 0) ≡ 0 = first_of_bytes Name text rest (text ++ rest) t.token refl in
    let other : is_space (get_or (text ++ rest) 0 0) ≡ false = no_space (get_or (text ++ rest) 0 0) (omega arith) in
    cond-false _ _ _ other ∙ cond-true _ _ _ (class_0 (get_or (text ++ rest) 0 0) class)
    ∙ name_is_run text rest Name t refl (λ e. absurd (t.token.1 (keyword_decides text e))) (λ e. refl)
token_again Keyword text rest t =
    let class : class_of (get_or (text ++ rest) 0 0) ≡ 0 = first_of_bytes Keyword text rest (text ++ rest) t.token refl in
    let other : is_space (get_or (text ++ rest) 0 0) ≡ false = no_space (get_or (text ++ rest) 0 0) (omega arith) in
    cond-false _ _ _ other ∙ cond-true _ _ _ (class_0 (get_or (text ++ rest) 0 0) class)
    ∙ name_is_run text rest Keyword t refl (λ e. refl) (λ e. absurd (both_ways _ e (keyword_again text t.token)))
token_again (Num value) text rest t =
    let class : class_of (get_or (text ++ rest) 0 0) ≡ 1 = first_of_bytes (Num value) text rest (text ++ rest) t.token refl in
    let d = class_1 (get_or (text ++ rest) 0 0) class in
    let other : is_space (get_or (text ++ rest) 0 0) ≡ false = no_space (get_or (text ++ rest) 0 0) (omega arith) in
    cond-false _ _ _ other ∙ cond-false _ _ _ d.name ∙ cond-true _ _ _ d.digit ∙ number_is_run text rest value t
token_again (Char value) text rest t =
    let quote : get_or (text ++ rest) 0 0 ≡ 39 = ap (λ (l : List ℕ). get_or (l ++ rest) 0 0) t.token.1 in
    cond-false _ _ _ (ap is_space quote) ∙ cond-false _ _ _ (ap is_name_start quote) ∙ cond-false _ _ _ (ap is_ascii_digit quote)
    ∙ cond-true _ _ _ (ap (λ b. b == 39) quote) ∙ ap character_piece (character_again text rest value t.token)
token_again Str text rest t =
    let quote : get_or (text ++ rest) 0 0 ≡ 34 = ap (λ (l : List ℕ). get_or (l ++ rest) 0 0) t.token.1.1 in
    cond-false _ _ _ (ap is_space quote) ∙ cond-false _ _ _ (ap is_name_start quote) ∙ cond-false _ _ _ (ap is_ascii_digit quote)
    ∙ cond-false _ _ _ (ap (λ b. b == 39) quote) ∙ cond-true _ _ _ (ap (λ b. b == 34) quote)
    ∙ ap string_piece (string_again text rest t.token.0 t.token.1)
token_again Sign text rest t =
    let class : class_of (get_or (text ++ rest) 0 0) ≡ 4 = first_of_bytes Sign text rest (text ++ rest) t.token refl in
    let d = class_4 (get_or (text ++ rest) 0 0) class in
    let other : is_space (get_or (text ++ rest) 0 0) ≡ false = no_space (get_or (text ++ rest) 0 0) (omega arith) in
    cond-false _ _ _ other ∙ cond-false _ _ _ d.name ∙ cond-false _ _ _ d.digit ∙ cond-false _ _ _ d.quote
    ∙ cond-false _ _ _ d.string ∙ cond-false _ _ _ t.no_comment ∙ sign_is_read text rest t

-- nothing stands where nothing is found
pub nothing_begins : (bytes : List ℕ) → 0 < length bytes → piece_at bytes ≡ Unknown → NothingBegins bytes
nothing_begins bytes long e = record {
  some_left = λ empty. let none : length bytes ≡ 0 = ap length empty in omega arith;
  no_blank = λ text rest parts h. let found = sym e ∙ ap piece_at parts ∙ blank_again text rest h in absurd cc;
  no_token = λ kind text rest parts h. let found = sym e ∙ ap piece_at parts ∙ token_again kind text rest h in absurd cc;
}

-- ---- no piece is empty

pub IsBlank-long : (text rest : List ℕ) → IsBlank text rest → 0 < length text
IsBlank-long text rest (space b rest' h) = omega arith
IsBlank-long text rest (block body rest' h) = omega arith
IsBlank-long text rest (line body rest' passes ends) = omega arith

pub token-long : (kind : TokenKind) (text : List ℕ) → IsToken kind text → 0 < length text
token-long kind text h = let b = token_begins kind text h in omega (arith, ap length b.parts)
