-- What the functions of this crate compute, on lists. No public contract cites it.
use Rattle.std.specs.Prelude.{ℕ, ◌+◌, ◌*◌, ◌-◌, ◌^◌, Bool, not, ◌||◌, ◌&&◌, ◌==◌, List, [], ◌∷◌, length, take, drop, Option, Some, None, is_some, option_map, if◌then◌else◌, nat_lt, slice_index, codes}
use Rattle.std.specs.List.{list_any, prefix_len}
use Rattle.std.specs.Str.{bytes_eq}
use Rattle.std.specs.Char.{is_ascii_digit}
use Rattle.c_lexer.specs.declared.tokens.TokenKind.TheVariants.{Name, Keyword, Num, Char, Str, Sign}
use Rattle.c_lexer.specs.declared.lexer.Piece.{Piece}
use Rattle.c_lexer.specs.declared.lexer.Piece.TheVariants.{Blank, Lexeme, Unknown}
use Rattle.c_lexer.specs.Spelling.{is_name_start, is_name_byte, keywords, digit_value, escaped, is_plain}
use Rattle.c_lexer.specs.Tokens.{is_space, is_not_line_feed, opens_comment, slash_next}

abbrev pub is_keyword : List ℕ → Bool
is_keyword text = list_any (λ word. bytes_eq text word) keywords

-- a token of this length, or none
abbrev pub number_piece : ℕ → Option ℕ → Piece
number_piece len None = Unknown
number_piece len (Some value) = Lexeme (Num value) len

abbrev pub character_piece : Option (ℕ × ℕ) → Piece
character_piece None = Unknown
character_piece (Some found) = Lexeme (Char found.0) found.1

abbrev pub string_piece : Option ℕ → Piece
string_piece None = Unknown
string_piece (Some len) = Lexeme Str len

abbrev pub blank_piece : Option ℕ → Piece
blank_piece None = Unknown
blank_piece (Some len) = Blank len

unfoldable pub name_at : List ℕ → Piece
name_at bytes =
    let len = prefix_len is_name_byte bytes in
    Lexeme (if is_keyword (take len bytes) then Keyword else Name) len

-- the number so far, and the digits that are left
abbrev pub value_from : ℕ → ℕ → List ℕ → Option ℕ
value_from base value [] = Some value
value_from base value (b ∷ bs) =
    if nat_lt (digit_value b) base && nat_lt (base * value + digit_value b) (2 ^ 63)
    then value_from base (base * value + digit_value b) bs else None

-- without the suffix
unfoldable pub without_suffix : List ℕ → List ℕ
without_suffix text =
    let last = slice_index text (length text - 1) in
    if last == 76 || last == 108 then take (length text - 1) text else text

unfoldable pub digits_value : List ℕ → Option ℕ
digits_value digits =
    if not (slice_index digits 0 == 48) then value_from 10 0 digits
    else (if length digits == 1 then Some 0
    else (if slice_index digits 1 == 120 && nat_lt 2 (length digits)
    then value_from 16 0 (drop 2 digits) else None))

-- the value of a whole text, if it is a number
unfoldable pub number_text : List ℕ → Option ℕ
number_text text = digits_value (without_suffix text)

unfoldable pub number_at : List ℕ → Piece
number_at bytes =
    let len = prefix_len is_name_byte bytes in
    number_piece len (number_text (take len bytes))

-- the byte between single quotes, and the length with them
unfoldable pub character_at : List ℕ → Option (ℕ × ℕ)
character_at bytes =
    let first = slice_index bytes 1 in
    if first == 92
    then (if slice_index bytes 3 == 39 then option_map (λ b. (b, 4)) (escaped (slice_index bytes 2)) else None)
    else (if is_plain 39 first && slice_index bytes 2 == 39 then Some (first, 3) else None)

-- where a string ends, of which these bytes are left
abbrev pub string_end : ℕ → List ℕ → Option ℕ
string_end place [] = None
string_end place (b ∷ []) = if b == 34 then Some (place + 1) else None
string_end place (b ∷ e ∷ bs) =
    if b == 34 then Some (place + 1)
    else (if b == 92 then (if is_some (escaped e) then string_end (place + 2) bs else None)
    else (if is_plain 34 b then string_end (place + 1) (e ∷ bs) else None))

-- where a comment between `/*` and `*/` ends, of which these bytes are left
abbrev pub comment_end : ℕ → List ℕ → Option ℕ
comment_end place [] = None
comment_end place (b ∷ bs) =
    if b == 42 && slash_next bs then Some (place + 2) else comment_end (place + 1) bs

-- the bytes begin with `/*` or `//`
unfoldable pub comment_at : List ℕ → Piece
comment_at bytes =
    if slice_index bytes 1 == 47 then Blank (2 + prefix_len is_not_line_feed (drop 2 bytes))
    else blank_piece (comment_end 2 (drop 2 bytes))

abbrev pub is_single : ℕ → Bool
is_single a = list_any (λ s. a == s) (codes "+-*/%&|^~!<>=?:;,.()[]{}")

abbrev pub is_pair : ℕ → ℕ → Bool
is_pair a b =
    (b == 61 && list_any (λ s. a == s) (codes "<>=!+-*/%&|^"))
    || ((b == a && list_any (λ s. a == s) (codes "<>&|+-")) || (a == 45 && b == 62))

abbrev pub is_triple : ℕ → ℕ → ℕ → Bool
is_triple a b c = (a == 60 || a == 62) && (b == a && c == 61)

unfoldable pub sign_at : List ℕ → Piece
sign_at bytes =
    let a = slice_index bytes 0 in
    let b = slice_index bytes 1 in
    if is_triple a b (slice_index bytes 2) then Lexeme Sign 3
    else (if is_pair a b then Lexeme Sign 2
    else (if is_single a then Lexeme Sign 1 else Unknown))

-- what stands at the front of the bytes
unfoldable pub piece_at : List ℕ → Piece
piece_at bytes =
    let first = slice_index bytes 0 in
    if is_space first then Blank 1
    else (if is_name_start first then name_at bytes
    else (if is_ascii_digit first then number_at bytes
    else (if first == 39 then character_piece (character_at bytes)
    else (if first == 34 then string_piece (string_end 1 (drop 1 bytes))
    else (if opens_comment bytes then comment_at bytes
    else sign_at bytes)))))
