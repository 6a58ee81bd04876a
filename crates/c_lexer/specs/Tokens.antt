-- How a source falls into tokens, spaces and comments: at each place the longest token that begins
-- there. 10 is the line feed, 42 is `*` and 47 is `/`.
use Rattle.std.specs.Prelude.{◌≡◌, ◌≢◌, ℕ, ◌+◌, ◌≤◌, Bool, false, not, ◌||◌, ◌&&◌, ◌==◌, List, [], ◌∷◌, ◌++◌, length, IsTrue, IsFalse, codes}
use Rattle.std.specs.List.{list_all, Contains}
use Rattle.c_lexer.specs.declared.tokens.Token.{Token}
use Rattle.c_lexer.specs.declared.tokens.TokenKind.{TokenKind}
use Rattle.c_lexer.specs.declared.tokens.TokenKind.TheVariants.{Name, Keyword, Num, Char, Str, Sign}
use Rattle.c_lexer.specs.declared.tokens.LexError.{LexError}
use Rattle.c_lexer.specs.declared.tokens.LexError.TheVariants.{NoMemory, LexFault}
use Rattle.c_lexer.specs.Spelling.{is_name_byte, IsNameText, keywords, IsNumberText, IsCharacterText, IsStringText, signs}

-- the whole text is a token of this kind, with this value
abbrev pub IsToken : TokenKind → List ℕ → Type 0
IsToken Name text = IsNameText text × ¬ Contains keywords text
IsToken Keyword text = Contains keywords text
IsToken (Num value) text = IsNumberText text value
IsToken (Char value) text = IsCharacterText text value
IsToken Str text = (bytes : List ℕ) × IsStringText text bytes
IsToken Sign text = Contains signs text

-- space, tab, carriage return and line feed
abbrev pub is_space : ℕ → Bool
is_space b = b == 32 || b == 9 || b == 13 || b == 10

-- a `/` is next
abbrev pub slash_next : List ℕ → Bool
slash_next [] = false
slash_next (b ∷ bs) = b == 47

-- a `*/` stands somewhere in the text
abbrev pub has_close : List ℕ → Bool
has_close [] = false
has_close (b ∷ bs) = (b == 42 && slash_next bs) || has_close bs

-- any byte of a line
abbrev pub is_not_line_feed : ℕ → Bool
is_not_line_feed b = not (b == 10)

-- a line feed is next, or nothing
abbrev pub EndsLine : List ℕ → Type 0
EndsLine [] = Unit {0}
EndsLine (b ∷ bs) = b ≡ 10

-- a space, or a whole comment: from `/*` to the next `*/`, or from `//` to the line's end
pub data IsBlank : List ℕ → List ℕ → Type 0 where
  space : (b : ℕ) (rest : List ℕ) → IsTrue (is_space b) → IsBlank (b ∷ []) rest
  block : (body rest : List ℕ) → IsFalse (has_close body)
      → IsBlank (codes "/*" ++ (body ++ codes "*/")) rest
  line : (body rest : List ℕ) → IsTrue (list_all is_not_line_feed body) → EndsLine rest
      → IsBlank (codes "//" ++ body) rest

-- the bytes begin with `/*` or `//`
abbrev pub opens_comment : List ℕ → Bool
opens_comment [] = false
opens_comment (a ∷ []) = false
opens_comment (a ∷ b ∷ rest) = a == 47 && (b == 42 || b == 47)

-- no letter, digit or `_` comes right after a number
abbrev pub IsApart : TokenKind → List ℕ → Type 0
IsApart (Num value) (b ∷ rest) = IsFalse (is_name_byte b)
IsApart kind rest = Unit {0}

-- a token stands before the rest: no longer front of the bytes is one, and no comment begins there
pub record IsTokenBefore (kind : TokenKind) (text rest : List ℕ) : Type 0 where
  pub token : IsToken kind text
  pub longest : (other : TokenKind) (front back : List ℕ) → IsToken other front
      → front ++ back ≡ text ++ rest → length front ≤ length text
  pub apart : IsApart kind rest
  pub no_comment : IsFalse (opens_comment (text ++ rest))

-- From a place where these bytes are left, over spaces and comments and exactly these tokens, to a
-- place where the last bytes are left.
pub data Reads : ℕ → List ℕ → List Token → ℕ → List ℕ → Type 0 where
  nothing : (place : ℕ) (bytes : List ℕ) → Reads place bytes [] place bytes
  blank : (place : ℕ) (bytes text rest : List ℕ) (tokens : List Token) (end : ℕ) (left : List ℕ)
      → bytes ≡ text ++ rest → IsBlank text rest
      → Reads (place + length text) rest tokens end left → Reads place bytes tokens end left
  token : (place : ℕ) (bytes text rest : List ℕ) (tokens : List Token) (end : ℕ) (left : List ℕ)
      (kind : TokenKind) → bytes ≡ text ++ rest → IsTokenBefore kind text rest
      → Reads (place + length text) rest tokens end left
      → Reads place bytes (record { kind = kind; start = place; end = place + length text } ∷ tokens) end left

-- the tokens of the whole source
abbrev pub IsTokenList : List ℕ → List Token → Type 0
IsTokenList source tokens = Reads 0 source tokens (length source) []

-- bytes are left, and neither a space nor a whole comment nor a token stands there
pub record NothingBegins (bytes : List ℕ) : Type 0 where
  pub some_left : bytes ≢ []
  pub no_blank : (text rest : List ℕ) → bytes ≡ text ++ rest → ¬ IsBlank text rest
  pub no_token : (kind : TokenKind) (text rest : List ℕ) → bytes ≡ text ++ rest → ¬ IsTokenBefore kind text rest

-- the first place, after spaces, comments and tokens, where none of them stands
abbrev pub StopsAt : List ℕ → ℕ → Type 0
StopsAt source place =
    (tokens : List Token) × (left : List ℕ) × Reads 0 source tokens place left × NothingBegins left

-- what an error says of the source; want of memory says nothing
abbrev pub IsRefusal : List ℕ → LexError → Type 0
IsRefusal source NoMemory = Unit {0}
IsRefusal source (LexFault place) = StopsAt source place
