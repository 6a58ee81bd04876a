-- The program that the tokens of a source are: its names and strings by number, and its items by the grammar.
use Rattle.std.specs.Prelude.{◌≡◌, ◌≢◌, ℕ, suc, Bool, true, false, List, [], ◌∷◌, ◌++◌, if◌then◌else◌}
use Rattle.std.specs.List.{list_any}
use Rattle.std.specs.Str.{bytes_eq}
use Rattle.c_lexer.specs.declared.tokens.Token.{Token}
use Rattle.c_lexer.specs.declared.tokens.TokenKind.{TokenKind}
use Rattle.c_lexer.specs.declared.tokens.TokenKind.TheVariants as kind
use Rattle.c_lexer.specs.Spelling.{IsStringText}
use Rattle.c_lexer.specs.Texts.{text_of}
use Rattle.c_ast.specs.declared.program.Program.{Program}
use Rattle.c_grammar.specs.declared.words.Word.{Word}
use Rattle.c_parser.specs.declared.errors.ParseError.{ParseError}
use Rattle.c_parser.specs.declared.errors.ParseError.TheVariants.{NoMemory, SyntaxFault, DepthFault}
use Rattle.c_grammar.specs.Terminals.{terminal_of}
use Rattle.c_grammar.specs.Reading.{Nested, IsReading, IsWithin}
use Rattle.c_grammar.specs.Faults.{IsSyntaxFault, IsDepthFault}

abbrev pub is_name : TokenKind → Bool
is_name kind.Name = true
is_name other = false

abbrev pub is_string : TokenKind → Bool
is_string kind.Str = true
is_string other = false

-- names in first-seen order: a new one comes to the end
abbrev pub with_name : List (List ℕ) → List ℕ → List (List ℕ)
with_name names text = if list_any (bytes_eq text) names then names else names ++ text ∷ []

-- the names after those that are seen
abbrev pub names_after : List ℕ → List (List ℕ) → List Token → List (List ℕ)
names_after source names [] = names
names_after source names (t ∷ tokens) =
    names_after source (if is_name t.kind then with_name names (text_of source t) else names) tokens

abbrev pub names_of : List ℕ → List Token → List (List ℕ)
names_of source tokens = names_after source [] tokens

-- the place of a text in a list, and the list's length where it isn't there
abbrev pub number_in : List (List ℕ) → List ℕ → ℕ
number_in [] text = 0
number_in (name ∷ names) text = if bytes_eq text name then 0 else suc (number_in names text)

-- what each string stands for, in order
pub data Strings (source : List ℕ) : List Token → List (List ℕ) → Type 0 where
  none : Strings source [] []
  string : (t : Token) (tokens : List Token) (bytes : List ℕ) (more : List (List ℕ)) → t.kind ≡ kind.Str
      → IsStringText (text_of source t) bytes → Strings source tokens more → Strings source (t ∷ tokens) (bytes ∷ more)
  skip : (t : Token) (tokens : List Token) (strings : List (List ℕ)) → t.kind ≢ kind.Str
      → Strings source tokens strings → Strings source (t ∷ tokens) strings

-- the value of a token behind so many strings: its number in the names or the strings, or its own
abbrev pub value_of : List ℕ → List (List ℕ) → ℕ → Token → TokenKind → ℕ
value_of source names strings t kind.Name = number_in names (text_of source t)
value_of source names strings t kind.Keyword = 0
value_of source names strings t (kind.Num value) = value
value_of source names strings t (kind.Char value) = value
value_of source names strings t kind.Str = strings
value_of source names strings t kind.Sign = 0

abbrev pub word_of : List ℕ → List (List ℕ) → ℕ → Token → Word
word_of source names strings t =
    record { terminal = terminal_of t.kind (text_of source t); place = t.start; value = value_of source names strings t t.kind }

abbrev pub words_after : List ℕ → List (List ℕ) → ℕ → List Token → List Word
words_after source names strings [] = []
words_after source names strings (t ∷ tokens) =
    word_of source names strings t ∷ words_after source names (if is_string t.kind then suc strings else strings) tokens

abbrev pub words_of_source : List ℕ → List Token → List Word
words_of_source source tokens = words_after source (names_of source tokens) 0 tokens

-- the tokens are this program, and no token is nested above the limit
pub record IsProgram (source : List ℕ) (tokens : List Token) (limit : ℕ) (program : Program) : Type 0 where
  pub names : program.names ≡ names_of source tokens
  pub strings : Strings source tokens program.strings
  pub way : List Nested
  pub reading : IsReading (words_of_source source tokens) program.items way
  pub within : IsWithin limit way

-- the words have this fault; want of memory says nothing
abbrev pub IsFault : ℕ → List Word → ParseError → Type 0
IsFault limit words NoMemory = Unit {0}
IsFault limit words (SyntaxFault token) = IsSyntaxFault limit words token
IsFault limit words (DepthFault token) = IsDepthFault limit words token
