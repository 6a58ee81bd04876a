-- What the parser's functions for words say. No public contract cites it.
use Rattle.std.specs.Prelude.{◌≡◌, ℕ, List, [], ◌∷◌, ◌++◌, length, drop, if◌then◌else◌}
use Rattle.c_lexer.specs.declared.tokens.Token.{Token}
use Rattle.c_lexer.specs.declared.tokens.TokenKind.{TokenKind}
use Rattle.c_lexer.specs.declared.tokens.TokenKind.TheVariants as kind
use Rattle.c_lexer.specs.Spelling.{IsStringText}
use Rattle.c_grammar.specs.declared.words.Word.{Word}
use Rattle.c_parser.specs.Programs.{is_name, with_name, names_after, names_of, number_in, words_after, words_of_source, Strings}

-- the names after a text of this kind
abbrev pub names_with : List (List ℕ) → TokenKind → List ℕ → List (List ℕ)
names_with names k text = if is_name k then with_name names text else names

-- the value of a text of this kind, behind so many strings
abbrev pub value_in : List (List ℕ) → ℕ → List ℕ → TokenKind → ℕ
value_in names strings text kind.Name = number_in names text
value_in names strings text kind.Keyword = 0
value_in names strings text (kind.Num value) = value
value_in names strings text (kind.Char value) = value
value_in names strings text kind.Str = strings
value_in names strings text kind.Sign = 0

-- a string comes to the end of those before it
abbrev pub Adds : TokenKind → List ℕ → List (List ℕ) → List (List ℕ) → Type 0
Adds kind.Str text old new = (bytes : List ℕ) × IsStringText text bytes × (new ≡ old ++ bytes ∷ [])
Adds other text old new = new ≡ old

-- what is told once so many tokens are read
pub record Told (source : List ℕ) (tokens : List Token) (index : ℕ) (done : List Word) (seen kept : List (List ℕ)) : Type 0 where
  pub names : names_after source seen (drop index tokens) ≡ names_of source tokens
  pub words : done ++ words_after source (names_of source tokens) (length kept) (drop index tokens) ≡ words_of_source source tokens
  pub strings : (more : List (List ℕ)) → Strings source (drop index tokens) more → Strings source tokens (kept ++ more)
