-- Where the tokens of a source lie, and the text of each.
use Rattle.std.specs.Prelude.{ℕ, ◌<◌, ◌≤◌, List, map, length, slice_range}
use Rattle.std.specs.List.{All}
use Rattle.std.specs.List.Sorted.{IsStrictlyIncreasing}
use Rattle.c_lexer.specs.declared.tokens.Token.{Token}
use Rattle.c_lexer.specs.Tokens.{IsToken}

-- the bytes of a token
abbrev pub text_of : List ℕ → Token → List ℕ
text_of source token = slice_range source token.start token.end

-- the token has bytes, they lie in the source, and they spell its kind
pub record LiesIn (source : List ℕ) (token : Token) : Type 0 where
  pub some_bytes : token.start < token.end
  pub within : token.end ≤ length source
  pub spelled : IsToken token.kind (text_of source token)

-- the first places of tokens
abbrev pub starts : List Token → List ℕ
starts tokens = map (λ token. token.start) tokens

-- what every list of tokens has
pub record LieIn (source : List ℕ) (tokens : List Token) : Type 0 where
  pub each : All (LiesIn source) tokens
  pub rising : IsStrictlyIncreasing (starts tokens)
  pub no_more_than_bytes : length tokens ≤ length source
