-- Bytes put out, one piece after another.
use Rattle.std.specs.Prelude.{◌≡◌, ℕ, List, ◌++◌, take, Option}
use Rattle.std.specs.Option.{option_map}

-- the bytes with this piece behind them, where they are told
abbrev pub appended : Option (List ℕ) → List ℕ → Option (List ℕ)
appended told piece = option_map (λ bytes. bytes ++ piece) told

-- some front of the piece, from none to all of it, stands behind the bytes, where they are told
pub record AppendsFront (old : Option (List ℕ)) (piece : List ℕ) (new : Option (List ℕ)) : Type 0 where
  pub kept : ℕ
  pub is_appended : new ≡ appended old (take kept piece)
