-- Words of decimal digits, and the numbers that they are.
use Rattle.std.specs.Prelude.{◌≡◌, ◌+◌, ◌-◌, ◌*◌, ◌<◌, ℕ, List, length, All, fold}
use Rattle.std.specs.Char.{IsAsciiDigit}

-- the number with one digit more behind it
abbrev pub with_digit : ℕ → ℕ → ℕ
with_digit number digit = 10 * number + (digit - 48)

-- The word is one or more digits, and this is their value. Zeros may lead; a sign is no digit.
pub record IsNumber (word : List ℕ) (number : ℕ) : Type 0 where
  pub some : 0 < length word
  pub digits : All IsAsciiDigit word
  pub value : fold with_digit 0 word ≡ number
