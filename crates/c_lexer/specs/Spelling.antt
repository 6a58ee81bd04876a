-- How the tokens of each kind are spelled, as lists of ASCII codes: 34 is `"`, 39 is `'`, 48 to 57 are
-- the digits, 92 is `\` and 95 is `_`.
use Rattle.std.specs.Prelude.{◌≡◌, ℕ, ◌+◌, ◌*◌, ◌-◌, ◌^◌, ◌<◌, Bool, not, ◌||◌, ◌&&◌, ◌==◌, List, [], ◌∷◌, ◌++◌, Option, Some, None, IsTrue, if◌then◌else◌, nat_lt, codes}
use Rattle.std.specs.List.{list_all, fold, Contains}
use Rattle.std.specs.Char.{is_ascii_digit, is_ascii_alphabetic}
use Rattle.std.specs.Int.{is_in_range}

-- a letter or `_`
abbrev pub is_name_start : ℕ → Bool
is_name_start b = is_ascii_alphabetic b || b == 95

-- a letter, a digit or `_`
abbrev pub is_name_byte : ℕ → Bool
is_name_byte b = is_name_start b || is_ascii_digit b

-- a letter or `_`, and then letters, digits and `_`
abbrev pub IsNameText : List ℕ → Type 0
IsNameText [] = ⊥
IsNameText (b ∷ bs) = IsTrue (is_name_start b) × IsTrue (list_all is_name_byte bs)

-- the words that are spelled as names and are none
abbrev pub keywords : List (List ℕ)
keywords =
    codes "char" ∷ codes "int" ∷ codes "long" ∷ codes "void" ∷ codes "struct"
    ∷ codes "private" ∷ codes "if" ∷ codes "else" ∷ codes "while" ∷ codes "for"
    ∷ codes "do" ∷ codes "return" ∷ codes "break" ∷ codes "continue" ∷ codes "sizeof" ∷ []

-- what a byte counts as a digit, in bases up to 16, and 16 where it is none
abbrev pub digit_value : ℕ → ℕ
digit_value b =
    if is_in_range 48 57 b then b - 48
    else (if is_in_range 97 102 b then b - 87
    else (if is_in_range 65 70 b then b - 55 else 16))

-- each byte is a digit of the base
abbrev pub are_digits : ℕ → List ℕ → Bool
are_digits base text = list_all (λ b. nat_lt (digit_value b) base) text

-- the number that digits spell, the highest first
abbrev pub number_of : ℕ → List ℕ → ℕ
number_of base digits = fold (λ n b. base * n + digit_value b) 0 digits

-- `0`, a digit from 1 to 9 with digits, or `0x` with hexadecimal digits, and the number
pub data IsDigits : List ℕ → ℕ → Type 0 where
  nought : IsDigits (codes "0") 0
  decimal : (first : ℕ) (more : List ℕ) → IsTrue (is_in_range 49 57 first) → IsTrue (are_digits 10 more)
      → IsDigits (first ∷ more) (number_of 10 (first ∷ more))
  hexadecimal : (first : ℕ) (more : List ℕ) → IsTrue (are_digits 16 (first ∷ more))
      → IsDigits (codes "0x" ++ first ∷ more) (number_of 16 (first ∷ more))

-- what may end a number and says nothing
abbrev pub suffixes : List (List ℕ)
suffixes = [] ∷ codes "L" ∷ codes "l" ∷ []

-- digits and a suffix, for a number of at most 2 ^ 63 - 1
pub record IsNumberText (text : List ℕ) (value : ℕ) : Type 0 where
  pub digits : List ℕ
  pub suffix : List ℕ
  pub spelled : text ≡ digits ++ suffix
  pub are_digits : IsDigits digits value
  pub is_suffix : Contains suffixes suffix
  pub in_range : value < 2 ^ 63

-- what `\` and this byte stand for: n, t, r, 0, `\`, `'` and `"`
abbrev pub escaped : ℕ → Option ℕ
escaped b =
    if b == 110 then Some 10
    else (if b == 116 then Some 9
    else (if b == 114 then Some 13
    else (if b == 48 then Some 0
    else (if b == 92 then Some 92
    else (if b == 39 then Some 39
    else (if b == 34 then Some 34
    else None))))))

-- printable, and neither the quote nor `\`
abbrev pub is_plain : ℕ → ℕ → Bool
is_plain quote b = is_in_range 32 126 b && not (b == quote || b == 92)

-- between two such quotes the text stands for these bytes
pub data Spells (quote : ℕ) : List ℕ → List ℕ → Type 0 where
  nothing : Spells quote [] []
  plain : (b : ℕ) (text bytes : List ℕ) → IsTrue (is_plain quote b) → Spells quote text bytes
      → Spells quote (b ∷ text) (b ∷ bytes)
  escape : (e b : ℕ) (text bytes : List ℕ) → escaped e ≡ Some b → Spells quote text bytes
      → Spells quote (92 ∷ e ∷ text) (b ∷ bytes)

-- one byte between single quotes
abbrev pub IsCharacterText : List ℕ → ℕ → Type 0
IsCharacterText text value =
    (inner : List ℕ) × (text ≡ 39 ∷ inner ++ 39 ∷ []) × Spells 39 inner (value ∷ [])

-- any bytes between double quotes
abbrev pub IsStringText : List ℕ → List ℕ → Type 0
IsStringText text bytes =
    (inner : List ℕ) × (text ≡ 34 ∷ inner ++ 34 ∷ []) × Spells 34 inner bytes

-- the operators, brackets and separators
abbrev pub signs : List (List ℕ)
signs =
    codes "+" ∷ codes "-" ∷ codes "*" ∷ codes "/" ∷ codes "%" ∷ codes "&" ∷ codes "|" ∷ codes "^"
    ∷ codes "~" ∷ codes "!" ∷ codes "<" ∷ codes ">" ∷ codes "=" ∷ codes "?" ∷ codes ":" ∷ codes ";"
    ∷ codes "," ∷ codes "." ∷ codes "(" ∷ codes ")" ∷ codes "[" ∷ codes "]" ∷ codes "{" ∷ codes "}"
    ∷ codes "<<" ∷ codes ">>" ∷ codes "<=" ∷ codes ">=" ∷ codes "==" ∷ codes "!=" ∷ codes "&&"
    ∷ codes "||" ∷ codes "->" ∷ codes "++" ∷ codes "--" ∷ codes "+=" ∷ codes "-=" ∷ codes "*="
    ∷ codes "/=" ∷ codes "%=" ∷ codes "&=" ∷ codes "|=" ∷ codes "^=" ∷ codes "<<=" ∷ codes ">>=" ∷ []
