-- Call words and return words among the bytes of a code, and the places of their prefix.
use Rattle.std.specs.Prelude.{◌≡◌, ℕ, ◌<◌, ◌≤◌, List, length, take, drop, slice_index}
use Rattle.magic_words.specs.declared.word.Word.{Word}
use Rattle.magic_words.specs.declared.word.Word.TheVariants.{Call, Ret}
pub use Rattle.cv_word.specs.Marks.{call_word, return_word}

abbrev pub word_of : List ℕ → Word → List ℕ
word_of prefix (Call bits) = call_word bits prefix
word_of prefix (Ret bit) = return_word bit prefix

-- the bits of a word are in range
abbrev pub IsWord : Word → Type 0
IsWord (Call bits) = bits < 32
IsWord (Ret bit) = bit < 2

-- the bytes begin with this word
pub record BeginsWord (bytes prefix : List ℕ) (word : Word) : Type 0 where
  pub proper : IsWord word
  pub stands : take 8 bytes ≡ word_of prefix word

-- the bytes of the prefix stand at a place of the code
abbrev pub IsOccurrence : List ℕ → List ℕ → ℕ → Type 0
IsOccurrence prefix code place = take (length prefix) (drop place code) ≡ prefix

-- the prefix stands nowhere from one place up to another
abbrev pub NoneBetween : List ℕ → List ℕ → ℕ → ℕ → Type 0
NoneBetween prefix code from to = (place : ℕ) → from ≤ place → place < to → IsOccurrence prefix code place → ⊥

-- every place below a bound where the prefix stands, overlapping ones too, in order
pub record AreOccurrences (prefix code : List ℕ) (bound : ℕ) (places : List ℕ) : Type 0 where
  pub each : (k : ℕ) → k < length places → (slice_index places k < bound) × IsOccurrence prefix code (slice_index places k)
  pub all : (place : ℕ) → place < bound → IsOccurrence prefix code place → (k : ℕ) × (k < length places) × (slice_index places k ≡ place)
  pub rising : (i j : ℕ) → i < j → j < length places → slice_index places i < slice_index places j
