-- A code as one chain of items: the item at a place, and the chain that begins at the code's first byte.
use Rattle.std.specs.Prelude.{◌≡◌, ℕ, ◌+◌, ◌<◌, List, [], ◌∷◌, length, take, drop, Some}
use Rattle.x64_decode.specs.Spelling.{spelling}
use Rattle.x64_decode.specs.Reading.{instruction_at}
use Rattle.x64_decode.specs.declared.instr.Reg.{Reg}
use Rattle.x64_decode.specs.declared.instr.Instr.{Instr}
use Rattle.x64_decode.specs.declared.instr.Instr.TheVariants.{CmpFlat, JmpR10, CallR10}
use Rattle.magic_words.specs.MagicWords.{call_word, return_word}
use Rattle.magic_words.specs.declared.word.Word.{Word}
use Rattle.magic_words.specs.declared.word.Word.TheVariants as word
use Rattle.code_sweep.specs.Units.{return_unit, call_unit}
use Rattle.code_sweep.specs.declared.item.Item.{Item}
use Rattle.code_sweep.specs.declared.item.Item.TheVariants.{Call, Ret, Plain, ReturnUnit, CallUnit}
use Rattle.code_sweep.specs.declared.item.Placed.{Placed}

-- the item that a word is
abbrev pub item_of : Word → Item
item_of (word.Call bits) = Call bits
item_of (word.Ret bit) = Ret bit

-- the bytes of an item
unfoldable pub item_bytes : List ℕ → Item → List ℕ
item_bytes prefix (Call bits) = call_word bits prefix
item_bytes prefix (Ret bit) = return_word bit prefix
item_bytes prefix (Plain i) = spelling i
item_bytes prefix (ReturnUnit bit) = return_unit prefix bit
item_bytes prefix (CallUnit r bits) = call_unit prefix r bits

-- what an item's numbers must be
abbrev pub IsProper : Item → Type 0
IsProper (Call bits) = bits < 32
IsProper (Ret bit) = bit < 2
IsProper (Plain i) = Unit {0}
IsProper (ReturnUnit bit) = bit < 2
IsProper (CallUnit r bits) = bits < 32

-- the bytes begin with those of the item
abbrev pub Begins : List ℕ → List ℕ → Item → Type 0
Begins prefix bytes item = IsProper item × (take (length (item_bytes prefix item)) bytes ≡ item_bytes prefix item)

-- no word, no return unit, no call unit begins here
abbrev pub NoWord : List ℕ → List ℕ → Type 0
NoWord prefix bytes = (bits : ℕ) → (Begins prefix bytes (Call bits) → ⊥) × (Begins prefix bytes (Ret bits) → ⊥)

abbrev pub NoReturnUnit : List ℕ → List ℕ → Type 0
NoReturnUnit prefix bytes = (bit : ℕ) → Begins prefix bytes (ReturnUnit bit) → ⊥

abbrev pub NoCallUnit : List ℕ → List ℕ → Type 0
NoCallUnit prefix bytes = (r : Reg) (bits : ℕ) → Begins prefix bytes (CallUnit r bits) → ⊥

-- what may stand outside a check unit: all instructions but the three that a check ends with or compares by
abbrev pub StandsAlone : Instr → Type 0
StandsAlone CmpFlat = ⊥
StandsAlone JmpR10 = ⊥
StandsAlone CallR10 = ⊥
StandsAlone _ = Unit {0}

-- the item that the bytes begin with: a word, else a return unit, else a call unit, else an instruction
abbrev pub IsItem : List ℕ → List ℕ → Item → Type 0
IsItem prefix bytes (Call bits) = Begins prefix bytes (Call bits)
IsItem prefix bytes (Ret bit) = Begins prefix bytes (Ret bit)
IsItem prefix bytes (ReturnUnit bit) = NoWord prefix bytes × Begins prefix bytes (ReturnUnit bit)
IsItem prefix bytes (CallUnit r bits) = NoWord prefix bytes × NoReturnUnit prefix bytes × Begins prefix bytes (CallUnit r bits)
IsItem prefix bytes (Plain i) =
    NoWord prefix bytes × NoReturnUnit prefix bytes × NoCallUnit prefix bytes × (instruction_at bytes ≡ Some i) × StandsAlone i

-- the item that stands at a place of the code
pub record StandsAt (prefix code : List ℕ) (place : ℕ) (item : Item) : Type 0 where
  pub inside : place < length code
  pub is : IsItem prefix (drop place code) item

-- the items stand one behind another from one place of the code to another
abbrev pub IsChain : List ℕ → List ℕ → List Placed → ℕ → ℕ → Type 0
IsChain prefix code [] from to = from ≡ to
IsChain prefix code (p ∷ ps) from to =
    (p.at ≡ from) × (p.len ≡ length (item_bytes prefix p.item)) × StandsAt prefix code from p.item × IsChain prefix code ps (from + p.len) to

-- the listing of a code: the chain from its first byte to its end
abbrev pub IsListing : List ℕ → List ℕ → List Placed → Type 0
IsListing prefix code items = IsChain prefix code items 0 (length code)

-- the chain breaks at a place of the code: it comes there, and no item stands there
pub record BreaksAt (prefix code : List ℕ) (place : ℕ) : Type 0 where
  pub before : List Placed
  pub chain : IsChain prefix code before 0 place
  pub inside : place < length code
  pub none : (item : Item) → StandsAt prefix code place item → ⊥
