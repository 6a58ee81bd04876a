-- What labelling asks of a listing: its items stand in order in the code, and none leads past the last. And the number of
-- the item at a place.
use Rattle.std.specs.Prelude.{◌≡◌, ◌≢◌, ℕ, suc, ◌+◌, ◌/◌, ◌^◌, ◌<◌, ◌≤◌, Bool, true, List, [], ◌∷◌, length, Option, Some, None, slice_get, slice_index, ◌==◌, if◌then◌else◌}
use Rattle.code_sweep.specs.declared.item.Item.{Item}
use Rattle.code_sweep.specs.declared.item.Item.TheVariants.{Call, Ret}
use Rattle.code_sweep.specs.declared.item.Placed.{Placed}
use Rattle.taint_flow.specs.Flow.{falls_through}

-- a later item begins at a higher place
abbrev pub Rise : List Placed → Type 0
Rise items = (i j : ℕ) (p q : Placed) → slice_get items i ≡ Some p → slice_get items j ≡ Some q → i < j → p.at < q.at

-- the items stand inside the code, in order
pub record StandInOrder (items : List Placed) (code : List ℕ) : Type 0 where
  pub inside : (i : ℕ) (p : Placed) → slice_get items i ≡ Some p → p.at < length code
  pub rising : Rise items

-- a later item begins where an earlier one has ended, or behind that
abbrev pub StandApart : List Placed → Type 0
StandApart items = (i j : ℕ) (p q : Placed) → slice_get items i ≡ Some p → slice_get items j ≡ Some q → i < j → p.at + p.len ≤ q.at

-- an item that leads to the one behind it, and a word, is not the last
abbrev pub goes_on : Item → Bool
goes_on (Call bits) = true
goes_on (Ret bit) = true
goes_on item = falls_through item

abbrev pub NextStands : List Placed → Type 0
NextStands items = (i : ℕ) (p : Placed) → slice_get items i ≡ Some p → goes_on p.item ≡ true → suc i < length items

-- the function gives the number of the item that begins at a place of the code, and None exactly where none does
pub record NumbersItems (items : List Placed) (number : ℕ → Option ℕ) : Type 0 where
  pub each : (j : ℕ) (q : Placed) → slice_get items j ≡ Some q → number q.at ≡ Some j
  pub only : (place j : ℕ) → number place ≡ Some j → (q : Placed) × (slice_get items j ≡ Some q) × (q.at ≡ place)

-- the number of the first of these items that begins at a place, where they are numbered from i on
abbrev pub number_from : ℕ → List Placed → ℕ → Option ℕ
number_from i [] place = None
number_from i (p ∷ ps) place = if p.at == place then Some i else number_from (suc i) ps place

-- the number of the item that begins at a place
abbrev pub number_at : List Placed → ℕ → Option ℕ
number_at items place = number_from 0 items place

-- none of the items before number i begins at the place
abbrev pub BeginsNowhereBelow : List Placed → ℕ → ℕ → Type 0
BeginsNowhereBelow items i place = (k : ℕ) (p : Placed) → k < i → slice_get items k ≡ Some p → p.at ≢ place

-- A table by blocks of 8 bytes of a code: an item is that of its block's entry, or a later one.
pub record FindsItems (items : List Placed) (firsts : List ℕ) : Type 0 where
  pub rising : Rise items
  pub limit : length items < 2 ^ 32
  pub inside : (i : ℕ) (p : Placed) → slice_get items i ≡ Some p → p.at / 8 < length firsts
  pub first : (i : ℕ) (p : Placed) → slice_get items i ≡ Some p → slice_index firsts (p.at / 8) ≤ i
