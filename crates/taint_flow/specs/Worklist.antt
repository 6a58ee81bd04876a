-- The state of the labelling while it is found: a label for each item, whether an item is queued, the stack of the queued, and
-- how many numbers the stack has room for.
use Rattle.std.specs.Prelude.{◌≡◌, ℕ, zero, suc, ◌+◌, ◌-◌, ◌*◌, ◌<◌, ◌≤◌, Bool, true, false, ◌==◌, nat_le, if◌then◌else◌, List, [], ◌∷◌, ◌++◌, length, Option, Some, slice_get, slice_index_or, unwrap_or, count_by, vec_capacity}
use Rattle.std.specs.Option.{option_map}
use Rattle.std.specs.List.{sum_by}
use Rattle.code_sweep.specs.declared.item.Item.{Item}
use Rattle.code_sweep.specs.declared.item.Placed.{Placed}
use Rattle.taint_flow.specs.Label.{Label, flags, IsAtMost}
use Rattle.taint_flow.specs.Flow.{Labelling, MeetsFlow, Leads, left_behind, said_behind}
use Rattle.taint_flow.specs.Bits.{label_of, labelling_of}
use Rattle.taint_flow.specs.declared.label.Label.{Label as LabelBits}
use Rattle.taint_flow.specs.declared.worklist.Worklist.{Worklist}

pub record State : Type 0 where
  pub labels : List LabelBits
  pub queued : List Bool
  pub stack : List ℕ
  pub room : ℕ

-- the state where further numbers count as on the stack, below those that are
abbrev pub state_over : List ℕ → Worklist → State
state_over below w = record { labels = w.labels.items; queued = w.queued.items; stack = below ++ w.stack.items; room = vec_capacity w.stack }

abbrev pub state_of : Worklist → State
state_of w = state_over [] w

-- where the test holds, number j counts as on top of the stack
abbrev pub topped : Bool → ℕ → State → State
topped b j s = record { labels = s.labels; queued = s.queued; stack = if b then s.stack ++ j ∷ [] else s.stack; room = s.room }

-- so many numbers from i on, the lowest on top: the items that wait for their first turn
unfoldable pub waiting : ℕ → ℕ → List ℕ
waiting i zero = []
waiting i (suc n) = waiting (i + 1) n ++ i ∷ []

-- what may be private before an item
abbrev pub label_at : State → Labelling
label_at s = labelling_of s.labels

abbrev pub is_queued : State → ℕ → Bool
is_queued s i = slice_index_or s.queued i false

-- one label and one flag for each of so many items, and room for all of them on the stack, which holds each queued item once
-- and no other number
pub record IsWhole (count : ℕ) (s : State) : Type 0 where
  pub labels : length s.labels ≡ count
  pub queued : length s.queued ≡ count
  pub room : count ≤ s.room
  pub inside : (k d : ℕ) → k < length s.stack → slice_index_or s.stack k d < count
  pub once : (i : ℕ) → count_by (λ k. k == i) s.stack ≡ (if is_queued s i then 1 else 0)
  pub stacked : length s.stack ≡ count_by (λ b. b) s.queued

-- the labels lie below a labelling
abbrev pub IsBelow : State → Labelling → Type 0
IsBelow s any = (i : ℕ) → IsAtMost (label_at s i) (any i)

-- the label where each of the 17 names may be private
abbrev pub all_private : Label
all_private = λ k. nat_le k flags

-- how many of the first n names may be private
unfoldable pub private_names : ℕ → Label → ℕ
private_names zero l = 0
private_names (suc n) l = private_names n l + (if l n then 1 else 0)

-- what is left to do: each name that is public in a label can become private, and each item on the stack is to be looked at
abbrev pub room_above : LabelBits → ℕ
room_above l = 17 - private_names 17 (label_of l.bits)

abbrev pub work_left : State → ℕ
work_left s = sum_by room_above s.labels + length s.stack

-- from one state to a later one: labels only rise, and what rose is queued
pub record Rises (s t : State) : Type 0 where
  pub labels : length t.labels ≡ length s.labels
  pub whole : (count : ℕ) → IsWhole count s → IsWhole count t
  pub higher : (i : ℕ) → IsAtMost (label_at s i) (label_at t i)
  pub told : (i : ℕ) → is_queued t i ≡ false → (is_queued s i ≡ false) × (label_at t i ≡ label_at s i)
  pub work : work_left t ≤ work_left s

-- the label of the item there, if one is named, takes in a label, and the others don't
abbrev pub TakesIn : Option ℕ → Label → State → Type 0
TakesIn to out t = (j : ℕ) → to ≡ Some j → IsAtMost out (label_at t j)

abbrev pub StaysBelow : Option ℕ → Label → State → State → Type 0
StaysBelow to out s t = (any : Labelling) → ((j : ℕ) → to ≡ Some j → IsAtMost out (any j)) → IsBelow s any → IsBelow t any

-- item i has handed on what it leaves
abbrev pub HandsOn : List Placed → ℕ → State → State → Type 0
HandsOn items i s t =
    (j : ℕ) (p : Placed) → slice_get items i ≡ Some p → Leads items i j → IsAtMost (left_behind p.item (label_at s i)) (label_at t j)

-- behind each word, of the first so many items, there is at least what it says
abbrev pub HasWords : List Placed → ℕ → State → Type 0
HasWords items count s =
    (i : ℕ) (p : Placed) (l : Label) → i < count → slice_get items i ≡ Some p → said_behind p.item ≡ Some l → IsAtMost l (label_at s (suc i))

-- the item behind a word, and what the word says of it
abbrev pub behind_word : Item → ℕ → Option ℕ
behind_word item i = option_map (λ _. i + 1) (said_behind item)

abbrev pub word_label : Item → Label
word_label item = unwrap_or (said_behind item) (label_of 0)

-- no label rises above what every labelling has that meets the flow rules
abbrev pub StaysLeast : List Placed → State → State → Type 0
StaysLeast items s t = (any : Labelling) → MeetsFlow items any → IsBelow s any → IsBelow t any

-- at the start nothing is private and every item is queued, so an item is looked at once, and once more for each name
pub record IsFresh (count : ℕ) (s : State) : Type 0 where
  pub whole : IsWhole count s
  pub public : (i k : ℕ) → label_at s i k ≡ false
  pub all_queued : (i : ℕ) → i < count → is_queued s i ≡ true
  pub work : work_left s ≡ 18 * count

-- what the search for the least labelling keeps: no label is too high, the first so many words have told what they say, and what
-- is not queued has handed on
pub record IsSound (items : List Placed) (count : ℕ) (s : State) : Type 0 where
  pub whole : IsWhole (length items) s
  pub words : HasWords items count s
  pub done : (i : ℕ) → is_queued s i ≡ false → HandsOn items i s s
  pub below : (any : Labelling) → MeetsFlow items any → IsBelow s any
