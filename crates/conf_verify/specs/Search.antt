-- The first of so many items at which something is bad, by its number; and the least number that is bad.
use Rattle.std.specs.Prelude.{◌≡◌, ◌≢◌, ◌<◌, ◌≤◌, ℕ, ◌+◌, min, Bool, true, false, ◌⊎◌, List, length, Option, Some, None, MatchOption, slice_get, slice_index}
use Rattle.cv_word.specs.CallBits.{result_bit_of}
use Rattle.code_sweep.specs.declared.item.Item.{Item}
use Rattle.code_sweep.specs.declared.item.Item.TheVariants.{Ret, ReturnUnit}
use Rattle.code_sweep.specs.declared.item.Placed.{Placed}
use Rattle.taint_flow.specs.Flow.{jump_target, Labelling}
use Rattle.taint_flow.specs.Calls.{call_target, callee, is_call}
use Rattle.conf_verify.specs.declared.rule.Rule.{Rule}
use Rattle.conf_verify.specs.declared.rule.Rule.TheVariants.{V3, V5, V6, V7, V8}
use Rattle.conf_verify.specs.Rules.{is_word, is_call_word, may_end, IsLast, HasReturnWord, fits_result, FollowsCall, IsGoodTarget, procedure_bits, item_breaks, rule_number}

-- the answer is the first number below a bound that is bad, or None where none is
abbrev pub IsFirstBad : (ℕ → Type 0) → ℕ → Option ℕ → Type 0
IsFirstBad Bad bound r = MatchOption r ((i : ℕ) → i < bound → Bad i → ⊥) (λ i. (i < bound) × Bad i × ((j : ℕ) → j < i → Bad j → ⊥))

-- what the first bad number is after number i: what it was, or i where that is bad
abbrev pub first_of : Option ℕ → Bool → ℕ → Option ℕ
first_of (Some j) bad i = Some j
first_of None true i = Some i
first_of None false i = None

-- the answer is the least number that is bad, or None where none is
abbrev pub IsLeastBad : (ℕ → Type 0) → Option ℕ → Type 0
IsLeastBad Bad r = MatchOption r ((n : ℕ) → Bad n → ⊥) (λ n. Bad n × ((other : ℕ) → other < n → Bad other → ⊥))

-- what the least bad number is after number n: what it was, or n where that is bad and lower
abbrev pub least_of : Option ℕ → Bool → ℕ → Option ℕ
least_of (Some low) true n = Some (min low n)
least_of (Some low) false n = Some low
least_of None true n = Some n
least_of None false n = None

-- an item of the list begins at the place
abbrev pub BeginsAt : List Placed → Placed → ℕ → Type 0
BeginsAt items q place = (j : ℕ) × (slice_get items j ≡ Some q) × (q.at ≡ place)

-- item i is the first and no call word, or the last of its procedure and may not end it
abbrev pub BadEnd : List Placed → ℕ → Type 0
BadEnd items i = (p : Placed) × (slice_get items i ≡ Some p) × (((i ≡ 0) × (is_call_word p.item ≡ false)) ⊎ (IsLast items i × (may_end p.item ≡ false)))

-- item i is a jump and its target is no item of its procedure, or a word
abbrev pub BadJump : List Placed → ℕ → Type 0
BadJump items i = (p : Placed) × (target : ℕ) × (slice_get items i ≡ Some p) × (jump_target p ≡ Some target) × (IsGoodTarget items i target → ⊥)

-- item i is a call behind which no return word stands that fits, or a return word that follows no call
abbrev pub BadReturn : List Placed → ℕ → Type 0
BadReturn items i =
    (p : Placed) × (slice_get items i ≡ Some p) ×
    (((is_call p.item ≡ true) × ((bit : ℕ) → HasReturnWord items i bit → fits_result (callee items p) bit ≡ true → ⊥))
    ⊎ ((bit : ℕ) × (p.item ≡ Ret bit) × (FollowsCall items i → ⊥)))

-- item i is a direct call with a bad target
abbrev pub BadCall : List Placed → ℕ → Type 0
BadCall items i = (p : Placed) × (target : ℕ) × (slice_get items i ≡ Some p) × (call_target p ≡ Some target) × (callee items p ≡ None)

-- item i is a return unit whose bit isn't that of its procedure
abbrev pub BadResult : List Placed → ℕ → Type 0
BadResult items i =
    (p : Placed) × (bit bits : ℕ) × (slice_get items i ≡ Some p) × (p.item ≡ ReturnUnit bit) × (procedure_bits items i ≡ Some bits) × (bit ≢ result_bit_of bits)

-- the item is no word, doesn't call, and is no return unit: V5, V7 and V8 don't speak of it
pub record IsQuiet (p : Placed) : Type 0 where
  pub word : is_word p.item ≡ false
  pub call : is_call p.item ≡ false
  pub target : call_target p ≡ None
  pub unit : (bit : ℕ) → p.item ≡ ReturnUnit bit → ⊥

-- the rules on shape that speak of single items, and what makes an item break one
abbrev pub is_item_rule : Rule → Bool
is_item_rule V3 = true
is_item_rule V5 = true
is_item_rule V6 = true
is_item_rule V7 = true
is_item_rule V8 = true
is_item_rule _ = false

abbrev pub BadBy : Rule → List Placed → ℕ → Type 0
BadBy V3 items = BadEnd items
BadBy V5 items = BadReturn items
BadBy V6 items = BadJump items
BadBy V7 items = BadCall items
BadBy V8 items = BadResult items
BadBy _ items = λ i. ⊥

-- the item is a return unit whose bit isn't bit 4 of these bits
abbrev pub IsBadResult : Item → Option ℕ → Type 0
IsBadResult item procedure = (bit bits : ℕ) × (item ≡ ReturnUnit bit) × (procedure ≡ Some bits) × (bit ≢ result_bit_of bits)

-- the bit of a return word
abbrev pub ret_bit : Item → Option ℕ
ret_bit (Ret bit) = Some bit
ret_bit _ = None

-- a procedure may begin or end at a number: it is that of the first item or of a call word, or no item is left
abbrev pub IsBorder : List Placed → ℕ → Type 0
IsBorder items n = (n ≡ 0) ⊎ ((n ≡ length items) ⊎ ((q : Placed) × (slice_get items n ≡ Some q) × (is_call_word q.item ≡ true)))

-- items start to end - 1 are one procedure: none behind the first is a call word, and at either end is a border
pub record IsProcedure (items : List Placed) (start end : ℕ) : Type 0 where
  pub some : start < end
  pub within : end ≤ length items
  pub front : IsBorder items start
  pub inner : (j : ℕ) (q : Placed) → start < j → j < end → slice_get items j ≡ Some q → is_call_word q.item ≡ false
  pub behind : IsBorder items end

-- the items below number i were gone through, the last of them in this procedure: it goes on, or ends here
pub record IsReached (items : List Placed) (start end i : ℕ) : Type 0 where
  pub from : start ≤ i
  pub to : i ≤ end
  pub goes_on : i < end → IsProcedure items start end
  pub border : IsBorder items end

-- a word whose prefix stands at the place
abbrev pub HasWord : List Placed → ℕ → Type 0
HasWord items place = (j : ℕ) × (q : Placed) × (slice_get items j ≡ Some q) × (is_word q.item ≡ true) × (q.at + 2 ≡ place)

-- the prefix stands at place k of a list, and not as that of a word
abbrev pub BadOccurrence : List Placed → List ℕ → ℕ → Type 0
BadOccurrence items places k = HasWord items (slice_index places k) → ⊥

-- item i breaks a rule on labels
abbrev pub BadLabel : List Placed → Labelling → Rule → ℕ → Type 0
BadLabel items labels rule i = (p : Placed) × (slice_get items i ≡ Some p) × (item_breaks rule (callee items p) p.item (labels i) ≡ true)

-- the answer is the first item that breaks such a rule, and the lowest that it breaks; None where none does
abbrev pub IsFirstBroken : List Placed → Labelling → Option (ℕ × Rule) → Type 0
IsFirstBroken items labels r = MatchOption r ((rule : Rule) (i : ℕ) → i < length items → BadLabel items labels rule i → ⊥)
    (λ b. (b.0 < length items) × BadLabel items labels b.1 b.0
    × ((rule : Rule) (j : ℕ) → j < b.0 → BadLabel items labels rule j → ⊥)
    × ((rule : Rule) → rule_number rule < rule_number b.1 → BadLabel items labels rule b.0 → ⊥))
