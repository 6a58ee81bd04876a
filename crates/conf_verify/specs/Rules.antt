-- What breaks each rule, and where. The address of a place in the code is the code's base plus the place.
use Rattle.std.specs.Prelude.{◌≡◌, ◌≢◌, ℕ, suc, ◌+◌, ◌==◌, Bool, true, false, ◌⊎◌, List, [], ◌∷◌, length, take, Option, Some, None, slice_get, if◌then◌else◌}
use Rattle.cv_word.specs.CallBits.{result_bit_of}
use Rattle.std.specs.Option.{option_or}
use Rattle.x64_decode.specs.declared.instr.Instr.{Instr}
use Rattle.x64_decode.specs.declared.instr.Instr.TheVariants as instr
use Rattle.magic_words.specs.MagicWords.{IsOccurrence}
use Rattle.code_sweep.specs.declared.item.Item.{Item}
use Rattle.code_sweep.specs.declared.item.Item.TheVariants.{Call, Ret, Plain, ReturnUnit}
use Rattle.code_sweep.specs.declared.item.Placed.{Placed}
use Rattle.taint_flow.specs.Label.{Label}
use Rattle.taint_flow.specs.Flow.{address, jump_target, Labelling, MeetsFlow, has_private_address, stores_private, branches_on_private, divides_private, leaves_rsp_private, passes_private, returns_private}
use Rattle.taint_flow.specs.Calls.{call_bits, call_target, callee, is_call}
use Rattle.image_form.specs.Image.{Image}
use Rattle.conf_verify.specs.declared.rule.Rule.{Rule}
use Rattle.conf_verify.specs.declared.rule.Rule.TheVariants.{V1, V2, V3, V4, V5, V6, V7, V8, V9, V10, V11, V12, V13, V14, V15, V16}

abbrev pub is_word : Item → Bool
is_word (Call bits) = true
is_word (Ret bit) = true
is_word _ = false

abbrev pub is_call_word : Item → Bool
is_call_word (Call bits) = true
is_call_word _ = false

-- a procedure may end with a jump without a condition, UD2 or a return unit
abbrev pub instruction_ends : Instr → Bool
instruction_ends (instr.Jmp rel) = true
instruction_ends instr.Ud2 = true
instruction_ends _ = false

abbrev pub may_end : Item → Bool
may_end (Plain i) = instruction_ends i
may_end (ReturnUnit bit) = true
may_end _ = false

-- an item is the last of its procedure: a call word stands behind it, or nothing
abbrev pub IsLast : List Placed → ℕ → Type 0
IsLast items i = (suc i ≡ length items) ⊎ ((q : Placed) × (slice_get items (suc i) ≡ Some q) × (is_call_word q.item ≡ true))

-- V3: the first item is no call word; or the last of a procedure may not end it
abbrev pub BreaksEnds : List Placed → ℕ → Type 0
BreaksEnds items place =
    (i : ℕ) × (p : Placed) × (slice_get items i ≡ Some p) × (p.at ≡ place) ×
    (((i ≡ 0) × (is_call_word p.item ≡ false)) ⊎ (IsLast items i × (may_end p.item ≡ false)))

-- V4: the prefix occurs, and not as that of a word of the listing
abbrev pub BreaksPrefix : List ℕ → List ℕ → List Placed → ℕ → Type 0
BreaksPrefix prefix code items place =
    IsOccurrence prefix code place ×
    ((i : ℕ) (p : Placed) → slice_get items i ≡ Some p → is_word p.item ≡ true → p.at + 2 ≡ place → ⊥)

-- how many call words, and how many items that are no words
abbrev pub call_words : List Placed → ℕ
call_words [] = 0
call_words (p ∷ ps) = (if is_call_word p.item then 1 else 0) + call_words ps

abbrev pub other_items : List Placed → ℕ
other_items [] = 0
other_items (p ∷ ps) = (if is_word p.item then 0 else 1) + other_items ps

-- the procedure of an item is told by the number of call words up to it
abbrev pub procedure_of : List Placed → ℕ → ℕ
procedure_of items i = call_words (take (suc i) items)

-- an item of the same procedure, and no word, stands at the target
abbrev pub IsGoodTarget : List Placed → ℕ → ℕ → Type 0
IsGoodTarget items i target =
    (j : ℕ) × (q : Placed) × (slice_get items j ≡ Some q) × (address q ≡ target) ×
    (is_word q.item ≡ false) × (procedure_of items j ≡ procedure_of items i)

-- a return word with this bit stands behind item i
abbrev pub HasReturnWord : List Placed → ℕ → ℕ → Type 0
HasReturnWord items i bit = (q : Placed) × (slice_get items (suc i) ≡ Some q) × (q.item ≡ Ret bit)

-- the bit of a return word fits what is called: it is bit 4 of the callee's bits; where a direct call has a bad target, any does
abbrev pub fits_result : Option ℕ → ℕ → Bool
fits_result None bit = true
fits_result (Some bits) bit = bit == result_bit_of bits

-- a call stands before item i
abbrev pub FollowsCall : List Placed → ℕ → Type 0
FollowsCall items i = (h : ℕ) × (q : Placed) × (i ≡ suc h) × (slice_get items h ≡ Some q) × (is_call q.item ≡ true)

-- V5: a call behind which no return word stands that fits; or a return word that follows no call
abbrev pub BreaksReturns : List Placed → ℕ → Type 0
BreaksReturns items place =
    (i : ℕ) × (p : Placed) × (slice_get items i ≡ Some p) × (p.at ≡ place) ×
    (((is_call p.item ≡ true) × ((bit : ℕ) → HasReturnWord items i bit → fits_result (callee items p) bit ≡ true → ⊥))
    ⊎ ((bit : ℕ) × (p.item ≡ Ret bit) × (FollowsCall items i → ⊥)))

-- V6: a jump whose target is no item of its procedure, or a word
abbrev pub BreaksJumps : List Placed → ℕ → Type 0
BreaksJumps items place =
    (i : ℕ) × (p : Placed) × (target : ℕ) × (slice_get items i ≡ Some p) × (p.at ≡ place) ×
    (jump_target p ≡ Some target) × (IsGoodTarget items i target → ⊥)

-- V7: a direct call whose target is neither behind a call word nor a gate
abbrev pub BreaksCalls : List Placed → ℕ → Type 0
BreaksCalls items place =
    (i : ℕ) × (p : Placed) × (target : ℕ) × (slice_get items i ≡ Some p) × (p.at ≡ place) ×
    (call_target p ≡ Some target) × (callee items p ≡ None)

-- the bits of the last call word of a list
abbrev pub last_bits : List Placed → Option ℕ
last_bits [] = None
last_bits (p ∷ ps) = option_or (last_bits ps) (call_bits p.item)

-- the bits of an item's procedure are those of the last call word up to it
abbrev pub procedure_bits : List Placed → ℕ → Option ℕ
procedure_bits items i = last_bits (take (suc i) items)

-- V8: a return unit whose bit isn't bit 4 of its procedure's bits
abbrev pub BreaksResults : List Placed → ℕ → Type 0
BreaksResults items place =
    (i : ℕ) × (p : Placed) × (bit bits : ℕ) × (slice_get items i ≡ Some p) × (p.at ≡ place) ×
    (p.item ≡ ReturnUnit bit) × (procedure_bits items i ≡ Some bits) × (bit ≢ result_bit_of bits)

-- V9: an entry that doesn't follow a call word
abbrev pub FollowsCallWord : List Placed → ℕ → Type 0
FollowsCallWord items place = (i : ℕ) × (p : Placed) × (slice_get items i ≡ Some p) × (is_call_word p.item ≡ true) × (p.at + p.len ≡ place)

abbrev pub BreaksEntries : List ℕ → List Placed → ℕ → Type 0
BreaksEntries entries items place = (n : ℕ) × (entry : ℕ) × (slice_get entries n ≡ Some entry) × (entry ≡ place) × (FollowsCallWord items place → ⊥)

-- V10 to V16 speak of an item, the bits of what it calls, and what may be private before it.
abbrev pub item_breaks : Rule → Option ℕ → Item → Label → Bool
item_breaks V10 called item l = has_private_address item l
item_breaks V11 called item l = stores_private item l
item_breaks V12 called item l = branches_on_private item l
item_breaks V13 called item l = divides_private item l
item_breaks V14 called item l = leaves_rsp_private item l
item_breaks V15 called item l = passes_private called l
item_breaks V16 called item l = returns_private item l
item_breaks _ called item l = false

-- the item at a place breaks the rule under this labelling
abbrev pub BreaksUnder : Rule → List Placed → Labelling → ℕ → Type 0
BreaksUnder rule items labels place =
    (i : ℕ) × (p : Placed) × (slice_get items i ≡ Some p) × (p.at ≡ place) × (item_breaks rule (callee items p) p.item (labels i) ≡ true)

-- V3 to V9, of an image's code, its listing and a place in the code
abbrev pub BreaksShape : Rule → Image → List Placed → ℕ → Type 0
BreaksShape V3 image items place = BreaksEnds items place
BreaksShape V4 image items place = BreaksPrefix image.prefix image.code items place
BreaksShape V5 image items place = BreaksReturns items place
BreaksShape V6 image items place = BreaksJumps items place
BreaksShape V7 image items place = BreaksCalls items place
BreaksShape V8 image items place = BreaksResults items place
BreaksShape V9 image items place = BreaksEntries image.entries items place
BreaksShape _ image items place = ⊥

-- V10 to V16: every labelling that meets the flow rules breaks the rule there
abbrev pub BreaksFlow : Rule → List Placed → ℕ → Type 0
BreaksFlow rule items place = (labels : Labelling) → MeetsFlow items labels → BreaksUnder rule items labels place

abbrev pub is_flow_rule : Rule → Bool
is_flow_rule V10 = true
is_flow_rule V11 = true
is_flow_rule V12 = true
is_flow_rule V13 = true
is_flow_rule V14 = true
is_flow_rule V15 = true
is_flow_rule V16 = true
is_flow_rule _ = false

-- the number of a rule
abbrev pub rule_number : Rule → ℕ
rule_number V1 = 1
rule_number V2 = 2
rule_number V3 = 3
rule_number V4 = 4
rule_number V5 = 5
rule_number V6 = 6
rule_number V7 = 7
rule_number V8 = 8
rule_number V9 = 9
rule_number V10 = 10
rule_number V11 = 11
rule_number V12 = 12
rule_number V13 = 13
rule_number V14 = 14
rule_number V15 = 15
rule_number V16 = 16
