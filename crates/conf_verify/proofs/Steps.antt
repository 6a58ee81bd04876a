-- From what each search over a listing found to the verdict on the code, rule by rule.
use Rattle.std.proofs.Common.{◌≡◌, ℕ, zero, suc, ◌+◌, ◌<◌, add-one, true, false, List, [], length, take, get_or, slice_index, Some, None, refl, sym, ◌∙◌, ap, subst, arith, ◌⊎◌, inl, inr, slice_get}
use Rattle.std.proofs.lemmas.Bool.{cases_order, cases_lt, true≢false}
use Rattle.std.proofs.lemmas.List.{drop_all}
use Rattle.std.proofs.lemmas.Option.{same_Some, slice_get_within, slice_get-get_or}
use Rattle.cv_word.specs.MemoryMap.{code_base}
use Rattle.x64_decode.specs.declared.instr.Instr.TheVariants as instr
use Rattle.magic_words.specs.MagicWords.{IsOccurrence, AreOccurrences}
use Rattle.code_sweep.specs.declared.item.Item.{Item}
use Rattle.code_sweep.specs.declared.item.Item.TheVariants.{Call, Ret, Plain, ReturnUnit, CallUnit}
use Rattle.code_sweep.specs.declared.item.Placed.{Placed}
use Rattle.code_sweep.specs.Listing.{IsChain}
use Rattle.taint_flow.specs.Flow.{jump_target}
use Rattle.taint_flow.specs.Places.{goes_on, NextStands}
use Rattle.image_form.specs.Image.{Image, IsGood}
use Rattle.conf_verify.specs.declared.rule.Rule.{Rule}
use Rattle.conf_verify.specs.declared.rule.Rule.TheVariants.{V3, V4, V5, V6, V7, V8, V9}
use Rattle.conf_verify.specs.Rules.{BreaksEnds, BreaksShape, BreaksPrefix, HasReturnWord, fits_result, FollowsCall, BreaksEntries, IsLast, is_call_word, may_end, is_flow_rule, rule_number}
use Rattle.taint_flow.specs.Calls.{callee, call_target, is_call}
use Rattle.conf_verify.specs.Search.{BadBy, BadEnd, BadReturn, BadJump, BadCall, BadResult, BadOccurrence, is_item_rule}
use Rattle.conf_verify.specs.Verdict.{HasListing}
use Rattle.conf_verify.specs.Steps.{IsCodeVerdict, HoldsBelow}
use Rattle.conf_verify.proofs.Order.{same_number}
use Rattle.taint_flow.proofs.Chain.{order_from_listing}
use Rattle.conf_verify.proofs.Told.{told_shape}

-- an item at a lower place comes before
pub comes_before : (prefix code : List ℕ) (items : List Placed) (i j : ℕ) (p q : Placed) → IsChain prefix code items 0 (length code) → slice_get items i ≡ Some p → slice_get items j ≡ Some q →
    q.at < p.at → j < i
comes_before prefix code items i j p q chain e f low =
    elim (cases_order i j) [
      | inl same ↦ absurd (let s = ap (λ (x : Placed). x.at) (same_Some p q (sym e ∙ ap (λ k. slice_get items k) same ∙ f)) in omega arith)
      | inr h ↦ elim h [ inl later ↦ absurd (let s = (order_from_listing prefix code items chain).rising i j p q e f later in omega arith) | inr before ↦ before ]
    ]

-- the first bad item is at the least bad place
least_place : (prefix code : List ℕ) (items : List Placed) (Bad : ℕ → Type 0) (i : ℕ) (p : Placed) → IsChain prefix code items 0 (length code) → slice_get items i ≡ Some p →
    ((j : ℕ) → j < i → Bad j → ⊥) → (j : ℕ) (q : Placed) → slice_get items j ≡ Some q → q.at < p.at → Bad j → ⊥
least_place prefix code items Bad i p chain e first j q f low bad = first j (comes_before prefix code items i j p q chain e f low) bad

-- ---- which rules hold so far

more_holds : (image : Image) (items : List Placed) (r : Rule) (n : ℕ) → rule_number r ≡ n → HoldsBelow image items n → ((place : ℕ) → BreaksShape r image items place → ⊥) → HoldsBelow image items (suc n)
more_holds image items r n is below none rule place low b =
    elim (cases_order (rule_number rule) n) [
      | inl same ↦ none place (subst (λ (x : Rule). BreaksShape x image items place) (same_number rule r (same ∙ sym is)) b)
      | inr h ↦ elim h [ inl lower ↦ below rule place lower b | inr higher ↦ omega arith ]
    ]

pub holds_five : (image : Image) (items : List Placed) → HoldsBelow image items 4 → ((place : ℕ) → BreaksPrefix image.prefix image.code items place → ⊥) → HoldsBelow image items 5
holds_five image items below none = more_holds image items V4 4 refl below none

-- ---- rules that speak of items one by one

-- a rule is broken just where an item is bad
pub record ByItem (image : Image) (items : List Placed) (rule : Rule) (Bad : ℕ → Type 0) : Type 0 where
  pub to : (i : ℕ) (p : Placed) → slice_get items i ≡ Some p → Bad i → BreaksShape rule image items p.at
  pub from : (place : ℕ) → BreaksShape rule image items place → (i : ℕ) × (p : Placed) × (slice_get items i ≡ Some p) × (p.at ≡ place) × Bad i

-- the first bad item gives the verdict
told_by_item : (image : Image) (items : List Placed) (rule : Rule) (Bad : ℕ → Type 0) (i : ℕ) (p : Placed) → ByItem image items rule Bad → HasListing image items →
    is_flow_rule rule ≡ false → slice_get items i ≡ Some p → Bad i → ((j : ℕ) → j < i → Bad j → ⊥) → HoldsBelow image items (rule_number rule) →
    IsCodeVerdict image rule (code_base + p.at)
told_by_item image items rule Bad i p by listing shape e bad first below =
    told_shape image items listing rule p.at shape (by.to i p e bad)
    (λ place low b. let f = by.from place b in let at = f.3 in
    least_place image.prefix image.code items Bad i p listing e first f.0 f.1 f.2 (omega arith) f.4)
    below

told_at : (image : Image) (items : List Placed) (rule : Rule) (Bad : ℕ → Type 0) (i : ℕ) (d : Placed) → ByItem image items rule Bad → HasListing image items →
    is_flow_rule rule ≡ false → (i < length items) × Bad i × ((j : ℕ) → j < i → Bad j → ⊥) → HoldsBelow image items (rule_number rule) →
    IsCodeVerdict image rule (code_base + (get_or items i d).at)
told_at image items rule Bad i d by listing shape found below =
    told_by_item image items rule Bad i (get_or items i d) by listing shape (slice_get-get_or items i d found.0) found.1 found.2 below

none_by_item : (image : Image) (items : List Placed) (rule : Rule) (Bad : ℕ → Type 0) → ByItem image items rule Bad → ((j : ℕ) → j < length items → Bad j → ⊥) →
    (place : ℕ) → BreaksShape rule image items place → ⊥
none_by_item image items rule Bad by none place b = let f = by.from place b in none f.0 (slice_get_within items f.0 f.1 f.2) f.4

by_ends : (image : Image) (items : List Placed) → ByItem image items V3 (BadEnd items)
by_ends image items = record {
  to = λ i p e bad. (
    i,
    p,
    e,
    refl,
    subst (λ (x : Placed). ((i ≡ 0) × (is_call_word x.item ≡ false)) ⊎ (IsLast items i × (may_end x.item ≡ false))) (same_Some bad.0 p (sym bad.1 ∙ e)) bad.2,
  );
  from = λ place b. (b.0, b.1, b.2, b.3, (b.1, b.2, b.4));
}

abbrev ReturnsBadly : List Placed → ℕ → Placed → Type 0
ReturnsBadly items i p =
    ((is_call p.item ≡ true) × ((bit : ℕ) → HasReturnWord items i bit → fits_result (callee items p) bit ≡ true → ⊥))
    ⊎ ((bit : ℕ) × (p.item ≡ Ret bit) × (FollowsCall items i → ⊥))

by_returns : (image : Image) (items : List Placed) → ByItem image items V5 (BadReturn items)
by_returns image items = record {
  to = λ i p e bad. (i, p, e, refl, subst (λ (x : Placed). ReturnsBadly items i x) (same_Some bad.0 p (sym bad.1 ∙ e)) bad.2);
  from = λ place b. (b.0, b.1, b.2, b.3, (b.1, b.2, b.4));
}

by_jumps : (image : Image) (items : List Placed) → ByItem image items V6 (BadJump items)
by_jumps image items = record {
  to = λ i p e bad. (i, p, bad.1, e, refl, subst (λ (x : Placed). jump_target x ≡ Some bad.1) (same_Some bad.0 p (sym bad.2 ∙ e)) bad.3, bad.4);
  from = λ place b. (b.0, b.1, b.3, b.4, (b.1, b.2, b.3, b.5, b.6));
}

by_calls : (image : Image) (items : List Placed) → ByItem image items V7 (BadCall items)
by_calls image items = record {
  to = λ i p e bad. let same = same_Some bad.0 p (sym bad.2 ∙ e) in
      (i, p, bad.1, e, refl, subst (λ (x : Placed). call_target x ≡ Some bad.1) same bad.3, subst (λ (x : Placed). callee items x ≡ None) same bad.4);
  from = λ place b. (b.0, b.1, b.3, b.4, (b.1, b.2, b.3, b.5, b.6));
}

by_results : (image : Image) (items : List Placed) → ByItem image items V8 (BadResult items)
by_results image items = record {
  to = λ i p e bad. (i, p, bad.1, bad.2, e, refl, subst (λ (x : Placed). x.item ≡ ReturnUnit bad.1) (same_Some bad.0 p (sym bad.3 ∙ e)) bad.4, bad.5, bad.6);
  from = λ place b. (b.0, b.1, b.4, b.5, (b.1, b.2, b.3, b.4, b.6, b.7, b.8));
}

-- each rule on single items is broken just where one is bad, as its table says
pub by_rule : (image : Image) (items : List Placed) (rule : Rule) → is_item_rule rule ≡ true → ByItem image items rule (BadBy rule items)
by_rule image items V3 e = by_ends image items
by_rule image items V5 e = by_returns image items
by_rule image items V6 e = by_jumps image items
by_rule image items V7 e = by_calls image items
by_rule image items V8 e = by_results image items
by_rule image items _ e = absurd (true≢false (sym e))

item_rule_shape : (rule : Rule) → is_item_rule rule ≡ true → is_flow_rule rule ≡ false
item_rule_shape V3 e = refl
item_rule_shape V5 e = refl
item_rule_shape V6 e = refl
item_rule_shape V7 e = refl
item_rule_shape V8 e = refl
item_rule_shape _ e = absurd (true≢false (sym e))

-- the first item that breaks such a rule gives the verdict, and where none does, the rule holds
pub told_by_rule : (image : Image) (items : List Placed) (rule : Rule) (i : ℕ) (d : Placed) → is_item_rule rule ≡ true → HasListing image items →
    (i < length items) × BadBy rule items i × ((j : ℕ) → j < i → BadBy rule items j → ⊥) → HoldsBelow image items (rule_number rule) →
    IsCodeVerdict image rule (code_base + (get_or items i d).at)
told_by_rule image items rule i d is listing found below =
    told_at image items rule (BadBy rule items) i d (by_rule image items rule is) listing (item_rule_shape rule is) found below

pub holds_by_rule : (image : Image) (items : List Placed) (rule : Rule) → is_item_rule rule ≡ true → ((j : ℕ) → j < length items → BadBy rule items j → ⊥) →
    HoldsBelow image items (rule_number rule) → HoldsBelow image items (rule_number rule + 1)
holds_by_rule image items rule is none below =
    rw (add-one) (more_holds image items rule (rule_number rule) refl below (none_by_item image items rule (BadBy rule items) (by_rule image items rule is) none))

-- ---- V3

-- an item that may end a procedure leads to none behind it
falls_on : (item : Item) → goes_on item ≡ true → may_end item ≡ false
falls_on (Call bits) e = refl
falls_on (Ret bit) e = refl
falls_on (ReturnUnit bit) e = absurd (true≢false (sym e))
falls_on (CallUnit r bits) e = refl
falls_on (Plain (instr.Jmp rel)) e = absurd (true≢false (sym e))
falls_on (Plain instr.Ud2) e = absurd (true≢false (sym e))
falls_on (Plain _) e = refl

pub next_from_ends : (items : List Placed) → ((place : ℕ) → BreaksEnds items place → ⊥) → NextStands items
next_from_ends items keeps i p e on =
    let inside = slice_get_within items i p e in
    elim (cases_order (suc i) (length items)) [
      | inl last ↦ absurd (keeps p.at (i, p, e, refl, inr (inl last, falls_on p.item on)))
      | inr h ↦ elim h [ inl low ↦ low | inr past ↦ omega arith ]
    ]

pub next_stands : (image : Image) (items : List Placed) → HoldsBelow image items 4 → NextStands items
next_stands image items below = next_from_ends items (λ place b. below V3 place (omega arith) b)

-- ---- V4

take_none : (n : ℕ) → length (let l : List ℕ = take n [] in l) ≡ 0
take_none zero = refl
take_none (suc n) = refl

occurs_inside : (prefix code : List ℕ) (place : ℕ) → length prefix ≡ 6 → IsOccurrence prefix code place → place < length code
occurs_inside prefix code place six o =
    elim (cases_lt place (length code)) [
      | inl inside ↦ inside
      | inr past ↦ absurd (let empty = ap (λ (l : List ℕ). length (take (length prefix) l)) (drop_all place code past) in let long = ap length o in let none = take_none (length prefix) in omega arith)
    ]

place_before : (prefix code : List ℕ) (places : List ℕ) (j k : ℕ) → AreOccurrences prefix code (length code) places → j < length places → slice_index places j < slice_index places k → j < k
place_before prefix code places j k are inside low =
    elim (cases_order k j) [
      | inl same ↦ absurd (let s = ap (λ i. slice_index places i) same in omega arith)
      | inr h ↦ elim h [ inl before ↦ absurd (let s = are.rising k j before inside in omega arith) | inr later ↦ later ]
    ]

pub told_prefix : (image : Image) (items : List Placed) (places : List ℕ) (k : ℕ) → IsGood image → HasListing image items → AreOccurrences image.prefix image.code (length image.code) places → k < length places →
    BadOccurrence items places k → ((j : ℕ) → j < k → BadOccurrence items places j → ⊥) → HoldsBelow image items 4 → IsCodeVerdict image V4 (code_base + slice_index places k)
told_prefix image items places k good listing are inside bad first below =
    told_shape image items listing V4 (slice_index places k) refl
    ((are.each k inside).1, λ i p e word at. bad (i, p, e, word, at))
    (λ place low b.
    let found = are.all place (occurs_inside image.prefix image.code place good.prefix_len b.0) b.0 in
    let same = found.2 in
    first found.0 (place_before image.prefix image.code places found.0 k are found.1 (omega arith))
    (λ word. b.1 word.0 word.1 word.2 word.3 (word.4 ∙ found.2)))
    below

pub no_prefix : (image : Image) (items : List Placed) (places : List ℕ) → IsGood image → AreOccurrences image.prefix image.code (length image.code) places → ((k : ℕ) → k < length places → BadOccurrence items places k → ⊥) →
    (place : ℕ) → BreaksPrefix image.prefix image.code items place → ⊥
no_prefix image items places good are none place b =
    let found = are.all place (occurs_inside image.prefix image.code place good.prefix_len b.0) b.0 in
    none found.0 found.1 (λ word. b.1 word.0 word.1 word.2 word.3 (word.4 ∙ found.2))

-- ---- V9

-- the least bad entry gives the verdict
pub told_entry : (image : Image) (items : List Placed) (entry : ℕ) → HasListing image items →
    BreaksEntries image.entries items entry × ((other : ℕ) → other < entry → BreaksEntries image.entries items other → ⊥) →
    HoldsBelow image items 9 → IsCodeVerdict image V9 (code_base + entry)
told_entry image items entry listing found below = told_shape image items listing V9 entry refl found.0 found.1 below

-- with V9 all of V3 to V9 hold
pub all_hold : (image : Image) (items : List Placed) → HoldsBelow image items 9 → ((place : ℕ) → BreaksEntries image.entries items place → ⊥) →
    (rule : Rule) (place : ℕ) → BreaksShape rule image items place → ⊥
all_hold image items below none V3 place b = below V3 place (omega arith) b
all_hold image items below none V4 place b = below V4 place (omega arith) b
all_hold image items below none V5 place b = below V5 place (omega arith) b
all_hold image items below none V6 place b = below V6 place (omega arith) b
all_hold image items below none V7 place b = below V7 place (omega arith) b
all_hold image items below none V8 place b = below V8 place (omega arith) b
all_hold image items below none V9 place b = none place b
all_hold image items below none _ place b = b
