-- What stands at an item of an accepted code, and where it leads.
use Rattle.std.proofs.Common.{◌≡◌, ◌≢◌, ℕ, zero, suc, ◌+◌, ◌-◌, ◌<◌, ◌≤◌, Bool, true, false, ◌&&◌, not, List, [], ◌∷◌, length, drop, get_or, Option, Some, None, refl, sym, ◌∙◌, ap, subst, arith, ◌⊎◌, inl, inr, slice_get, cond, eqb, leb, ◌/◌, ◌%◌, take, map}
use Rattle.std.specs.Option.{option_or}
use Rattle.std.proofs.lemmas.List.{drop-drop}
use Rattle.std.proofs.lemmas.Bool.{cond-true, cond-false, ne_eqb, cases_Bool, cases_eq, false_from_ne_true, and_from, and_parts, true≢false, eqb-true, eq-eqb, not-true, not_from_false}
use Rattle.std.proofs.lemmas.Option.{none-some, same_Some, slice_get_within, slice_get-get_or}
use Rattle.x64_decode.specs.declared.instr.Instr.{Instr}
use Rattle.code_sweep.specs.declared.item.Item.{Item}
use Rattle.code_sweep.specs.declared.item.Item.TheVariants.{Call, Ret, Plain, ReturnUnit, CallUnit}
use Rattle.code_sweep.specs.declared.item.Placed.{Placed}
use Rattle.code_sweep.specs.Listing.{item_bytes, IsChain, StandsAt}
use Rattle.taint_flow.specs.Flow.{address, address_after, MeetsFlow}
use Rattle.conf_verify.specs.declared.rule.Rule.{Rule}
use Rattle.conf_verify.specs.declared.rule.Rule.TheVariants.{V10, V11, V12, V13, V14}
use Rattle.conf_verify.specs.Rules.{is_word, is_call_word, may_end, IsLast, BreaksEnds, BreaksPrefix, BreaksReturns, BreaksJumps, BreaksCalls, BreaksUnder, FollowsCall, IsGoodTarget, procedure_of, item_breaks}
use Rattle.cv_word.specs.Words.{AreBytes}
use Rattle.cv_word.specs.Gates.{bits_of, gates, gate_at, gate_bits_at}
use Rattle.cv_word.specs.declared.gates.Gate.{Gate}
use Rattle.magic_words.specs.MagicWords.{call_word, return_word, IsOccurrence}
use Rattle.taint_flow.specs.Calls.{procedure_at, call_target, bits_at, callee, is_call}
use Rattle.taint_flow.proofs.Callees.{bits_are}
use Rattle.ni_laws.specs.Agreement.{LabelledCode}
use Rattle.ni_laws.proofs.Rows.{KeepsRules}

-- what acceptance says of a code, its listing and labels
pub record Facts (code : LabelledCode) : Type 0 where
  pub six : length code.prefix ≡ 6
  pub prefix_bytes : AreBytes code.prefix
  pub code_bytes : AreBytes code.bytes
  pub limit : length code.bytes ≤ 4194304
  pub listing : IsChain code.prefix code.bytes code.items 0 (length code.bytes)
  pub ends : (place : ℕ) → BreaksEnds code.items place → ⊥
  pub occurs : (place : ℕ) → BreaksPrefix code.prefix code.bytes code.items place → ⊥
  pub returns : (place : ℕ) → BreaksReturns code.items place → ⊥
  pub jumps : (place : ℕ) → BreaksJumps code.items place → ⊥
  pub calls : (place : ℕ) → BreaksCalls code.items place → ⊥
  pub meets : MeetsFlow code.items code.labels
  pub flow : (rule : Rule) (place : ℕ) → BreaksUnder rule code.items code.labels place → ⊥

module _ (prefix code : List ℕ) where
  -- an item of a chain stands at its place, with its length
  chain_item : (items : List Placed) (from to i : ℕ) (p : Placed) → IsChain prefix code items from to → slice_get items i ≡ Some p →
      StandsAt prefix code p.at p.item × (p.len ≡ length (item_bytes prefix p.item))
  chain_item [] from to i p chain e = absurd (none-some p e)
  chain_item (q ∷ qs) from to zero p chain e =
      let same = same_Some q p e in
      let P : Placed → Type 0 = λ x. StandsAt prefix code x.at x.item × (x.len ≡ length (item_bytes prefix x.item)) in
      let Q : ℕ → Type 0 = λ x. StandsAt prefix code x q.item in
      subst P same (subst Q (sym chain.0) chain.2, chain.1)
  chain_item (q ∷ qs) from to (suc i) p chain e = chain_item qs (from + q.len) to i p chain.3 e

  -- the item behind one begins where that one ends
  chain_next : (items : List Placed) (from to i : ℕ) {p q : Placed} → IsChain prefix code items from to →
      slice_get items i ≡ Some p → slice_get items (suc i) ≡ Some q → q.at ≡ p.at + p.len
  chain_next [] from to i {p = p} chain e f = absurd (none-some p e)
  chain_next (a ∷ []) from to zero {q = q} chain e f = absurd (none-some q f)
  chain_next (a ∷ (b ∷ rest)) from to zero {p = p} {q = q} chain e f =
      let P : Placed → Type 0 = λ x. b.at ≡ x.at + x.len in
      let Q : Placed → Type 0 = λ x. x.at ≡ p.at + p.len in
      subst Q (same_Some b q f) (subst P (same_Some a p e) (chain.3.0 ∙ ap (λ n. n + a.len) (sym chain.0)))
  chain_next (a ∷ rest) from to (suc i) chain e f = chain_next rest (from + a.len) to i chain.3 e f

-- .. so an item of an accepted code does
pub item_stands : (code : LabelledCode) → Facts code → (i : ℕ) (p : Placed) → slice_get code.items i ≡ Some p →
    StandsAt code.prefix code.bytes p.at p.item × (p.len ≡ length (item_bytes code.prefix p.item))
item_stands code facts i p e = chain_item code.prefix code.bytes code.items 0 (length code.bytes) i p facts.listing e

-- .. also where the item is known
pub item_is : (code : LabelledCode) → Facts code → (i : ℕ) (p : Placed) (item : Item) → slice_get code.items i ≡ Some p → p.item ≡ item →
    StandsAt code.prefix code.bytes p.at item × (p.len ≡ length (item_bytes code.prefix item))
item_is code facts i p item e is =
    let P : Item → Type 0 = λ x. StandsAt code.prefix code.bytes p.at x × (p.len ≡ length (item_bytes code.prefix x)) in
    subst P is (item_stands code facts i p e)

-- behind an item that isn't the last stands another
item_behind : (items : List Placed) (i : ℕ) (p : Placed) → slice_get items i ≡ Some p → suc i ≢ length items → (q : Placed) × (slice_get items (suc i) ≡ Some q)
item_behind items i p e inside = (get_or items (suc i) p, slice_get-get_or items (suc i) p (let h = slice_get_within items i p e in omega arith))

-- the item behind one that may not end its procedure and is no call: it stands right behind and is no word
pub record Next (items : List Placed) (i : ℕ) (p : Placed) : Type 0 where
  pub q : Placed
  pub stands : slice_get items (suc i) ≡ Some q
  pub no_word : is_word q.item ≡ false
  pub here : address q ≡ address_after p

no_word_of : (item : Item) → is_call_word item ≡ false → ((bit : ℕ) → item ≡ Ret bit → ⊥) → is_word item ≡ false
no_word_of (Call bits) e none = absurd (true≢false e)
no_word_of (Ret bit) e none = absurd (none bit refl)
no_word_of (Plain i) e none = refl
no_word_of (ReturnUnit bit) e none = refl
no_word_of (CallUnit r bits) e none = refl

before_suc : (items : List Placed) (i h : ℕ) (p q : Placed) → slice_get items i ≡ Some p → slice_get items h ≡ Some q → suc i ≡ suc h → p ≡ q
before_suc items i h p q e f same = let at : i ≡ h = omega arith in same_Some p q (sym e ∙ ap (λ k. slice_get items k) at ∙ f)

pub next_item : (code : LabelledCode) → Facts code → (i : ℕ) (p : Placed) → slice_get code.items i ≡ Some p →
    may_end p.item ≡ false → is_call p.item ≡ false → Next code.items i p
next_item code facts i p stands not_end no_call =
    let not_last : IsLast code.items i → ⊥ = λ last. facts.ends p.at (i, p, stands, refl, inr (last, not_end)) in
    let behind = item_behind code.items i p stands (λ end. not_last (inl end)) in
    let q : Placed = behind.0 in
    let stands' : slice_get code.items (suc i) ≡ Some q = behind.1 in
    let no_call_word : is_call_word q.item ≡ false = false_from_ne_true (is_call_word q.item) (λ h. not_last (inr (q, stands', h))) in
    let follows : FollowsCall code.items (suc i) → ⊥ = λ f.
    true≢false (sym (ap (λ (x : Placed). is_call x.item) (before_suc code.items i f.0 p f.1 stands f.3 f.2) ∙ f.4) ∙ no_call) in
    let no_return : (bit : ℕ) → q.item ≡ Ret bit → ⊥ = λ bit is. facts.returns q.at (suc i, q, stands', refl, inr (bit, is, follows)) in
    let next : q.at ≡ p.at + p.len = chain_next code.prefix code.bytes code.items 0 (length code.bytes) i facts.listing stands stands' in
    record { q = q; stands = stands'; no_word = no_word_of q.item no_call_word no_return; here = omega arith }

-- an item that passes a test, or none does
pub data Found (items : List Placed) (test : ℕ → Placed → Bool) : Type 0 where
  found : (j : ℕ) (q : Placed) → slice_get items j ≡ Some q → test j q ≡ true → Found items test
  nowhere : ((j : ℕ) (q : Placed) → slice_get items j ≡ Some q → test j q ≡ false) → Found items test

none_of_cons : (x : Placed) (xs : List Placed) (test : ℕ → Placed → Bool) → test 0 x ≡ false → ((j : ℕ) (q : Placed) → slice_get xs j ≡ Some q → test (suc j) q ≡ false) →
    (j : ℕ) (q : Placed) → slice_get (x ∷ xs) j ≡ Some q → test j q ≡ false
none_of_cons x xs test here rest zero q e = ap (test 0) (sym (same_Some x q e)) ∙ here
none_of_cons x xs test here rest (suc j) q e = rest j q e

search_cons : (x : Placed) (xs : List Placed) (test : ℕ → Placed → Bool) → Found xs (λ j. test (suc j)) → (test 0 x ≡ true) ⊎ (test 0 x ≡ false) → Found (x ∷ xs) test
search_cons x xs test rest (inl here) = found 0 x refl here
search_cons x xs test (found j q e passes) (inr not_here) = found (suc j) q e passes
search_cons x xs test (nowhere none) (inr not_here) = nowhere (none_of_cons x xs test not_here none)

pub search_items : (items : List Placed) (test : ℕ → Placed → Bool) → Found items test
search_items [] test = nowhere (λ j q e. absurd (none-some q e))
search_items (x ∷ xs) test = search_cons x xs test (search_items xs (λ j. test (suc j))) (cases_Bool (test 0 x))

-- a jump that breaks no rule has a good target
abbrev is_good_target : List Placed → ℕ → ℕ → ℕ → Placed → Bool
is_good_target items i target j q = eqb (address q) target && (not (is_word q.item) && eqb (procedure_of items j) (procedure_of items i))

pub good_target : (items : List Placed) (i target : ℕ) → ((IsGoodTarget items i target → ⊥) → ⊥) → IsGoodTarget items i target
good_target items i target h =
    elim (search_items items (is_good_target items i target)) [
      | found j q e passes ↦
          let a = and_parts (eqb (address q) target) (not (is_word q.item) && eqb (procedure_of items j) (procedure_of items i)) passes in
          let b = and_parts (not (is_word q.item)) (eqb (procedure_of items j) (procedure_of items i)) a.1 in
          (j, q, e, eqb-true (address q) target a.0, not-true (is_word q.item) b.0, eqb-true (procedure_of items j) (procedure_of items i) b.1)
      | nowhere none ↦ absurd (h (λ g.
          true≢false (sym (and_from (eqb (address g.1) target) (not (is_word g.1.item) && eqb (procedure_of items g.0) (procedure_of items i))
          (eq-eqb (address g.1) target g.3)
          (and_from (not (is_word g.1.item)) (eqb (procedure_of items g.0) (procedure_of items i)) (not_from_false (is_word g.1.item) g.4)
          (eq-eqb (procedure_of items g.0) (procedure_of items i) g.5)))
          ∙ none g.0 g.1 g.2)))
    ]

-- the test of a rule comes out false at an item
pub kept : (code : LabelledCode) → Facts code → (i : ℕ) (p : Placed) (rule : Rule) → slice_get code.items i ≡ Some p →
    item_breaks rule (callee code.items p) p.item (code.labels i) ≡ false
kept code facts i p rule stands =
    false_from_ne_true (item_breaks rule (callee code.items p) p.item (code.labels i)) (λ h. facts.flow rule p.at (i, p, stands, refl, h))

kept_plain : (code : LabelledCode) → Facts code → (i : ℕ) (p : Placed) (ins : Instr) (rule : Rule) → slice_get code.items i ≡ Some p → p.item ≡ Plain ins →
    item_breaks rule (callee code.items p) (Plain ins) (code.labels i) ≡ false
kept_plain code facts i p ins rule stands is =
    ap (λ item. item_breaks rule (callee code.items p) item (code.labels i)) (sym is) ∙ kept code facts i p rule stands

pub keeps_rules : (code : LabelledCode) → Facts code → (i : ℕ) (p : Placed) (ins : Instr) → slice_get code.items i ≡ Some p → p.item ≡ Plain ins →
    KeepsRules ins (code.labels i)
keeps_rules code facts i p ins stands is = record {
  address = kept_plain code facts i p ins V10 stands is;
  stores = kept_plain code facts i p ins V11 stands is;
  branches = kept_plain code facts i p ins V12 stands is;
  divides = kept_plain code facts i p ins V13 stands is;
  stack = kept_plain code facts i p ins V14 stands is;
}

-- ---- words that stand in the code are items

-- a word in the code holds the prefix behind its first two bytes
second_tail : (a b c d : ℕ) (xs ys : List ℕ) → a ∷ (c ∷ xs) ≡ b ∷ (d ∷ ys) → xs ≡ ys
second_tail a b c d xs ys e = cc

prefix_in : (xs : List ℕ) (b k : ℕ) (prefix : List ℕ) → length prefix ≡ 6 → take 8 xs ≡ b ∷ (k ∷ prefix) → take (length prefix) (drop 2 xs) ≡ prefix
prefix_in (x ∷ (y ∷ rest)) b k prefix six e =
    let f : take 6 rest ≡ prefix = second_tail x b y k (take 6 rest) prefix e in
    ap (λ n. take n rest) six ∙ f
prefix_in [] b k prefix six e = absurd (let h : length (let l : List ℕ = [] in l) ≡ suc (suc (length prefix)) = ap length e in omega arith)
prefix_in (x ∷ []) b k prefix six e = absurd (let h : length (x ∷ []) ≡ suc (suc (length prefix)) = ap length e in omega arith)

abbrev is_word_at : ℕ → ℕ → Placed → Bool
is_word_at place j q = is_word q.item && eqb (q.at + 2) place

-- the item whose prefix it is
word_item : (prefix code : List ℕ) (items : List Placed) (place : ℕ) → ((place : ℕ) → BreaksPrefix prefix code items place → ⊥) → IsOccurrence prefix code place →
    (j : ℕ) × (q : Placed) × (slice_get items j ≡ Some q) × (is_word q.item ≡ true) × (q.at + 2 ≡ place)
word_item prefix code items place fine occurs =
    elim (search_items items (is_word_at place)) [
      | found j q e passes ↦ let a = and_parts (is_word q.item) (eqb (q.at + 2) place) passes in (j, q, e, a.0, eqb-true (q.at + 2) place a.1)
      | nowhere none ↦ absurd (fine place (
        occurs,
        λ i p e word at.
            true≢false (sym (and_from (is_word p.item) (eqb (p.at + 2) place) word (eq-eqb (p.at + 2) place at)) ∙ none i p e),
      ))
    ]

first_cell : (a b c d : ℕ) (xs ys : List ℕ) → a ∷ (b ∷ xs) ≡ c ∷ (d ∷ ys) → a ≡ c
first_cell a b c d xs ys e = cc

second_cell : (a b c d : ℕ) (xs ys : List ℕ) → a ∷ (b ∷ xs) ≡ c ∷ (d ∷ ys) → b ≡ d
second_cell a b c d xs ys e = cc

kinds_differ : (a b : ℕ) → a ≡ 0x11 → b ≡ 0x22 → a ≡ b → ⊥
kinds_differ a b e f same = omega arith

-- what stands at a word item is its word
item_word : (prefix code : List ℕ) (place : ℕ) (b : ℕ) (item : Item) → length prefix ≡ 6 → is_word item ≡ true → StandsAt prefix code place item →
    ((bits : ℕ) × (item ≡ Call bits) × (take 8 (drop place code) ≡ bits ∷ (0x11 ∷ prefix)))
    ⊎ ((bit : ℕ) × (item ≡ Ret bit) × (bit < 2) × (take 8 (drop place code) ≡ bit ∷ (0x22 ∷ prefix)))
unfolding item_bytes
item_word prefix code place b (Call bits) six e s =
    inl (bits, refl, ap (λ n. take n (drop place code)) (let n : 8 ≡ suc (suc (length prefix)) = omega arith in n) ∙ s.is.1)
item_word prefix code place b (Ret bit) six e s =
    inr (bit, refl, s.is.0, ap (λ n. take n (drop place code)) (let n : 8 ≡ suc (suc (length prefix)) = omega arith in n) ∙ s.is.1)
item_word prefix code place b (Plain i) six e s = absurd (true≢false (sym e))
item_word prefix code place b (ReturnUnit bit) six e s = absurd (true≢false (sym e))
item_word prefix code place b (CallUnit r bits) six e s = absurd (true≢false (sym e))

-- the word item at a place where a word's bytes stand
word_at : (code : LabelledCode) → Facts code → (place b k : ℕ) → take 8 (drop place code.bytes) ≡ b ∷ (k ∷ code.prefix) →
    (j : ℕ) × (q : Placed) × (slice_get code.items j ≡ Some q) × (is_word q.item ≡ true) × (q.at ≡ place)
word_at code facts place b k stands =
    let e : take (length code.prefix) (drop (place + 2) code.bytes) ≡ code.prefix =
    ap (λ l. take (length code.prefix) l) (sym (drop-drop 2 place code.bytes)) ∙ prefix_in (drop place code.bytes) b k code.prefix facts.six stands in
    let f = word_item code.prefix code.bytes code.items (place + 2) facts.occurs e in
    (f.0, f.1, f.2, f.3, let at = f.4 in omega arith)

-- a word item stands at a place
pub record IsWordItem (code : LabelledCode) (item : Item) (place : ℕ) : Type 0 where
  pub j : ℕ
  pub q : Placed
  pub stands : slice_get code.items j ≡ Some q
  pub is : q.item ≡ item
  pub at : q.at ≡ place

pub call_at : (code : LabelledCode) → Facts code → (place bits : ℕ) → take 8 (drop place code.bytes) ≡ call_word bits code.prefix →
    IsWordItem code (Call bits) place
call_at code facts place bits stands =
    let w = word_at code facts place bits 0x11 stands in
    let s = item_stands code facts w.0 w.1 w.2 in
    let same : take 8 (drop w.1.at code.bytes) ≡ bits ∷ (0x11 ∷ code.prefix) = ap (λ n. take 8 (drop n code.bytes)) w.4 ∙ stands in
    elim (item_word code.prefix code.bytes w.1.at bits w.1.item facts.six w.3 s.0) [
      | inl c ↦ record { j = w.0; q = w.1; stands = w.2; is = c.1 ∙ ap Call (first_cell c.0 0x11 bits 0x11 code.prefix code.prefix (sym c.2 ∙ same)); at = w.4 }
      | inr r ↦ absurd (kinds_differ 0x11 0x22 refl refl (second_cell bits 0x11 r.0 0x22 code.prefix code.prefix (sym same ∙ r.3)))
    ]

pub return_at : (code : LabelledCode) → Facts code → (place bit : ℕ) → take 8 (drop place code.bytes) ≡ return_word bit code.prefix →
    IsWordItem code (Ret bit) place
return_at code facts place bit stands =
    let w = word_at code facts place bit 0x22 stands in
    let s = item_stands code facts w.0 w.1 w.2 in
    let same : take 8 (drop w.1.at code.bytes) ≡ bit ∷ (0x22 ∷ code.prefix) = ap (λ n. take 8 (drop n code.bytes)) w.4 ∙ stands in
    elim (item_word code.prefix code.bytes w.1.at bit w.1.item facts.six w.3 s.0) [
      | inl c ↦ absurd (kinds_differ 0x11 0x22 refl refl (second_cell c.0 0x11 bit 0x22 code.prefix code.prefix (sym c.2 ∙ same)))
      | inr r ↦ record { j = w.0; q = w.1; stands = w.2; is = r.1 ∙ ap Ret (first_cell r.0 0x22 bit 0x22 code.prefix code.prefix (sym r.3 ∙ same)); at = w.4 }
    ]

-- a word has eight bytes
eight_of : (prefix : List ℕ) (item : Item) → length prefix ≡ 6 → is_word item ≡ true → length (item_bytes prefix item) ≡ 8
unfolding item_bytes
eight_of prefix (Call bits) six e = omega arith
eight_of prefix (Ret bit) six e = omega arith
eight_of prefix (Plain i) six e = absurd (true≢false (sym e))
eight_of prefix (ReturnUnit bit) six e = absurd (true≢false (sym e))
eight_of prefix (CallUnit r bits) six e = absurd (true≢false (sym e))

pub word_length : (code : LabelledCode) → Facts code → (j : ℕ) (q : Placed) → slice_get code.items j ≡ Some q → is_word q.item ≡ true → q.len ≡ 8
word_length code facts j q e word =
    (item_stands code facts j q e).1 ∙ eight_of code.prefix q.item facts.six word

-- ---- what a direct call names

procedure_first : (x : Placed) (xs : List Placed) (target bits : ℕ) → (address_after x ≡ target) ⊎ (address_after x ≡ target → ⊥) →
    (procedure_at xs target ≡ Some bits → (j : ℕ) × (q : Placed) × (slice_get xs j ≡ Some q) × (q.item ≡ Call bits) × (address_after q ≡ target)) →
    procedure_at (x ∷ xs) target ≡ Some bits →
    (j : ℕ) × (q : Placed) × (slice_get (x ∷ xs) j ≡ Some q) × (q.item ≡ Call bits) × (address_after q ≡ target)
procedure_first x xs target bits (inl here) rest e =
    (0, x, refl, bits_are x.item bits (sym (cond-true (eqb (address_after x) target) _ _ (eq-eqb _ _ here)) ∙ e), here)
procedure_first x xs target bits (inr there) rest e =
    let f = rest (sym (cond-false (eqb (address_after x) target) _ _ (ne_eqb _ _ there)) ∙ e) in
    (suc f.0, f.1, f.2, f.3, f.4)

procedure_found : (items : List Placed) (target bits : ℕ) → procedure_at items target ≡ Some bits →
    (j : ℕ) × (q : Placed) × (slice_get items j ≡ Some q) × (q.item ≡ Call bits) × (address_after q ≡ target)
procedure_found [] target bits e = absurd (none-some bits e)
procedure_found (x ∷ xs) target bits e = procedure_first x xs target bits (cases_eq (address_after x) target) (procedure_found xs target bits) e

-- the gate of which a list of gates has the bits
gate_among : (gs : List Gate) (k bits : ℕ) → slice_get (map bits_of gs) k ≡ Some bits → (g : Gate) × (slice_get gs k ≡ Some g) × (bits_of g ≡ bits)
gate_among [] k bits e = absurd (none-some bits e)
gate_among (g ∷ gs) zero bits e = (g, refl, same_Some (bits_of g) bits e)
gate_among (g ∷ gs) (suc k) bits e = gate_among gs k bits e

gate_from : (test : Bool) (k bits : ℕ) → cond test (slice_get (map bits_of gates) k) None ≡ Some bits →
    (g : Gate) × (cond test (slice_get gates k) None ≡ Some g) × (bits_of g ≡ bits)
gate_from true k bits e = gate_among gates k bits e
gate_from false k bits e = absurd (none-some bits e)

gate_found : (target bits : ℕ) → gate_bits_at target ≡ Some bits → (g : Gate) × (gate_at target ≡ Some g) × (bits_of g ≡ bits)
gate_found target bits e = gate_from (leb 0x1000 target && eqb ((target - 0x1000) % 16) 0) ((target - 0x1000) / 16) bits e

-- what a direct call goes to: the item behind a call word, or a gate
pub data Callee (items : List Placed) (bits target : ℕ) : Type 0 where
  procedure : (j : ℕ) (q : Placed) → slice_get items j ≡ Some q → q.item ≡ Call bits → address_after q ≡ target → Callee items bits target
  gate : (g : Gate) → gate_at target ≡ Some g → bits_of g ≡ bits → Callee items bits target

callee_at : (items : List Placed) (o : Option ℕ) (bits target : ℕ) → procedure_at items target ≡ o → option_or o (gate_bits_at target) ≡ Some bits → Callee items bits target
callee_at items None bits target is e = let g = gate_found target bits e in gate g.0 g.1 g.2
callee_at items (Some found_bits) bits target is e =
    let f = procedure_found items target found_bits is in
    procedure f.0 f.1 f.2 (f.3 ∙ ap Call (same_Some found_bits bits e)) f.4

some_or_none : (o : Option ℕ) → ((bits : ℕ) × (o ≡ Some bits)) ⊎ (o ≡ None)
some_or_none None = inr refl
some_or_none (Some bits) = inl (bits, refl)

-- a direct call has a callee
pub called : (items : List Placed) (i target : ℕ) (p : Placed) → ((place : ℕ) → BreaksCalls items place → ⊥) → slice_get items i ≡ Some p → call_target p ≡ Some target →
    callee items p ≡ bits_at items (call_target p) →
    (bits : ℕ) × (callee items p ≡ Some bits) × Callee items bits target
called items i target p fine stands names through =
    elim (some_or_none (callee items p)) [
      | inl b ↦ (b.0, b.1, callee_at items (procedure_at items target) b.0 target refl (sym (through ∙ ap (λ o. bits_at items o) names) ∙ b.1))
      | inr none ↦ absurd (fine p.at (i, p, target, stands, refl, names, none))
    ]
