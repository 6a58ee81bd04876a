-- What a listing's chain says of its items: their order, and where words stand.
use Rattle.std.proofs.Common.{◌≡◌, ℕ, zero, suc, ◌+◌, ◌<◌, Bool, true, false, List, [], ◌∷◌, length, take, Option, Some, None, refl, sym, ◌∙◌, ap, subst, arith, slice_get, get_or, not, cond, add-one}
use Rattle.std.proofs.lemmas.Option.{none-some, same_Some, slice_get-get_or}
use Rattle.std.proofs.lemmas.Bool.{true≢false}
use Rattle.code_sweep.specs.declared.item.Item.{Item}
use Rattle.code_sweep.specs.declared.item.Item.TheVariants.{Call, Ret, Plain, ReturnUnit, CallUnit}
use Rattle.code_sweep.specs.declared.item.Placed.{Placed}
use Rattle.code_sweep.specs.Listing.{item_bytes, IsChain, StandsAt}
use Rattle.conf_verify.specs.Rules.{is_word, is_call_word, call_words, other_items, last_bits}
use Rattle.conf_verify.specs.Search.{BadResult, IsBadResult}
use Rattle.taint_flow.specs.Calls.{call_bits}
use Rattle.taint_flow.proofs.Chain.{bytes_some}
use Rattle.std.specs.Option.{option_or}

-- an item of a chain: where it stands, and that it has bytes
pub record IsPlaced (prefix code : List ℕ) (p : Placed) : Type 0 where
  pub stands : StandsAt prefix code p.at p.item
  pub len : p.len ≡ length (item_bytes prefix p.item)
  pub some : 0 < p.len

placed_here : (prefix code : List ℕ) (from : ℕ) (p : Placed) → p.at ≡ from → p.len ≡ length (item_bytes prefix p.item) → StandsAt prefix code from p.item → IsPlaced prefix code p
placed_here prefix code from p here long stands =
    let s : StandsAt prefix code p.at p.item = subst (λ n. StandsAt prefix code n p.item) (sym here) stands in
    let some = bytes_some prefix p.item in
    record { stands = s; len = long; some = omega arith }

pub chain_placed : (prefix code : List ℕ) (items : List Placed) (from to i : ℕ) (p : Placed) → IsChain prefix code items from to → slice_get items i ≡ Some p → IsPlaced prefix code p
chain_placed prefix code [] from to i p chain e = absurd (none-some p e)
chain_placed prefix code (q ∷ qs) from to zero p chain e = subst (λ (x : Placed). IsPlaced prefix code x) (same_Some q p e) (placed_here prefix code from q chain.0 chain.1 chain.2)
chain_placed prefix code (q ∷ qs) from to (suc i) p chain e = chain_placed prefix code qs (from + q.len) to i p chain.3 e

-- ---- counts of the first so many items

cons_assoc : (a b c : ℕ) → a + (b + c) ≡ (a + b) + c
cons_assoc a b c = omega arith

-- one more item counts as a call word, or not
pub call_words_more : (items : List Placed) (i : ℕ) (p : Placed) → slice_get items i ≡ Some p →
    call_words (take (suc i) items) ≡ call_words (take i items) + cond (is_call_word p.item) 1 0
call_words_more [] i p e = absurd (none-some p e)
call_words_more (x ∷ xs) zero p e =
    let same : is_call_word x.item ≡ is_call_word p.item = ap (λ (y : Placed). is_call_word y.item) (same_Some x p e) in
    rw same (omega arith)
call_words_more (x ∷ xs) (suc i) p e =
    let h : call_words (take (suc i) xs) ≡ call_words (take i xs) + cond (is_call_word p.item) 1 0 = call_words_more xs i p e in
    ap (λ n. cond (is_call_word x.item) 1 0 + n) h ∙ cons_assoc (cond (is_call_word x.item) 1 0) (call_words (take i xs)) (cond (is_call_word p.item) 1 0)

pub other_items_more : (items : List Placed) (i : ℕ) (p : Placed) → slice_get items i ≡ Some p →
    other_items (take (suc i) items) ≡ other_items (take i items) + cond (is_word p.item) 0 1
other_items_more [] i p e = absurd (none-some p e)
other_items_more (x ∷ xs) zero p e =
    let same : is_word x.item ≡ is_word p.item = ap (λ (y : Placed). is_word y.item) (same_Some x p e) in
    rw same (omega arith)
other_items_more (x ∷ xs) (suc i) p e =
    let h : other_items (take (suc i) xs) ≡ other_items (take i xs) + cond (is_word p.item) 0 1 = other_items_more xs i p e in
    ap (λ n. cond (is_word x.item) 0 1 + n) h ∙ cons_assoc (cond (is_word x.item) 0 1) (other_items (take i xs)) (cond (is_word p.item) 0 1)

-- the counts, as loops over items by index make them
pub counted_call : (items : List Placed) (i before step : ℕ) (d : Placed) → i < length items → before ≡ call_words (take i items) →
    step ≡ cond (is_call_word (get_or items i d).item) 1 0 → before + step ≡ call_words (take (i + 1) items)
counted_call items i before step d inside e f =
    let h = call_words_more items i (get_or items i d) (slice_get-get_or items i d inside) in
    rw (add-one, h, e, f) refl

turned : (b : Bool) → ◌≡◌ {A = ℕ} (cond (not b) 1 0) (cond b 0 1)
turned true = refl
turned false = refl

pub counted_others : (items : List Placed) (i before step : ℕ) (d : Placed) → i < length items → before ≡ other_items (take i items) →
    step ≡ cond (not (is_word (get_or items i d).item)) 1 0 → before + step ≡ other_items (take (i + 1) items)
counted_others items i before step d inside e f =
    let h = other_items_more items i (get_or items i d) (slice_get-get_or items i d inside) in
    let g = turned (is_word (get_or items i d).item) in
    rw (add-one, h, e, f, g) refl

-- ---- the bits of the last call word

or_none : (o : Option ℕ) → option_or o None ≡ o
or_none None = refl
or_none (Some x) = refl

or_assoc : (a b c : Option ℕ) → option_or (option_or a b) c ≡ option_or a (option_or b c)
or_assoc None b c = refl
or_assoc (Some x) b c = refl

pub last_bits_more : (items : List Placed) (i : ℕ) (p : Placed) → slice_get items i ≡ Some p →
    last_bits (take (suc i) items) ≡ option_or (call_bits p.item) (last_bits (take i items))
last_bits_more [] i p e = absurd (none-some p e)
last_bits_more (x ∷ xs) zero p e =
    ap (λ (y : Placed). call_bits y.item) (same_Some x p e) ∙ sym (or_none (call_bits p.item))
last_bits_more (x ∷ xs) (suc i) p e =
    ap (λ o. option_or o (call_bits x.item)) (last_bits_more xs i p e) ∙ or_assoc (call_bits p.item) (last_bits (take i xs)) (call_bits x.item)

-- a call word has 8 bytes
call_eight : (prefix : List ℕ) (item : Item) → length prefix ≡ 6 → is_call_word item ≡ true → length (item_bytes prefix item) ≡ 8
unfolding item_bytes
call_eight prefix (Call bits) six e = omega arith
call_eight prefix (Ret bit) six e = absurd (true≢false (sym e))
call_eight prefix (Plain i) six e = absurd (true≢false (sym e))
call_eight prefix (ReturnUnit bit) six e = absurd (true≢false (sym e))
call_eight prefix (CallUnit r bits) six e = absurd (true≢false (sym e))

pub chain_eight : (prefix code : List ℕ) (items : List Placed) (to i : ℕ) (p : Placed) → length prefix ≡ 6 → IsChain prefix code items 0 to → slice_get items i ≡ Some p → is_call_word p.item ≡ true → p.len ≡ 8
chain_eight prefix code items to i p six chain e call = (chain_placed prefix code items 0 to i p chain e).len ∙ call_eight prefix p.item six call

-- ---- a return unit and the bits of its procedure, as a loop over items by index finds them

pub bits_next : (items : List Placed) (i : ℕ) (d : Placed) (before procedure : Option ℕ) → i < length items → before ≡ last_bits (take i items) →
    procedure ≡ option_or (call_bits (get_or items i d).item) before → procedure ≡ last_bits (take (suc i) items)
bits_next items i d before procedure inside e f =
    f ∙ ap (λ o. option_or (call_bits (get_or items i d).item) o) e ∙ sym (last_bits_more items i (get_or items i d) (slice_get-get_or items i d inside))

pub result_found : (items : List Placed) (i : ℕ) (d : Placed) (procedure : Option ℕ) → i < length items → procedure ≡ last_bits (take (suc i) items) →
    IsBadResult (get_or items i d).item procedure → BadResult items i
result_found items i d procedure inside e bad =
    (get_or items i d, bad.0, bad.1, slice_get-get_or items i d inside, bad.2, sym e ∙ bad.3, bad.4)

pub result_fine : (items : List Placed) (i : ℕ) (d : Placed) (procedure : Option ℕ) → i < length items → procedure ≡ last_bits (take (suc i) items) →
    (IsBadResult (get_or items i d).item procedure → ⊥) → BadResult items i → ⊥
result_fine items i d procedure inside e fine bad =
    let same = same_Some bad.0 (get_or items i d) (sym bad.3 ∙ slice_get-get_or items i d inside) in
    fine (bad.1, bad.2, ap (λ (x : Placed). x.item) (sym same) ∙ bad.4, e ∙ bad.5, bad.6)
