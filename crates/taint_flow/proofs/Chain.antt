-- A chain of items stands in order.
use Rattle.std.proofs.Common.{◌∙◌, ◌≡◌, ℕ, zero, suc, ◌+◌, ◌<◌, ◌≤◌, List, [], ◌∷◌, length, ap, arith, Some}
use Rattle.std.specs.List.{slice_get}
use Rattle.std.proofs.lemmas.Option.{same_Some, none-some}
use Rattle.x64_decode.proofs.Laws.{spelling_length}
use Rattle.code_sweep.specs.declared.item.Item.{Item}
use Rattle.code_sweep.specs.declared.item.Item.TheVariants.{Call, Plain}
use Rattle.code_sweep.specs.declared.item.Placed.{Placed}
use Rattle.code_sweep.specs.Listing.{IsChain, IsListing, item_bytes}
use Rattle.taint_flow.specs.Places.{StandInOrder, StandApart}
use Rattle.taint_flow.specs.Calls.{AreEight}

-- the items stand at places from one on, below another, each above the one before it
abbrev pub RiseFrom : ℕ → List Placed → ℕ → Type 0
RiseFrom low [] high = Unit {0}
RiseFrom low (p ∷ ps) high = (low ≤ p.at) × (p.at < high) × RiseFrom (suc p.at) ps high

above : (low : ℕ) (items : List Placed) (high i : ℕ) (p : Placed) → RiseFrom low items high → slice_get items i ≡ Some p → low ≤ p.at
above low [] high i p r e = absurd (none-some p e)
above low (q ∷ qs) high zero p r e =
    let same : q.at ≡ p.at = ap (λ (x : Placed). x.at) (same_Some q p e) in let low' : low ≤ q.at = r.0 in omega arith
above low (q ∷ qs) high (suc i) p r e =
    let up : suc q.at ≤ p.at = above (suc q.at) qs high i p r.2 e in let low' : low ≤ q.at = r.0 in omega arith

below : (low : ℕ) (items : List Placed) (high i : ℕ) (p : Placed) → RiseFrom low items high → slice_get items i ≡ Some p → p.at < high
below low [] high i p r e = absurd (none-some p e)
below low (q ∷ qs) high zero p r e =
    let same : q.at ≡ p.at = ap (λ (x : Placed). x.at) (same_Some q p e) in let high' : q.at < high = r.1 in omega arith
below low (q ∷ qs) high (suc i) p r e = below (suc q.at) qs high i p r.2 e

apart : (low : ℕ) (items : List Placed) (high i j : ℕ) (p q : Placed) → RiseFrom low items high →
    slice_get items i ≡ Some p → slice_get items j ≡ Some q → i < j → p.at < q.at
apart low [] high i j p q r e f h = absurd (none-some p e)
apart low (x ∷ xs) high zero zero p q r e f h = absurd (omega arith)
apart low (x ∷ xs) high zero (suc j) p q r e f h =
    let same : x.at ≡ p.at = ap (λ (y : Placed). y.at) (same_Some x p e) in
    let up : suc x.at ≤ q.at = above (suc x.at) xs high j q r.2 f in
    omega arith
apart low (x ∷ xs) high (suc i) zero p q r e f h = absurd (omega arith)
apart low (x ∷ xs) high (suc i) (suc j) p q r e f h = apart (suc x.at) xs high i j p q r.2 e f (omega arith)

pub order_from_rise : (items : List Placed) (code : List ℕ) → RiseFrom 0 items (length code) → StandInOrder items code
order_from_rise items code r = record {
  inside = λ i p e. below 0 items (length code) i p r e;
  rising = λ i j p q e f h. apart 0 items (length code) i j p q r e f h;
}

-- every item has bytes
pub bytes_some : (prefix : List ℕ) (item : Item) → 0 < length (item_bytes prefix item)
unfolding item_bytes
bytes_some prefix (Plain i) = (spelling_length i).some
bytes_some prefix _ = omega arith

rise_from_chain : (prefix code : List ℕ) (items : List Placed) (low from to : ℕ) → low ≤ from → IsChain prefix code items from to → RiseFrom low items (length code)
rise_from_chain prefix code [] low from to h c = tt
rise_from_chain prefix code (p ∷ ps) low from to h c =
    let at : p.at ≡ from = c.0 in
    let inside : from < length code = c.2.inside in
    let long : 0 < length (item_bytes prefix p.item) = bytes_some prefix p.item in
    let len : p.len ≡ length (item_bytes prefix p.item) = c.1 in
    (omega arith, omega arith, rise_from_chain prefix code ps (suc p.at) (from + p.len) to (omega arith) c.3)

-- the items of a listing stand in order
pub order_from_listing : (prefix code : List ℕ) (items : List Placed) → IsListing prefix code items → StandInOrder items code
order_from_listing prefix code items c = order_from_rise items code (rise_from_chain prefix code items 0 0 (length code) (omega arith) c)

-- ---- a later item begins behind an earlier one

after_from : (prefix code : List ℕ) (items : List Placed) (from to i : ℕ) (p : Placed) → IsChain prefix code items from to → slice_get items i ≡ Some p → from ≤ p.at
after_from prefix code [] from to i p c e = absurd (none-some p e)
after_from prefix code (q ∷ qs) from to zero p c e =
    let same : q.at ≡ p.at = ap (λ (x : Placed). x.at) (same_Some q p e) in let at : q.at ≡ from = c.0 in omega arith
after_from prefix code (q ∷ qs) from to (suc i) p c e =
    let h : from + q.len ≤ p.at = after_from prefix code qs (from + q.len) to i p c.3 e in omega arith

apart_from : (prefix code : List ℕ) (items : List Placed) (from to i j : ℕ) (p q : Placed) → IsChain prefix code items from to →
    slice_get items i ≡ Some p → slice_get items j ≡ Some q → i < j → p.at + p.len ≤ q.at
apart_from prefix code [] from to i j p q c e f h = absurd (none-some p e)
apart_from prefix code (x ∷ xs) from to zero zero p q c e f h = absurd (omega arith)
apart_from prefix code (x ∷ xs) from to zero (suc j) p q c e f h =
    let same : x.at ≡ p.at = ap (λ (y : Placed). y.at) (same_Some x p e) in
    let long : x.len ≡ p.len = ap (λ (y : Placed). y.len) (same_Some x p e) in
    let at : x.at ≡ from = c.0 in
    let up : from + x.len ≤ q.at = after_from prefix code xs (from + x.len) to j q c.3 f in
    omega arith
apart_from prefix code (x ∷ xs) from to (suc i) zero p q c e f h = absurd (omega arith)
apart_from prefix code (x ∷ xs) from to (suc i) (suc j) p q c e f h = apart_from prefix code xs (from + x.len) to i j p q c.3 e f (omega arith)

-- the items of a listing stand apart
pub apart_from_listing : (prefix code : List ℕ) (items : List Placed) → IsListing prefix code items → StandApart items
apart_from_listing prefix code items c i j p q e f h = apart_from prefix code items 0 (length code) i j p q c e f h

eight_from : (prefix code : List ℕ) (items : List Placed) (from to i bits : ℕ) (p : Placed) → length prefix ≡ 6 → IsChain prefix code items from to →
    slice_get items i ≡ Some p → p.item ≡ Call bits → p.len ≡ 8
unfolding item_bytes
eight_from prefix code [] from to i bits p six c e is = absurd (none-some p e)
eight_from prefix code (q ∷ qs) from to zero bits p six c e is =
    let same : q ≡ p = same_Some q p e in
    let long : q.len ≡ p.len = ap (λ (y : Placed). y.len) same in
    let item : q.item ≡ Call bits = ap (λ (y : Placed). y.item) same ∙ is in
    let bytes : q.len ≡ length (item_bytes prefix (Call bits)) = c.1 ∙ ap (λ x. length (item_bytes prefix x)) item in
    omega arith
eight_from prefix code (q ∷ qs) from to (suc i) bits p six c e is = eight_from prefix code qs (from + q.len) to i bits p six c.3 e is

-- the call words of a listing have eight bytes
pub eight_from_listing : (prefix code : List ℕ) (items : List Placed) → length prefix ≡ 6 → IsListing prefix code items → AreEight items
eight_from_listing prefix code items six c i p bits e is = eight_from prefix code items 0 (length code) i bits p six c e is
