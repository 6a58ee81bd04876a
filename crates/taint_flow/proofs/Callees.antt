-- The procedure at a flat address, found by a table of items by place.
use Rattle.std.proofs.Common.{◌≡◌, ◌≢◌, ℕ, zero, suc, ◌+◌, ◌-◌, ◌<◌, ◌≤◌, eqb, List, [], ◌∷◌, length, refl, sym, ◌∙◌, ap, arith, Option, Some, None, inl, inr, ◌⊎◌}
use Rattle.std.specs.List.{slice_get}
use Rattle.std.proofs.lemmas.Option.{same_Some, none-some, slice_get_within}
use Rattle.std.proofs.lemmas.Bool.{cases_eq, eq-eqb, ne_eqb, cond-true, cond-false}
use Rattle.cv_word.specs.MemoryMap.{code_base}
use Rattle.code_sweep.specs.declared.item.Item.{Item}
use Rattle.code_sweep.specs.declared.item.Item.TheVariants.{Call, Ret, Plain, ReturnUnit, CallUnit}
use Rattle.code_sweep.specs.declared.item.Placed.{Placed}
use Rattle.taint_flow.specs.Flow.{address_after}
use Rattle.taint_flow.specs.Places.{NumbersItems, StandApart}
use Rattle.taint_flow.specs.Calls.{procedure_at, call_bits, AreEight}

-- the bits of an item, if it is a call word
pub bits_are : (item : Item) (bits : ℕ) → call_bits item ≡ Some bits → item ≡ Call bits
bits_are (Call b) bits e = ap Call (same_Some b bits e)
bits_are (Ret b) bits e = absurd (none-some bits e)
bits_are (Plain i) bits e = absurd (none-some bits e)
bits_are (ReturnUnit b) bits e = absurd (none-some bits e)
bits_are (CallUnit r b) bits e = absurd (none-some bits e)

pub call_or_none : (item : Item) → ((bits : ℕ) × (item ≡ Call bits)) ⊎ (call_bits item ≡ None)
call_or_none (Call b) = inl (b, refl)
call_or_none (Ret b) = inr refl
call_or_none (Plain i) = inr refl
call_or_none (ReturnUnit b) = inr refl
call_or_none (CallUnit r b) = inr refl

apart_rest : (x : Placed) (xs : List Placed) → StandApart (x ∷ xs) → StandApart xs
apart_rest x xs apart i j p q e f h = apart (suc i) (suc j) p q e f (omega arith)

-- the call word that ends at the address gives the bits
pub procedure_of_word : (items : List Placed) (j target bits : ℕ) (q : Placed) → StandApart items → AreEight items → slice_get items j ≡ Some q → q.item ≡ Call bits →
    address_after q ≡ target → procedure_at items target ≡ Some bits
procedure_of_word [] j target bits q apart eight e is ends = absurd (none-some q e)
procedure_of_word (x ∷ xs) zero target bits q apart eight e is ends =
    let same : x ≡ q = same_Some x q e in
    cond-true (eqb (address_after x) target) _ _ (eq-eqb _ _ (ap (λ (y : Placed). address_after y) same ∙ ends))
    ∙ ap (λ (y : Placed). call_bits y.item) same ∙ ap call_bits is
procedure_of_word (x ∷ xs) (suc j) target bits q apart eight e is ends =
    let before : x.at + x.len ≤ q.at = apart 0 (suc j) x q refl e (omega arith) in
    let long : q.len ≡ 8 = eight (suc j) q bits e is in
    cond-false (eqb (address_after x) target) _ _ (ne_eqb _ _ (let n : address_after x ≢ target = omega arith in n))
    ∙ procedure_of_word xs j target bits q (apart_rest x xs apart) (λ i p b f g. eight (suc i) p b f g) e is ends

-- where no call word ends, there is no procedure
abbrev pub NoneEnds : List Placed → ℕ → Type 0
NoneEnds items target = (i : ℕ) (p : Placed) (bits : ℕ) → slice_get items i ≡ Some p → p.item ≡ Call bits → address_after p ≡ target → ⊥

pub procedure_none : (items : List Placed) (target : ℕ) → NoneEnds items target → procedure_at items target ≡ None
procedure_none [] target none = refl
procedure_none (x ∷ xs) target none =
    elim (cases_eq (address_after x) target) [
      | inl here ↦ cond-true (eqb (address_after x) target) _ _ (eq-eqb _ _ here)
          ∙ elim (call_or_none x.item) [ inl c ↦ absurd (none 0 x c.0 refl c.1 here) | inr n ↦ n ]
      | inr there ↦ cond-false (eqb (address_after x) target) _ _ (ne_eqb _ _ there)
          ∙ procedure_none xs target (λ i p bits e is ends. none (suc i) p bits e is ends)
    ]

-- a call word that ends at the address begins eight bytes below it
begins_below : (items : List Placed) (target i bits : ℕ) (p : Placed) → AreEight items → slice_get items i ≡ Some p → p.item ≡ Call bits → address_after p ≡ target →
    code_base + (p.at + 8) ≡ target
begins_below items target i bits p eight e is ends = let long : p.len ≡ 8 = eight i p bits e is in omega arith

pub none_below : (items : List Placed) (target : ℕ) → AreEight items → target < code_base + 8 → procedure_at items target ≡ None
none_below items target eight low =
    procedure_none items target (λ i p bits e is ends. let at = begins_below items target i bits p eight e is ends in omega arith)

pub none_numbered : (items : List Placed) (number : ℕ → Option ℕ) (target : ℕ) → NumbersItems items number → AreEight items →
    number (target - code_base - 8) ≡ None → procedure_at items target ≡ None
none_numbered items number target numbers eight none =
    procedure_none items target (λ i p bits e is ends.
    let at : code_base + (p.at + 8) ≡ target = begins_below items target i bits p eight e is ends in
    let place : p.at ≡ target - code_base - 8 = omega arith in
    none-some i (sym none ∙ ap number (sym place) ∙ numbers.each i p e))

same_place : (items : List Placed) (number : ℕ → Option ℕ) (i j : ℕ) (p q : Placed) → NumbersItems items number → slice_get items i ≡ Some p → slice_get items j ≡ Some q →
    p.at ≡ q.at → p ≡ q
same_place items number i j p q numbers e f at =
    let same : i ≡ j = same_Some i j (sym (numbers.each i p e) ∙ ap number at ∙ numbers.each j q f) in
    same_Some p q (sym e ∙ ap (λ n. slice_get items n) same ∙ f)

other_kind : (item : Item) (bits : ℕ) → item ≡ Call bits → call_bits item ≡ None → ⊥
other_kind item bits is none = none-some bits (sym none ∙ ap call_bits is)

pub procedure_numbered : (items : List Placed) (number : ℕ → Option ℕ) (target j : ℕ) (q : Placed) → NumbersItems items number → AreEight items → StandApart items →
    code_base + 8 ≤ target → number (target - code_base - 8) ≡ Some j → slice_get items j ≡ Some q → call_bits q.item ≡ procedure_at items target
procedure_numbered items number target j q numbers eight apart low named here =
    let found = numbers.only (target - code_base - 8) j named in
    let same : found.0 ≡ q = same_Some found.0 q (sym found.1 ∙ here) in
    let place : q.at ≡ target - code_base - 8 = ap (λ (x : Placed). x.at) (sym same) ∙ found.2 in
    elim (call_or_none q.item) [
      | inl c ↦
          let long : q.len ≡ 8 = eight j q c.0 here c.1 in
          ap call_bits c.1 ∙ sym (procedure_of_word items j target c.0 q apart eight here c.1 (let ends : address_after q ≡ target = omega arith in ends))
      | inr n ↦ n ∙ sym (procedure_none items target (λ i p bits e is ends.
          let at : code_base + (p.at + 8) ≡ target = begins_below items target i bits p eight e is ends in
          let alike : p.at ≡ q.at = omega arith in
          other_kind q.item bits (ap (λ (x : Placed). x.item) (sym (same_place items number i j p q numbers e here alike)) ∙ is) n))
    ]

pub past_items : (items : List Placed) (number : ℕ → Option ℕ) (place j : ℕ) → NumbersItems items number → number place ≡ Some j → length items ≤ j → ⊥
past_items items number place j numbers named past =
    let found = numbers.only place j named in
    let within : j < length items = slice_get_within items j found.0 found.1 in
    omega arith
