-- An item that V5, V7 and V8 don't speak of breaks none of them, and counts as no word.
use Rattle.std.proofs.Common.{◌≡◌, ℕ, suc, inl, inr, ◌+◌, ◌<◌, false, List, length, take, get_or, Option, Some, None, refl, sym, ◌∙◌, ap, subst, slice_get, cond, not}
use Rattle.std.proofs.lemmas.Bool.{true≢false}
use Rattle.std.proofs.lemmas.Option.{none-some, get_or_from_slice_get}
use Rattle.std.specs.Option.{option_or}
use Rattle.code_sweep.specs.declared.item.Item.{Item}
use Rattle.code_sweep.specs.declared.item.Item.TheVariants.{Call, Ret, Plain, ReturnUnit, CallUnit}
use Rattle.code_sweep.specs.declared.item.Placed.{Placed}
use Rattle.taint_flow.specs.Flow.{jump_target}
use Rattle.taint_flow.specs.Calls.{call_bits}
use Rattle.conf_verify.specs.Rules.{is_word, is_call_word, call_words, other_items, last_bits}
use Rattle.conf_verify.specs.Search.{BadCall, BadJump, BadResult, BadReturn, IsQuiet}
use Rattle.conf_verify.proofs.Chains.{bits_next, counted_call, counted_others}
use Rattle.conf_verify.proofs.Procedures.{plus_none}

-- the same of the item as a rule names it
quiet_there : (items : List Placed) (i : ℕ) (d p : Placed) → IsQuiet (get_or items i d) → slice_get items i ≡ Some p → IsQuiet p
quiet_there items i d p quiet stands = subst (λ (x : Placed). IsQuiet x) (get_or_from_slice_get items i p d stands) quiet

pub quiet_return : (items : List Placed) (i : ℕ) (d : Placed) → IsQuiet (get_or items i d) → BadReturn items i → ⊥
quiet_return items i d quiet bad =
    let q : IsQuiet bad.0 = quiet_there items i d bad.0 quiet bad.1 in
    elim bad.2 [
      | inl call ↦ true≢false (sym call.0 ∙ q.call)
      | inr word ↦ true≢false (sym (ap is_word word.1) ∙ q.word)
    ]

pub quiet_call : (items : List Placed) (i : ℕ) (d : Placed) → IsQuiet (get_or items i d) → BadCall items i → ⊥
quiet_call items i d quiet bad = none-some bad.1 (sym (quiet_there items i d bad.0 quiet bad.2).target ∙ bad.3)

pub quiet_result : (items : List Placed) (i : ℕ) (d : Placed) → IsQuiet (get_or items i d) → BadResult items i → ⊥
quiet_result items i d quiet bad = (quiet_there items i d bad.0 quiet bad.3).unit bad.1 bad.4

no_call_word : (item : Item) → is_word item ≡ false → is_call_word item ≡ false
no_call_word (Call bits) e = e
no_call_word (Ret bit) e = refl
no_call_word (Plain i) e = refl
no_call_word (ReturnUnit bit) e = refl
no_call_word (CallUnit r bits) e = refl

no_bits : (item : Item) → is_word item ≡ false → (let o : Option ℕ = None in o) ≡ call_bits item
no_bits (Call bits) e = absurd (true≢false e)
no_bits (Ret bit) e = refl
no_bits (Plain i) e = refl
no_bits (ReturnUnit bit) e = refl
no_bits (CallUnit r bits) e = refl

pub quiet_words : (items : List Placed) (i before : ℕ) (d : Placed) → i < length items → before ≡ call_words (take i items) → IsQuiet (get_or items i d) → before ≡ call_words (take (i + 1) items)
quiet_words items i before d inside e quiet =
    sym (plus_none before) ∙ counted_call items i before 0 d inside e (ap (λ b. cond b 1 0) (sym (no_call_word (get_or items i d).item quiet.word)))

pub quiet_others : (items : List Placed) (i before : ℕ) (d : Placed) → i < length items → before ≡ other_items (take i items) → IsQuiet (get_or items i d) → before + 1 ≡ other_items (take (i + 1) items)
quiet_others items i before d inside e quiet = counted_others items i before 1 d inside e (ap (λ b. cond (not b) 1 0) (sym quiet.word))

pub quiet_bits : (items : List Placed) (i : ℕ) (d : Placed) (before : Option ℕ) → i < length items → before ≡ last_bits (take i items) → IsQuiet (get_or items i d) → before ≡ last_bits (take (suc i) items)
quiet_bits items i d before inside e quiet = bits_next items i d before before inside e (ap (λ o. option_or o before) (no_bits (get_or items i d).item quiet.word))

-- an item that is no jump breaks no rule on jumps
pub no_jump : (items : List Placed) (i : ℕ) (d : Placed) → jump_target (get_or items i d) ≡ None → BadJump items i → ⊥
no_jump items i d none bad =
    let same = get_or_from_slice_get items i bad.0 d bad.2 in
    none-some bad.1 (sym none ∙ (ap (λ (x : Placed). jump_target x) same ∙ bad.3))
