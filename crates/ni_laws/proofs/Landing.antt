-- Where control lands behind an item: at the start of an item again.
use Rattle.std.proofs.Common.{◌≡◌, ℕ, suc, true, false, Some, refl, sym, ◌∙◌, ap, subst, inl, inr, slice_get, ◌+◌, arith}
use Rattle.std.proofs.lemmas.Bool.{true≢false}
use Rattle.std.proofs.lemmas.Option.{none-some}
use Rattle.cv_word.specs.MemoryMap.{code_base}
use Rattle.cv_word.specs.declared.registers.Registers.{Registers}
use Rattle.x64_decode.specs.declared.instr.Instr.{Instr}
use Rattle.x64_decode.specs.declared.instr.Instr.TheVariants.{Idiv, Mov, AluImm, Load, LoadZx8, LoadSx8, LoadSx32, Store, CmpFlat, JmpR10, CallR10, Jmp, Ud2}
use Rattle.x64_decode.specs.declared.instr.Instr.TheVariants as instr
use Rattle.code_sweep.specs.declared.item.Item.{Item}
use Rattle.code_sweep.specs.declared.item.Item.TheVariants.{Call, Ret, Plain, ReturnUnit, CallUnit}
use Rattle.code_sweep.specs.declared.item.Placed.{Placed}
use Rattle.taint_flow.specs.Label.{Label, IsAtMost, left_by}
use Rattle.taint_flow.specs.Flow.{address_after, Leads, left_behind, falls_through, instruction_falls, instruction_target, item_target, said_behind}
use Rattle.taint_flow.specs.Calls.{is_call, instruction_is_call}
use Rattle.conf_verify.specs.Rules.{is_word, may_end, instruction_ends}
use Rattle.ni_laws.specs.Agreement.{LabelledCode, Equal, AtItem}
use Rattle.ni_laws.proofs.Registers.{weaker}
use Rattle.ni_laws.proofs.Rows.{Lands}
use Rattle.ni_laws.proofs.Items.{Facts, Next, next_item, good_target, IsWordItem, word_length}

-- an instruction behind which another is reached neither ends its procedure nor calls
falls_on : (ins : Instr) → instruction_falls ins ≡ true → (instruction_ends ins ≡ false) × (instruction_is_call ins ≡ false)
falls_on (Jmp rel) e = absurd (true≢false (sym e))
falls_on Ud2 e = absurd (true≢false (sym e))
falls_on (instr.Call rel) e = absurd (true≢false (sym e))
falls_on _ e = (refl, refl)

-- an item behind which something is said is a word, and neither ends a procedure nor calls
said_by_word : (item : Item) (l : Label) → said_behind item ≡ Some l → is_word item ≡ true
said_by_word (Call bits) l e = refl
said_by_word (Ret bit) l e = refl
said_by_word (Plain i) l e = absurd (none-some l e)
said_by_word (ReturnUnit bit) l e = absurd (none-some l e)
said_by_word (CallUnit r bits) l e = absurd (none-some l e)

word_goes_on : (item : Item) → is_word item ≡ true → (may_end item ≡ false) × (is_call item ≡ false)
word_goes_on (Call bits) e = (refl, refl)
word_goes_on (Ret bit) e = (refl, refl)
word_goes_on (Plain i) e = absurd (true≢false (sym e))
word_goes_on (ReturnUnit bit) e = absurd (true≢false (sym e))
word_goes_on (CallUnit r bits) e = absurd (true≢false (sym e))

behind_word : (place at : ℕ) (q : Placed) → at ≡ code_base + place + 8 → q.at ≡ place → q.len ≡ 8 → at ≡ address_after q
behind_word place at q here there long = omega arith

module _ (code : LabelledCode) (facts : Facts code) (s t : Registers) where
  -- the cores behind an instruction stand at the start of an item again: at the one behind it ..
  landed_behind : (i : ℕ) (p : Placed) (ins : Instr) → slice_get code.items i ≡ Some p → p.item ≡ Plain ins →
      instruction_falls ins ≡ true → s.pc ≡ address_after p → Equal (left_by ins (code.labels i)) s t → AtItem code s t
  landed_behind i p ins stands is falls here e =
      let on = falls_on ins falls in
      let next : Next code.items i p = next_item code facts i p stands (ap may_end is ∙ on.0) (ap is_call is ∙ on.1) in
      let leads : Leads code.items i (suc i) = (p, stands, inl (ap falls_through is ∙ falls, refl)) in
      let below : IsAtMost (left_behind p.item (code.labels i)) (code.labels (suc i)) = facts.meets.leads i (suc i) p stands leads in
      let P : Item → Type 0 = λ item. IsAtMost (left_behind item (code.labels i)) (code.labels (suc i)) in
      record {
        i = suc i;
        p = next.q;
        stands = next.stands;
        no_word = next.no_word;
        here = here ∙ sym next.here;
        equal = weaker (left_by ins (code.labels i)) (code.labels (suc i)) s t (subst P is below) e;
      }

  -- .. or at its target
  landed_at : (i : ℕ) (p : Placed) (ins : Instr) → slice_get code.items i ≡ Some p → p.item ≡ Plain ins →
      instruction_target ins (address_after p) ≡ Some s.pc → Equal (left_by ins (code.labels i)) s t → AtItem code s t
  landed_at i p ins stands is target e =
      let jumps = ap (λ item. item_target item (address_after p)) is ∙ target in
      let good = good_target code.items i s.pc (λ none. facts.jumps p.at (i, p, s.pc, stands, refl, jumps, none)) in
      let leads : Leads code.items i good.0 = (p, stands, inr (good.1, good.2, jumps ∙ ap (λ n. Some n) (sym good.3))) in
      let below : IsAtMost (left_behind p.item (code.labels i)) (code.labels good.0) = facts.meets.leads i good.0 p stands leads in
      let P : Item → Type 0 = λ item. IsAtMost (left_behind item (code.labels i)) (code.labels good.0) in
      record {
        i = good.0;
        p = good.1;
        stands = good.2;
        no_word = good.4;
        here = sym good.3;
        equal = weaker (left_by ins (code.labels i)) (code.labels good.0) s t (subst P is below) e;
      }

  pub landed : (i : ℕ) (p : Placed) (ins : Instr) → slice_get code.items i ≡ Some p → p.item ≡ Plain ins →
      Lands ins (address_after p) s.pc → Equal (left_by ins (code.labels i)) s t → AtItem code s t
  landed i p ins stands is (inl behind) e = landed_behind i p ins stands is behind.0 behind.1 e
  landed i p ins stands is (inr target) e = landed_at i p ins stands is target e

  -- behind a word the cores stand at an item, with what the word says
  pub landed_word : (j : ℕ) (q : Placed) (l : Label) → slice_get code.items j ≡ Some q → said_behind q.item ≡ Some l →
      s.pc ≡ address_after q → Equal l s t → AtItem code s t
  landed_word j q l stands said here e =
      let on = word_goes_on q.item (said_by_word q.item l said) in
      let next : Next code.items j q = next_item code facts j q stands on.0 on.1 in
      record {
        i = suc j;
        p = next.q;
        stands = next.stands;
        no_word = next.no_word;
        here = here ∙ sym next.here;
        equal = weaker l (code.labels (suc j)) s t (facts.meets.words j q l stands said) e;
      }

  -- .. also where the word is known by its place
  pub landed_behind_word : (item : Item) (place : ℕ) (l : Label) → IsWordItem code item place → said_behind item ≡ Some l →
      s.pc ≡ code_base + place + 8 → Equal l s t → AtItem code s t
  landed_behind_word item place l w said here e =
      let says : said_behind w.q.item ≡ Some l = ap said_behind w.is ∙ said in
      let long : w.q.len ≡ 8 = word_length code facts w.j w.q w.stands (said_by_word w.q.item l says) in
      landed_word w.j w.q l w.stands says (behind_word place s.pc w.q here w.at long) e
