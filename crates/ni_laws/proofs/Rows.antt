-- The law of one instruction: from states that are equal under a label it doesn't break, both runs go on to states that are
-- equal under the label that it leaves, or both fault alike. One or two lines for each row of the instruction table.
use Rattle.std.proofs.Common.{◌≡◌, ℕ, ◌%◌, ◌^◌, Bool, true, false, ◌||◌, List, Option, Some, None, refl, ap, subst, cond, ◌⊎◌, inl, inr, ℤ}
use Rattle.std.specs.Int.RustNames.{bit_and}
use Rattle.cv_word.specs.Words.{widened, sign_extended, word_bytes, spliced}
use Rattle.cv_word.specs.MemoryMap.{is_mapped, operand_offset}
use Rattle.cv_word.specs.Arithmetic.{flags_of_bits, negated, flags_negated, inverted, multiplied, signs_of, divided, no_flags}
use Rattle.cv_word.specs.declared.registers.Flags.{Flags}
use Rattle.cv_word.specs.declared.registers.Registers.{Registers}
use Rattle.x64_decode.specs.declared.instr.Reg.{Reg}
use Rattle.x64_decode.specs.declared.instr.Reg.TheVariants.{Rax, Rcx, Rdx, Rsp}
use Rattle.x64_decode.specs.declared.instr.Cond.{Cond}
use Rattle.x64_decode.specs.declared.instr.Seg.{Seg}
use Rattle.x64_decode.specs.declared.instr.Seg.TheVariants.{Fs, Gs}
use Rattle.x64_decode.specs.declared.instr.Mem.{Mem}
use Rattle.x64_decode.specs.declared.instr.Instr.{Instr}
use Rattle.x64_decode.specs.declared.instr.Instr.TheVariants.{Mov, Alu, Test, Imul, Not, Neg, Idiv, Cqo, ShiftImm, ShiftCl, Movsxd, Movzx8, Movsx8, Setcc, Cmov, MovImm32, MovImm64, MovImmS, AluImm, Load, LoadZx8, LoadSx8, LoadSx32, Store, CmpFlat, JmpR10, CallR10, Call, Jmp, Jcc, Ud2, Nop}
use Rattle.code_sweep.specs.Listing.{StandsAlone}
use Rattle.taint_flow.specs.Label.{Label, flags, taint, set, set_reg, segment_taint, left_by}
use Rattle.taint_flow.specs.Flow.{instruction_falls, instruction_target, memory_of, base_is_private, instruction_stores_private, shows_private, instruction_branches_on_private, instruction_divides_private}
use Rattle.taint_flow.specs.Calls.{instruction_is_call}
use Rattle.cv_word.specs.declared.fault.FaultKind.{FaultKind}
use Rattle.cv_word.specs.declared.fault.FaultKind.TheVariants as fault
use Rattle.cv_word.specs.Memory.{Memory}
use Rattle.two_segments.specs.Access.{byte_count, loaded, stored}
use Rattle.x64_alu.specs.CoreStep.{Effect, goes, faults, value, put, put_where, flagged, moved_to, holds, alu_result, alu_flags, shift_result, with_low_byte, offset_of, goes_on, after_division, after_load, load_into, after_store, target_of, executed}
use Rattle.x64_alu.specs.CoreStep as step
use Rattle.ni_laws.specs.Agreement.{EqualUnder, memory, Two}
use Rattle.ni_laws.proofs.Sides.{my_memory, your_memory}
use Rattle.ni_laws.proofs.Registers.{equal_put, equal_put_where, equal_put_own, equal_put_own_where, under_flags, equal_flagged, equal_moved}
use Rattle.std.proofs.lemmas.Bool.{or_parts, true≢false}

-- where an instruction goes on: behind itself, or at its target
abbrev pub Lands : Instr → ℕ → ℕ → Type 0
Lands i next there = ((instruction_falls i ≡ true) × (there ≡ next)) ⊎ (instruction_target i next ≡ Some there)

-- Two effects of an instruction: the states behind it are equal under a label, and so are size, code and public memory; or
-- the fault is the same.
pub data Alike (i : Instr) (next : ℕ) (l : Label) (code : List ℕ) (two : Two) : Effect → Effect → Type 0 where
  both_go : (s t : Registers) (public mine yours : List ℕ) → EqualUnder l s t → Lands i next s.pc →
      Alike i next l code two (goes s (memory two.common.size code public mine)) (goes t (memory two.common.size code public yours))
  both_fault : (kind : FaultKind) → Alike i next l code two (faults kind) (faults kind)

-- no rule on labels is broken by the instruction
pub record KeepsRules (i : Instr) (l : Label) : Type 0 where
  pub address : base_is_private (memory_of i) l ≡ false
  pub stores : instruction_stores_private i l ≡ false
  pub branches : instruction_branches_on_private i l ≡ false
  pub divides : instruction_divides_private i l ≡ false
  pub stack : taint (left_by i l) Rsp ≡ false

-- Two loads at one offset: both are refused, or both give a number, the same one where the segment is public.
data LoadsAlike (private : Bool) : Option ℕ → Option ℕ → Type 0 where
  both_refused : LoadsAlike private None None
  both_loaded : (v w : ℕ) → (private ≡ false → v ≡ w) → LoadsAlike private (Some v) (Some w)

loads_where : (test private : Bool) (v w : ℕ) → (private ≡ false → v ≡ w) → LoadsAlike private (cond test (Some v) None) (cond test (Some w) None)
loads_where true private v w e = both_loaded v w e
loads_where false private v w e = both_refused

-- Two stores at one offset: both are refused, or both are done and the public segments stay equal.
pub data StoresAlike (code : List ℕ) (two : Two) : Option Memory → Option Memory → Type 0 where
  both_kept : StoresAlike code two None None
  both_stored : (public mine yours : List ℕ) → StoresAlike code two (Some (memory two.common.size code public mine)) (Some (memory two.common.size code public yours))

stores_where : (code : List ℕ) (two : Two) (test : Bool) (public mine yours : List ℕ) →
    StoresAlike code two (cond test (Some (memory two.common.size code public mine)) None) (cond test (Some (memory two.common.size code public yours)) None)
stores_where code two true public mine yours = both_stored public mine yours
stores_where code two false public mine yours = both_kept

-- what the operands have in common where what the row joins is public
both : (l : Label) (s t : Registers) (a b : Reg) (f : ℕ → ℕ → ℕ) → EqualUnder l s t → taint l a || taint l b ≡ false → f (value s a) (value s b) ≡ f (value t a) (value t b)
both l s t a b f e h = let p = or_parts (taint l a) (taint l b) h in let x = e.registers a p.0 in let y = e.registers b p.1 in cc

both_flags : (l : Label) (s t : Registers) (a b : Reg) (f : ℕ → ℕ → Flags) → EqualUnder l s t → taint l a || taint l b ≡ false → f (value s a) (value s b) ≡ f (value t a) (value t b)
both_flags l s t a b f e h = let p = or_parts (taint l a) (taint l b) h in let x = e.registers a p.0 in let y = e.registers b p.1 in cc

-- a division's operands are equal where they are all public
operands : (l : Label) (s t : Registers) (r : Reg) → EqualUnder l s t → taint l Rax || (taint l Rdx || taint l r) ≡ false →
    divided (value s Rdx) (value s Rax) (value s r) ≡ divided (value t Rdx) (value t Rax) (value t r)
operands l s t r e h =
    let p = or_parts (taint l Rax) (taint l Rdx || taint l r) h in let q = or_parts (taint l Rdx) (taint l r) p.1 in
    let x = e.registers Rax p.0 in let y = e.registers Rdx q.0 in let z = e.registers r q.1 in cc

-- a jump on a condition goes on behind itself or at its target
lands_either : (c : Cond) (rel : ℤ) (next : ℕ) (test : Bool) → Lands (Jcc c rel) next (cond test (target_of next rel) next)
lands_either c rel next true = inr refl
lands_either c rel next false = inl (refl, refl)

-- ---- one instruction in two configurations

module _ (code : List ℕ) (two : Two) where
  loads : (seg : Seg) (offset width : ℕ) →
      LoadsAlike (segment_taint seg) (loaded (my_memory code two) seg offset width) (loaded (your_memory code two) seg offset width)
  unfolding loaded
  loads Fs offset width = loads_where (is_mapped two.common.size offset width) false _ _ (λ h. refl)
  loads Gs offset width = loads_where (is_mapped two.common.size offset width) true _ _ (λ h. cc)

  pub stores : (seg : Seg) (offset width v w : ℕ) (private : Bool) → shows_private seg private ≡ false → (private ≡ false → v ≡ w) →
      StoresAlike code two (stored (my_memory code two) seg offset width v) (stored (your_memory code two) seg offset width w)
  unfolding stored
  stores Fs offset width v w private hidden same =
      let P : ℕ → Type 0 = λ n. StoresAlike code two
      (stored (my_memory code two) Fs offset width v) (stored (your_memory code two) Fs offset width n) in
      subst P (same hidden)
      (stores_where code two (is_mapped two.common.size offset width) (spliced two.common.public offset (word_bytes width v)) two.mine.segment two.yours.segment)
  stores Gs offset width v w private hidden same =
      stores_where code two (is_mapped two.common.size offset width) two.common.public
      (spliced two.mine.segment offset (word_bytes width v)) (spliced two.yours.segment offset (word_bytes width w))

  module _ (next : ℕ) where
    -- both go on at the next instruction
    on : (i : Instr) (l : Label) (s t : Registers) → instruction_falls i ≡ true → EqualUnder l s t →
        Alike i next l code two (goes_on next (my_memory code two) s) (goes_on next (your_memory code two) t)
    on i l s t falls e =
        both_go (moved_to next s) (moved_to next t) two.common.public two.mine.segment two.yours.segment (equal_moved l s t next next e refl) (inl (falls, refl))

    module _ (l : Label) (s t : Registers) (e : EqualUnder l s t) where
      after_loads : (i : Instr) (private : Bool) (o p : Option ℕ) (extend : ℕ → ℕ) (dst : Reg) → instruction_falls i ≡ true → LoadsAlike private o p →
          Alike i next (set_reg dst private l) code two (after_load o extend dst next (my_memory code two) s) (after_load p extend dst next (your_memory code two) t)
      after_loads i private o p extend dst falls both_refused = both_fault fault.Memory
      after_loads i private o p extend dst falls (both_loaded v w same) =
          on i (set_reg dst private l) (put dst (extend v) s) (put dst (extend w) t) falls (equal_put l s t dst private (extend v) (extend w) e (λ h. ap extend (same h)))

      -- a load, from registers whose base is equal
      load_row : (i : Instr) (dst : Reg) (mem : Mem) (width : ℕ) (extend : ℕ → ℕ) → instruction_falls i ≡ true → taint l mem.base ≡ false →
          Alike i next (set_reg dst (segment_taint mem.seg) l) code two
          (load_into dst mem width extend next (my_memory code two) s) (load_into dst mem width extend next (your_memory code two) t)
      load_row i dst mem width extend falls base =
          let P : ℕ → Type 0 = λ offset. Alike i next (set_reg dst (segment_taint mem.seg) l) code two
          (load_into dst mem width extend next (my_memory code two) s)
          (after_load (loaded (your_memory code two) mem.seg offset width) extend dst next (your_memory code two) t) in
          subst P (ap (λ v. operand_offset v mem.disp) (e.registers mem.base base))
          (after_loads i (segment_taint mem.seg) _ _ extend dst falls (loads mem.seg (offset_of s mem) width))

      after_stores : (i : Instr) (m n : Option Memory) → instruction_falls i ≡ true → StoresAlike code two m n →
          Alike i next l code two (after_store m next s) (after_store n next t)
      after_stores i m n falls both_kept = both_fault fault.Memory
      after_stores i m n falls (both_stored public mine yours) =
          both_go (moved_to next s) (moved_to next t) public mine yours (equal_moved l s t next next e refl) (inl (falls, refl))

      store_row : (i : Instr) (mem : Mem) (width : ℕ) (src : Reg) → instruction_falls i ≡ true → taint l mem.base ≡ false → shows_private mem.seg (taint l src) ≡ false →
          Alike i next l code two
          (after_store (stored (my_memory code two) mem.seg (offset_of s mem) width (value s src)) next s)
          (after_store (stored (your_memory code two) mem.seg (offset_of t mem) width (value t src)) next t)
      store_row i mem width src falls base shows =
          let P : ℕ → Type 0 = λ offset. Alike i next l code two
          (after_store (stored (my_memory code two) mem.seg (offset_of s mem) width (value s src)) next s)
          (after_store (stored (your_memory code two) mem.seg offset width (value t src)) next t) in
          subst P (ap (λ v. operand_offset v mem.disp) (e.registers mem.base base))
          (after_stores i _ _ falls (stores mem.seg (offset_of s mem) width (value s src) (value t src) (taint l src) shows (e.registers src)))

      -- a division of equal operands
      division : (i : Instr) (a b : Bool) (o : Option (ℕ × ℕ)) → instruction_falls i ≡ true →
          Alike i next (set_reg Rdx b (set_reg Rax a (set flags true l))) code two
          (after_division o next (my_memory code two) s) (after_division o next (your_memory code two) t)
      division i a b None falls = both_fault fault.Divide
      division i a b (Some q) falls =
          on i _ _ _ falls
          (equal_put _ _ _ Rdx b q.1 q.1 (equal_put _ _ _ Rax a q.0 q.0 (equal_flagged l s t true no_flags no_flags e (λ h. refl)) (λ h. refl)) (λ h. refl))

      -- THE LAW OF ONE INSTRUCTION
      pub row : (i : Instr) → StandsAlone i → instruction_is_call i ≡ false → KeepsRules i l →
          Alike i next (left_by i l) code two (executed i next (my_memory code two) s) (executed i next (your_memory code two) t)
      unfolding executed left_by
      row (Mov wide dst src) alone calls keeps =
          on _ _ _ _ refl (equal_put l s t dst (taint l src) _ _ e (λ h. ap (λ v. cond wide v (v % 2 ^ 32)) (e.registers src h)))
      row (Alu op dst src) alone calls keeps =
          on _ _ _ _ refl
          (equal_put_where (step.is_written op) _ _ _ dst _ _ _ (equal_flagged l s t _ _ _ e (both_flags l s t dst src (alu_flags op) e)) (both l s t dst src (alu_result op) e))
      row (Test a b) alone calls keeps =
          on _ _ _ _ refl (equal_flagged l s t _ _ _ e (both_flags l s t a b (λ v w. flags_of_bits (bit_and v w)) e))
      row (Imul dst src) alone calls keeps =
          on _ _ _ _ refl (equal_put _ _ _ dst _ _ _ (equal_flagged l s t true no_flags no_flags e (λ h. refl)) (both l s t dst src multiplied e))
      row (Not r) alone calls keeps =
          on _ _ _ _ refl (equal_put_own l s t r _ _ e (λ h. ap inverted (e.registers r h)))
      row (Neg r) alone calls keeps =
          on _ _ _ _ refl
          (equal_put_own _ _ _ r _ _ (equal_flagged l s t (taint l r) _ _ e (λ h. ap flags_negated (e.registers r h))) (λ h. ap negated (e.registers r (under_flags l r (taint l r) h))))
      row (Idiv r) alone calls keeps =
          let P : Option (ℕ × ℕ) → Type 0 = λ o. Alike (Idiv r) next (left_by (Idiv r) l) code two
          (executed (Idiv r) next (my_memory code two) s) (after_division o next (your_memory code two) t) in
          subst P (operands l s t r e keeps.divides) (division _ _ _ (divided (value s Rdx) (value s Rax) (value s r)) refl)
      row Cqo alone calls keeps =
          on _ _ _ _ refl (equal_put l s t Rdx (taint l Rax) _ _ e (λ h. ap signs_of (e.registers Rax h)))
      row (ShiftImm op r count) alone calls keeps =
          on _ _ _ _ refl
          (equal_put_own _ _ _ r _ _ (equal_flagged l s t true no_flags no_flags e (λ h. refl)) (λ h. ap (λ v. shift_result op v count) (e.registers r (under_flags l r true h))))
      row (ShiftCl op r) alone calls keeps =
          on _ _ _ _ refl (equal_put _ _ _ r _ _ _ (equal_flagged l s t true no_flags no_flags e (λ h. refl)) (both l s t r Rcx (shift_result op) e))
      row (Movsxd dst src) alone calls keeps =
          on _ _ _ _ refl (equal_put l s t dst (taint l src) _ _ e (λ h. ap (sign_extended 4) (e.registers src h)))
      row (Movzx8 dst src) alone calls keeps =
          on _ _ _ _ refl (equal_put l s t dst (taint l src) _ _ e (λ h. ap (λ v. v % 2 ^ 8) (e.registers src h)))
      row (Movsx8 dst src) alone calls keeps =
          on _ _ _ _ refl (equal_put l s t dst (taint l src) _ _ e (λ h. ap (sign_extended 1) (e.registers src h)))
      row (Setcc cond' r) alone calls keeps =
          on _ _ _ _ refl (equal_put l s t r _ _ _ e (λ h.
          let p = or_parts (taint l r) (l flags) h in let x = e.registers r p.0 in let y = e.flags p.1 in cc))
      row (Cmov cond' dst src) alone calls keeps =
          on _ _ _ _ refl (equal_put l s t dst _ _ _ e (λ h.
          let p = or_parts (taint l dst) (taint l src || l flags) h in let q = or_parts (taint l src) (l flags) p.1 in
          let x = e.registers dst p.0 in let y = e.registers src q.0 in let z = e.flags q.1 in cc))
      row (MovImm32 dst imm) alone calls keeps =
          on _ _ _ _ refl (equal_put l s t dst false imm imm e (λ h. refl))
      row (MovImm64 dst imm) alone calls keeps =
          on _ _ _ _ refl (equal_put l s t dst false imm imm e (λ h. refl))
      row (MovImmS dst imm) alone calls keeps =
          on _ _ _ _ refl (equal_put l s t dst false _ _ e (λ h. refl))
      row (AluImm op dst imm) alone calls keeps =
          on _ _ _ _ refl
          (equal_put_own_where (step.is_written op) _ _ _ dst _ _ (equal_flagged l s t (taint l dst) _ _ e (λ h. ap (λ v. alu_flags op v (widened imm)) (e.registers dst h)))
          (λ h. ap (λ v. alu_result op v (widened imm)) (e.registers dst (under_flags l dst (taint l dst) h))))
      row (Load wide dst mem) alone calls keeps =
          load_row _ dst mem (cond wide 8 4) (λ v. v) refl keeps.address
      row (LoadZx8 dst mem) alone calls keeps =
          load_row _ dst mem 1 (λ v. v) refl keeps.address
      row (LoadSx8 dst mem) alone calls keeps =
          load_row _ dst mem 1 (sign_extended 1) refl keeps.address
      row (LoadSx32 dst mem) alone calls keeps =
          load_row _ dst mem 4 (sign_extended 4) refl keeps.address
      row (Store width mem src) alone calls keeps =
          store_row _ mem (byte_count width) src refl keeps.address keeps.stores
      row CmpFlat alone calls keeps = absurd alone
      row JmpR10 alone calls keeps = absurd alone
      row CallR10 alone calls keeps = absurd alone
      row (Call rel) alone calls keeps = absurd (true≢false calls)
      row (Jmp rel) alone calls keeps =
          both_go _ _ two.common.public two.mine.segment two.yours.segment (equal_moved l s t _ _ e refl) (inr refl)
      row (Jcc cond' rel) alone calls keeps =
          both_go _ _ two.common.public two.mine.segment two.yours.segment
          (equal_moved l s t _ _ e (ap (λ f. cond (holds cond' f) (target_of next rel) next) (e.flags keeps.branches)))
          (lands_either cond' rel next (holds cond' s.flags))
      row Ud2 alone calls keeps = both_fault fault.Undefined
      row Nop alone calls keeps = on _ _ _ _ refl e
