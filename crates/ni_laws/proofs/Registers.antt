-- Registers and flags that are equal under a label, after writes that are equal where the new label says so.
use Rattle.std.proofs.Common.{◌≡◌, ◌≢◌, ℕ, ◌<◌, Bool, true, false, ◌||◌, ◌&&◌, not, get_or, refl, sym, ◌∙◌, ap, arith, nat_eq, Some, inl, inr}
use Rattle.std.proofs.lemmas.List.{get_or-set_same, get_or-set_other, length-set}
use Rattle.std.proofs.lemmas.Bool.{cases_eq, eq-eqb, ne_eqb, cases_Bool, true≢false}
use Rattle.cv_word.specs.declared.registers.Flags.{Flags}
use Rattle.cv_word.specs.declared.registers.Registers.{Registers}
use Rattle.x64_decode.specs.Spelling.{number}
use Rattle.x64_decode.specs.declared.instr.Reg.{Reg}
use Rattle.x64_decode.specs.declared.instr.Reg.TheVariants as reg
use Rattle.x64_decode.proofs.Tables.{number_below}
use Rattle.taint_flow.specs.Label.{Label, flags, taint, set, set_reg, set_where, IsAtMost}
use Rattle.x64_alu.specs.CoreStep.{value, put, put_where, flagged, moved_to}
use Rattle.std.specs.Int.{bit_at}
use Rattle.std.proofs.lemmas.Bool.{or_parts}
use Rattle.code_sweep.specs.declared.item.Item.TheVariants.{ReturnUnit}
use Rattle.taint_flow.specs.Label.{entry_label, return_label}
use Rattle.taint_flow.specs.Flow.{passes_private, returns_private}
use Rattle.ni_laws.specs.Agreement.{HasSixteen, EqualUnder, Equal, inside_label}

-- a label at the name that was set, and at another
pub set_same : (l : Label) (name k : ℕ) (b : Bool) → k ≡ name → set name b l k ≡ b
set_same l name k b e = rw (eq-eqb k name e)

pub set_other : (l : Label) (name k : ℕ) (b : Bool) → k ≢ name → set name b l k ≡ l k
set_other l name k b e = rw (ne_eqb k name e)

pub sixteen_put : (dst : Reg) (v : ℕ) (s : Registers) → HasSixteen s → HasSixteen (put dst v s)
sixteen_put dst v s h = length-set s.r (number dst) v ∙ h

-- what a register holds after a write of one
pub value_same : (s : Registers) (dst r : Reg) (v : ℕ) → HasSixteen s → number r ≡ number dst → value (put dst v s) r ≡ v
value_same s dst r v h e = ap (λ k. get_or (put dst v s).r k 0) e ∙ get_or-set_same s.r (number dst) v 0 (omega (arith, number_below dst, h))

pub value_other : (s : Registers) (dst r : Reg) (v : ℕ) → number r ≢ number dst → value (put dst v s) r ≡ value s r
value_other s dst r v e = get_or-set_other s.r (number dst) (number r) v 0 e

put_registers : (l : Label) (s t : Registers) (dst : Reg) (b : Bool) (v w : ℕ) → EqualUnder l s t → (b ≡ false → v ≡ w) →
    (r : Reg) → taint (set_reg dst b l) r ≡ false → value (put dst v s) r ≡ value (put dst w t) r
put_registers l s t dst b v w e same r h =
    elim (cases_eq (number r) (number dst)) [
      | inl here ↦ value_same s dst r v e.mine here ∙ same (sym (set_same l (number dst) (number r) b here) ∙ h) ∙ sym (value_same t dst r w e.yours here)
      | inr there ↦ value_other s dst r v there ∙ e.registers r (sym (set_other l (number dst) (number r) b there) ∙ h) ∙ sym (value_other t dst r w there)
    ]

-- one register is written
pub equal_put : (l : Label) (s t : Registers) (dst : Reg) (b : Bool) (v w : ℕ) → EqualUnder l s t → (b ≡ false → v ≡ w) →
    EqualUnder (set_reg dst b l) (put dst v s) (put dst w t)
equal_put l s t dst b v w e same = record {
  mine = sixteen_put dst v s e.mine;
  yours = sixteen_put dst w t e.yours;
  registers = put_registers l s t dst b v w e same;
  flags = λ h. e.flags (sym (set_other l (number dst) flags b (omega (arith, number_below dst))) ∙ h);
  counters = e.counters;
}

-- one register is written where a test holds
pub equal_put_where : (test : Bool) (l : Label) (s t : Registers) (dst : Reg) (b : Bool) (v w : ℕ) → EqualUnder l s t → (b ≡ false → v ≡ w) →
    EqualUnder (set_where test dst b l) (put_where test dst v s) (put_where test dst w t)
equal_put_where true l s t dst b v w e same = equal_put l s t dst b v w e same
equal_put_where false l s t dst b v w e same = e

-- the flags are written
pub equal_flagged : (l : Label) (s t : Registers) (b : Bool) (f g : Flags) → EqualUnder l s t → (b ≡ false → f ≡ g) →
    EqualUnder (set flags b l) (flagged f s) (flagged g t)
equal_flagged l s t b f g e same = record {
  mine = e.mine;
  yours = e.yours;
  registers = λ r h. e.registers r (sym (set_other l flags (number r) b (omega (arith, number_below r))) ∙ h);
  flags = λ h. same (sym (set_same l flags flags b refl) ∙ h);
  counters = e.counters;
}

-- a label that leaves less public asks for less
pub public_below : (l m : Label) (k : ℕ) → IsAtMost l m → m k ≡ false → l k ≡ false
public_below l m k below h =
    elim (cases_Bool (l k)) [ inl hidden ↦ absurd (true≢false (sym (below k hidden) ∙ h)) | inr public ↦ public ]

pub equal_below : (l m : Label) (s t : Registers) → IsAtMost l m → EqualUnder l s t → EqualUnder m s t
equal_below l m s t below e = record {
  mine = e.mine;
  yours = e.yours;
  registers = λ r h. e.registers r (public_below l m (number r) below h);
  flags = λ h. e.flags (public_below l m flags below h);
  counters = e.counters;
}

-- one register is written from itself, where a test holds: its label stays
set_own : (l : Label) (r : Reg) → IsAtMost (set_reg r (taint l r) l) l
set_own l r k h =
    elim (cases_eq k (number r)) [
      | inl here ↦ ap l here ∙ sym (set_same l (number r) k (taint l r) here) ∙ h
      | inr there ↦ sym (set_other l (number r) k (taint l r) there) ∙ h
    ]

pub equal_put_own : (l : Label) (s t : Registers) (r : Reg) (v w : ℕ) → EqualUnder l s t → (taint l r ≡ false → v ≡ w) → EqualUnder l (put r v s) (put r w t)
equal_put_own l s t r v w e same = equal_below (set_reg r (taint l r) l) l (put r v s) (put r w t) (set_own l r) (equal_put l s t r (taint l r) v w e same)

pub equal_put_own_where : (test : Bool) (l : Label) (s t : Registers) (r : Reg) (v w : ℕ) → EqualUnder l s t → (taint l r ≡ false → v ≡ w) →
    EqualUnder l (put_where test r v s) (put_where test r w t)
equal_put_own_where true l s t r v w e same = equal_put_own l s t r v w e same
equal_put_own_where false l s t r v w e same = e

-- a register's label is that from before the flags were set
pub under_flags : (l : Label) (r : Reg) (b : Bool) → taint (set flags b l) r ≡ false → taint l r ≡ false
under_flags l r b h = sym (set_other l flags (number r) b (omega (arith, number_below r))) ∙ h

-- the program counters are set to one address
pub equal_moved : (l : Label) (s t : Registers) (a b : ℕ) → EqualUnder l s t → a ≡ b → EqualUnder l (moved_to a s) (moved_to b t)
equal_moved l s t a b e same = record {
  mine = e.mine;
  yours = e.yours;
  registers = e.registers;
  flags = e.flags;
  counters = same;
}

-- ---- rsp beside the label, and what a unit's own instructions write

-- a write of a register that the label leaves private
pub equal_put_hidden : (l : Label) (s t : Registers) (r : Reg) (v w : ℕ) → taint l r ≡ true → EqualUnder l s t → EqualUnder l (put r v s) (put r w t)
equal_put_hidden l s t r v w hidden e = equal_put_own l s t r v w e (λ h. absurd (true≢false (sym hidden ∙ h)))

-- a write of the flags, where the label leaves them private
pub equal_flagged_hidden : (l : Label) (s t : Registers) (f g : Flags) → l flags ≡ true → EqualUnder l s t → EqualUnder l (flagged f s) (flagged g t)
equal_flagged_hidden l s t f g hidden e = record {
  mine = e.mine;
  yours = e.yours;
  registers = e.registers;
  flags = λ h. absurd (true≢false (sym hidden ∙ h));
  counters = e.counters;
}

pub moved : (l : Label) (s t : Registers) (a b : ℕ) → Equal l s t → a ≡ b → Equal l (moved_to a s) (moved_to b t)
moved l s t a b e same = record { under = equal_moved l s t a b e.under same; stack = e.stack }

pub weaker : (l m : Label) (s t : Registers) → IsAtMost l m → Equal l s t → Equal m s t
weaker l m s t below e = record { under = equal_below l m s t below e.under; stack = e.stack }

-- rsp is written
pub stack_put : (l : Label) (s t : Registers) (v w : ℕ) → v ≡ w → Equal l s t → Equal l (put reg.Rsp v s) (put reg.Rsp w t)
stack_put l s t v w same e = record {
  under = equal_put_own l s t reg.Rsp v w e.under (λ h. same);
  stack = value_same s reg.Rsp reg.Rsp v e.under.mine refl ∙ same ∙ sym (value_same t reg.Rsp reg.Rsp w e.under.yours refl);
}

-- another register is written that the label leaves private
pub hidden_put : (l : Label) (s t : Registers) (r : Reg) (v w : ℕ) → taint l r ≡ true → number reg.Rsp ≢ number r → Equal l s t → Equal l (put r v s) (put r w t)
hidden_put l s t r v w hidden other e = record {
  under = equal_put_hidden l s t r v w hidden e.under;
  stack = value_other s r reg.Rsp v other ∙ e.stack ∙ sym (value_other t r reg.Rsp w other);
}

pub hidden_flagged : (l : Label) (s t : Registers) (f g : Flags) → l flags ≡ true → Equal l s t → Equal l (flagged f s) (flagged g t)
hidden_flagged l s t f g hidden e = record { under = equal_flagged_hidden l s t f g hidden e.under; stack = e.stack }

-- inside a unit less is public
inside_above : (l : Label) → IsAtMost l (inside_label l)
inside_above l k h =
    elim (cases_eq k 10) [
      | inl ten ↦ set_same (set 11 true (set 16 true l)) 10 k true ten
      | inr n ↦ set_other (set 11 true (set 16 true l)) 10 k true n ∙ elim (cases_eq k 11) [
        | inl eleven ↦ set_same (set 16 true l) 11 k true eleven
        | inr m ↦ set_other (set 16 true l) 11 k true m ∙ elim (cases_eq k 16) [
          | inl sixteen ↦ set_same l 16 k true sixteen
          | inr o ↦ set_other l 16 k true o ∙ h
        ]
      ]
    ]

pub inside : (l : Label) (s t : Registers) → Equal l s t → Equal (inside_label l) s t
inside l s t e = weaker l (inside_label l) s t (inside_above l) e

-- ---- behind a call word and behind a return word

not_passed : (t b : Bool) → t && not b ≡ false → b ≡ false → t ≡ false
not_passed true true h e = e
not_passed true false h e = h
not_passed false b h e = refl

abbrev pub clear : ℕ → ℕ → Bool
clear bits k = not (nat_eq (bit_at bits k) 1)

-- the arguments whose bits are clear are public where none of them is passed private
pub record Passes (bits : ℕ) (l : Label) : Type 0 where
  pub rdi : nat_eq (bit_at bits 0) 1 ≡ false → taint l reg.Rdi ≡ false
  pub rsi : nat_eq (bit_at bits 1) 1 ≡ false → taint l reg.Rsi ≡ false
  pub rdx : nat_eq (bit_at bits 2) 1 ≡ false → taint l reg.Rdx ≡ false
  pub rcx : nat_eq (bit_at bits 3) 1 ≡ false → taint l reg.Rcx ≡ false

pub passes : (bits : ℕ) (l : Label) → passes_private (Some bits) l ≡ false → Passes bits l
passes bits l h =
    let a = or_parts (((taint l reg.Rdi && clear bits 0) || (taint l reg.Rsi && clear bits 1)) || (taint l reg.Rdx && clear bits 2)) (taint l reg.Rcx && clear bits 3) h in
    let b = or_parts ((taint l reg.Rdi && clear bits 0) || (taint l reg.Rsi && clear bits 1)) (taint l reg.Rdx && clear bits 2) a.0 in
    let c = or_parts (taint l reg.Rdi && clear bits 0) (taint l reg.Rsi && clear bits 1) b.0 in
    record {
      rdi = not_passed _ _ c.0;
      rsi = not_passed _ _ c.1;
      rdx = not_passed _ _ b.1;
      rcx = not_passed _ _ a.1;
    }

entry_registers : (bits : ℕ) (l : Label) (s t : Registers) → Passes bits l → Equal l s t → (r : Reg) → taint (entry_label bits) r ≡ false → value s r ≡ value t r
unfolding entry_label
entry_registers bits l s t p e reg.Rdi h = e.under.registers reg.Rdi (p.rdi h)
entry_registers bits l s t p e reg.Rsi h = e.under.registers reg.Rsi (p.rsi h)
entry_registers bits l s t p e reg.Rdx h = e.under.registers reg.Rdx (p.rdx h)
entry_registers bits l s t p e reg.Rcx h = e.under.registers reg.Rcx (p.rcx h)
entry_registers bits l s t p e reg.Rsp h = e.stack
entry_registers bits l s t p e _ h = absurd (true≢false h)

-- what a call hands over
pub entered : (bits : ℕ) (l : Label) (s t : Registers) → passes_private (Some bits) l ≡ false → Equal l s t → Equal (entry_label bits) s t
unfolding entry_label
entered bits l s t keeps e = record {
  under = record {
    mine = e.under.mine;
    yours = e.under.yours;
    registers = entry_registers bits l s t (passes bits l keeps) e;
    flags = λ h. absurd (true≢false h);
    counters = e.under.counters;
  };
  stack = e.stack;
}

-- what a return hands back
and_true : (b : Bool) → b && true ≡ b
and_true true = refl
and_true false = refl

returned_rax : (bit : ℕ) (b : Bool) → bit < 2 → nat_eq bit 0 && b ≡ false → nat_eq bit 1 ≡ false → b ≡ false
returned_rax bit true small keeps h =
    let other : bit ≢ 1 = λ e. true≢false (sym (eq-eqb bit 1 e) ∙ h) in
    let zero : bit ≡ 0 = omega arith in
    absurd (true≢false (sym (eq-eqb bit 0 zero) ∙ sym (and_true (nat_eq bit 0)) ∙ keeps))
returned_rax bit false small keeps h = refl

return_registers : (bit : ℕ) (l : Label) (s t : Registers) → bit < 2 → returns_private (ReturnUnit bit) l ≡ false → Equal l s t →
    (r : Reg) → taint (return_label bit) r ≡ false → value s r ≡ value t r
unfolding return_label
return_registers bit l s t small keeps e reg.Rax h = e.under.registers reg.Rax (returned_rax bit (taint l reg.Rax) small keeps h)
return_registers bit l s t small keeps e reg.Rsp h = e.stack
return_registers bit l s t small keeps e _ h = absurd (true≢false h)

pub returned : (bit : ℕ) (l : Label) (s t : Registers) → bit < 2 → returns_private (ReturnUnit bit) l ≡ false → Equal l s t → Equal (return_label bit) s t
unfolding return_label
returned bit l s t small keeps e = record {
  under = record {
    mine = e.under.mine;
    yours = e.under.yours;
    registers = return_registers bit l s t small keeps e;
    flags = λ h. absurd (true≢false h);
    counters = e.under.counters;
  };
  stack = e.stack;
}
