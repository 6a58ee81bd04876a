-- The tables of registers, conditions and operations, both ways.
use Rattle.std.proofs.Common.{◌≡◌, ℕ, ◌<◌, Bool, true, Option, Some, None, refl, sym, ◌∙◌, ap, arith, eqb}
use Rattle.std.proofs.lemmas.Bool.{agree_below_at, eqb-true}
use Rattle.x64_decode.specs.declared.instr.Reg.{Reg}
use Rattle.x64_decode.specs.declared.instr.Reg.TheVariants as reg
use Rattle.x64_decode.specs.declared.instr.Cond.{Cond}
use Rattle.x64_decode.specs.declared.instr.Cond.TheVariants as cond
use Rattle.x64_decode.specs.declared.instr.AluOp.{AluOp}
use Rattle.x64_decode.specs.declared.instr.AluOp.TheVariants as alu
use Rattle.x64_decode.specs.declared.instr.ShiftOp.{ShiftOp}
use Rattle.x64_decode.specs.declared.instr.ShiftOp.TheVariants as shift
use Rattle.x64_decode.specs.Spelling.{number, condition, alu_opcode, alu_extension, shift_extension}
use Rattle.x64_decode.specs.Reading.{reg_of, cond_of, alu_of_opcode, alu_of_extension, shift_of_extension}

pub reg_again : (r : Reg) → reg_of (number r) ≡ r
unfolding reg_of
reg_again reg.Rax = refl
reg_again reg.Rcx = refl
reg_again reg.Rdx = refl
reg_again reg.Rbx = refl
reg_again reg.Rsp = refl
reg_again reg.Rbp = refl
reg_again reg.Rsi = refl
reg_again reg.Rdi = refl
reg_again reg.Gpr8 = refl
reg_again reg.Gpr9 = refl
reg_again reg.Gpr10 = refl
reg_again reg.Gpr11 = refl
reg_again reg.Gpr12 = refl
reg_again reg.Gpr13 = refl
reg_again reg.Gpr14 = refl
reg_again reg.Gpr15 = refl

pub number_below : (r : Reg) → number r < 16
number_below reg.Rax = omega arith
number_below reg.Rcx = omega arith
number_below reg.Rdx = omega arith
number_below reg.Rbx = omega arith
number_below reg.Rsp = omega arith
number_below reg.Rbp = omega arith
number_below reg.Rsi = omega arith
number_below reg.Rdi = omega arith
number_below reg.Gpr8 = omega arith
number_below reg.Gpr9 = omega arith
number_below reg.Gpr10 = omega arith
number_below reg.Gpr11 = omega arith
number_below reg.Gpr12 = omega arith
number_below reg.Gpr13 = omega arith
number_below reg.Gpr14 = omega arith
number_below reg.Gpr15 = omega arith

pub cond_again : (c : Cond) → cond_of (condition c) ≡ Some c
unfolding cond_of
cond_again cond.O = refl
cond_again cond.No = refl
cond_again cond.B = refl
cond_again cond.Ae = refl
cond_again cond.E = refl
cond_again cond.Ne = refl
cond_again cond.Be = refl
cond_again cond.A = refl
cond_again cond.S = refl
cond_again cond.Ns = refl
cond_again cond.L = refl
cond_again cond.Ge = refl
cond_again cond.Le = refl
cond_again cond.G = refl

pub condition_below : (c : Cond) → condition c < 16
condition_below cond.O = omega arith
condition_below cond.No = omega arith
condition_below cond.B = omega arith
condition_below cond.Ae = omega arith
condition_below cond.E = omega arith
condition_below cond.Ne = omega arith
condition_below cond.Be = omega arith
condition_below cond.A = omega arith
condition_below cond.S = omega arith
condition_below cond.Ns = omega arith
condition_below cond.L = omega arith
condition_below cond.Ge = omega arith
condition_below cond.Le = omega arith
condition_below cond.G = omega arith

pub extension_again : (op : AluOp) → alu_of_extension (alu_extension op) ≡ Some op
unfolding alu_of_extension
extension_again alu.Add = refl
extension_again alu.Or = refl
extension_again alu.And = refl
extension_again alu.Sub = refl
extension_again alu.Xor = refl
extension_again alu.Cmp = refl

pub shift_again : (op : ShiftOp) → shift_of_extension (shift_extension op) ≡ Some op
unfolding shift_of_extension
shift_again shift.Shl = refl
shift_again shift.Shr = refl
shift_again shift.Sar = refl

-- ---- back: what a table finds has that number

abbrev finds : {A : Type 0} → (A → ℕ) → Option A → ℕ → Bool
finds number None n = true
finds number (Some x) n = eqb (number x) n

found_is : {A : Type 0} (number : A → ℕ) (o : Option A) (x : A) (n : ℕ) → o ≡ Some x → finds number o n ≡ true → number x ≡ n
found_is number None x n e h = absurd (let bad : (let o : Option _ = None in o) ≡ Some x = e in cc)
found_is number (Some y) x n e h = let same : y ≡ x = cc in ap number (sym same) ∙ eqb-true (number y) n h

pub number_reg : (n : ℕ) → n < 16 → number (reg_of n) ≡ n
unfolding reg_of
number_reg n h = eqb-true (number (reg_of n)) n (agree_below_at (λ k. eqb (number (reg_of k)) k) (λ k. true) 16 n refl h)

pub condition_found : (n : ℕ) (c : Cond) → n < 16 → cond_of n ≡ Some c → condition c ≡ n
unfolding cond_of
condition_found n c h e = found_is condition (cond_of n) c n e (agree_below_at (λ k. finds condition (cond_of k) k) (λ k. true) 16 n refl h)

pub alu_found : (n : ℕ) (op : AluOp) → n < 256 → alu_of_opcode n ≡ Some op → alu_opcode op ≡ n
unfolding alu_of_opcode
alu_found n op h e = found_is alu_opcode (alu_of_opcode n) op n e (agree_below_at (λ k. finds alu_opcode (alu_of_opcode k) k) (λ k. true) 256 n refl h)

pub extension_found : (n : ℕ) (op : AluOp) → n < 16 → alu_of_extension n ≡ Some op → alu_extension op ≡ n
unfolding alu_of_extension
extension_found n op h e = found_is alu_extension (alu_of_extension n) op n e (agree_below_at (λ k. finds alu_extension (alu_of_extension k) k) (λ k. true) 16 n refl h)

pub shift_found : (n : ℕ) (op : ShiftOp) → n < 16 → shift_of_extension n ≡ Some op → shift_extension op ≡ n
unfolding shift_of_extension
shift_found n op h e = found_is shift_extension (shift_of_extension n) op n e (agree_below_at (λ k. finds shift_extension (shift_of_extension k) k) (λ k. true) 16 n refl h)
