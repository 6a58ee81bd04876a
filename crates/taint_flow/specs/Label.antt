-- Labels, and what each instruction leaves private: the last column of the instruction table.
use Rattle.std.specs.Prelude.{◌≡◌, ℕ, Bool, true, false, ◌||◌, ◌&&◌, not, ◌==◌, nat_le, if◌then◌else◌}
use Rattle.cv_word.specs.CallBits.{may_pass_private}
use Rattle.x64_decode.specs.Spelling.{number}
use Rattle.x64_decode.specs.declared.instr.Reg.{Reg}
use Rattle.x64_decode.specs.declared.instr.Reg.TheVariants.{Rax, Rcx, Rdx, Rsp, Rsi, Rdi}
use Rattle.x64_decode.specs.declared.instr.Seg.{Seg}
use Rattle.x64_decode.specs.declared.instr.Seg.TheVariants.{Fs, Gs}
use Rattle.x64_decode.specs.Operations.{is_written}
use Rattle.x64_decode.specs.declared.instr.Instr.{Instr}
use Rattle.x64_decode.specs.declared.instr.Instr.TheVariants.{Mov, Alu, Test, Imul, Not, Neg, Idiv, Cqo, ShiftImm, ShiftCl, Movsxd, Movzx8, Movsx8, Setcc, Cmov, MovImm32, MovImm64, MovImmS, AluImm, Load, LoadZx8, LoadSx8, LoadSx32, Store, CmpFlat, JmpR10, CallR10, Call, Jmp, Jcc, Ud2, Nop}

-- For each name whether it may be private: 0 to 15 are the registers by number, and 16 is the flags.
abbrev pub Label : Type 0
Label = ℕ → Bool

abbrev pub flags : ℕ
flags = 16

-- whether a register may be private
abbrev pub taint : Label → Reg → Bool
taint l r = l (number r)

-- a label with one name, or a register, set
abbrev pub set : ℕ → Bool → Label → Label
set name private l = λ k. if k == name then private else l k

abbrev pub set_reg : Reg → Bool → Label → Label
set_reg r private l = set (number r) private l

abbrev pub set_where : Bool → Reg → Bool → Label → Label
set_where true r private l = set_reg r private l
set_where false r private l = l

-- what is private in the one may be private in the other
abbrev pub IsAtMost : Label → Label → Type 0
IsAtMost l m = (k : ℕ) → l k ≡ true → m k ≡ true

-- what a load brings
abbrev pub segment_taint : Seg → Bool
segment_taint Fs = false
segment_taint Gs = true

-- What may be private behind an instruction, from what may be before it: a row for each instruction. A call hands on nothing,
-- and its row is the label as it was.
unfoldable pub left_by : Instr → Label → Label
left_by (Mov wide dst src) l = set_reg dst (taint l src) l
left_by (Alu op dst src) l = set_where (is_written op) dst (taint l dst || taint l src) (set flags (taint l dst || taint l src) l)
left_by (Test a b) l = set flags (taint l a || taint l b) l
left_by (Imul dst src) l = set_reg dst (taint l dst || taint l src) (set flags true l)
left_by (Not r) l = l
left_by (Neg r) l = set flags (taint l r) l
left_by (Idiv r) l = set_reg Rdx (taint l Rax || (taint l Rdx || taint l r)) (set_reg Rax (taint l Rax || (taint l Rdx || taint l r)) (set flags true l))
left_by Cqo l = set_reg Rdx (taint l Rax) l
left_by (ShiftImm op r count) l = set flags true l
left_by (ShiftCl op r) l = set_reg r (taint l r || taint l Rcx) (set flags true l)
left_by (Movsxd dst src) l = set_reg dst (taint l src) l
left_by (Movzx8 dst src) l = set_reg dst (taint l src) l
left_by (Movsx8 dst src) l = set_reg dst (taint l src) l
left_by (Setcc cc r) l = set_reg r (taint l r || l flags) l
left_by (Cmov cc dst src) l = set_reg dst (taint l dst || (taint l src || l flags)) l
left_by (MovImm32 dst imm) l = set_reg dst false l
left_by (MovImm64 dst imm) l = set_reg dst false l
left_by (MovImmS dst imm) l = set_reg dst false l
left_by (AluImm op dst imm) l = set flags (taint l dst) l
left_by (Load wide dst mem) l = set_reg dst (segment_taint mem.seg) l
left_by (LoadZx8 dst mem) l = set_reg dst (segment_taint mem.seg) l
left_by (LoadSx8 dst mem) l = set_reg dst (segment_taint mem.seg) l
left_by (LoadSx32 dst mem) l = set_reg dst (segment_taint mem.seg) l
left_by (Store width mem src) l = l
left_by CmpFlat l = l
left_by JmpR10 l = l
left_by CallR10 l = l
left_by (Call rel) l = l
left_by (Jmp rel) l = l
left_by (Jcc cc rel) l = l
left_by Ud2 l = l
left_by Nop l = l

-- What may be private at least behind a call word: its private arguments, the flags, and all registers that are neither
-- arguments nor rsp.
unfoldable pub entry_label : ℕ → Label
entry_label bits = λ k.
    if k == number Rdi then may_pass_private bits 0 else
    if k == number Rsi then may_pass_private bits 1 else
    if k == number Rdx then may_pass_private bits 2 else
    if k == number Rcx then may_pass_private bits 3 else
    nat_le k flags && not (k == number Rsp)

-- What may be private at least behind a return word: the flags and all registers but rsp, and rax only where the bit says so.
unfoldable pub return_label : ℕ → Label
return_label bit = λ k.
    if k == number Rax then bit == 1 else
    nat_le k flags && not (k == number Rsp)
