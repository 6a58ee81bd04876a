-- The one spelling of each instruction, in 64-bit mode: prefixes, REX, opcode, ModRM, SIB, displacement and immediate,
-- by the names of the Intel manual's chapter on the instruction format.
use Rattle.std.specs.Prelude.{◌≡◌, ℕ, ◌+◌, ◌*◌, ◌/◌, ◌%◌, ◌^◌, ◌<◌, ◌≤◌, Bool, true, false, List, [], ◌∷◌, ◌++◌, ℤ, FitsSigned, if◌then◌else◌, ◌==◌}
use Rattle.std.specs.Int.{w32, cast_unsigned}
use Rattle.cv_word.specs.Words.{word_bytes}
use Rattle.x64_decode.specs.declared.instr.Reg.{Reg}
use Rattle.x64_decode.specs.declared.instr.Reg.TheVariants as reg
use Rattle.x64_decode.specs.declared.instr.Cond.{Cond}
use Rattle.x64_decode.specs.declared.instr.Cond.TheVariants as cond
use Rattle.x64_decode.specs.declared.instr.Seg.{Seg}
use Rattle.x64_decode.specs.declared.instr.Seg.TheVariants.{Fs, Gs}
use Rattle.x64_decode.specs.declared.instr.Width.{Width}
use Rattle.x64_decode.specs.declared.instr.Width.TheVariants.{B1, B4, B8}
use Rattle.x64_decode.specs.declared.instr.Mem.{Mem}
use Rattle.x64_decode.specs.declared.instr.AluOp.{AluOp}
use Rattle.x64_decode.specs.declared.instr.AluOp.TheVariants as alu
use Rattle.x64_decode.specs.declared.instr.ShiftOp.{ShiftOp}
use Rattle.x64_decode.specs.declared.instr.ShiftOp.TheVariants as shift
use Rattle.x64_decode.specs.declared.instr.Instr.{Instr}
use Rattle.x64_decode.specs.declared.instr.Instr.TheVariants.{Mov, Alu, Test, Imul, Not, Neg, Idiv, Cqo, ShiftImm, ShiftCl, Movsxd, Movzx8, Movsx8, Setcc, Cmov, MovImm32, MovImm64, MovImmS, AluImm, Load, LoadZx8, LoadSx8, LoadSx32, Store, CmpFlat, JmpR10, CallR10, Call, Jmp, Jcc, Ud2, Nop}

-- the number of a register
abbrev pub number : Reg → ℕ
number reg.Rax = 0
number reg.Rcx = 1
number reg.Rdx = 2
number reg.Rbx = 3
number reg.Rsp = 4
number reg.Rbp = 5
number reg.Rsi = 6
number reg.Rdi = 7
number reg.Gpr8 = 8
number reg.Gpr9 = 9
number reg.Gpr10 = 10
number reg.Gpr11 = 11
number reg.Gpr12 = 12
number reg.Gpr13 = 13
number reg.Gpr14 = 14
number reg.Gpr15 = 15

-- the number of a condition
abbrev pub condition : Cond → ℕ
condition cond.O = 0
condition cond.No = 1
condition cond.B = 2
condition cond.Ae = 3
condition cond.E = 4
condition cond.Ne = 5
condition cond.Be = 6
condition cond.A = 7
condition cond.S = 8
condition cond.Ns = 9
condition cond.L = 12
condition cond.Ge = 13
condition cond.Le = 14
condition cond.G = 15

-- the opcode of an operation on two registers, and its extension beside an immediate
abbrev pub alu_opcode : AluOp → ℕ
alu_opcode alu.Add = 0x01
alu_opcode alu.Or = 0x09
alu_opcode alu.And = 0x21
alu_opcode alu.Sub = 0x29
alu_opcode alu.Xor = 0x31
alu_opcode alu.Cmp = 0x39

abbrev pub alu_extension : AluOp → ℕ
alu_extension alu.Add = 0
alu_extension alu.Or = 1
alu_extension alu.And = 4
alu_extension alu.Sub = 5
alu_extension alu.Xor = 6
alu_extension alu.Cmp = 7

abbrev pub shift_extension : ShiftOp → ℕ
shift_extension shift.Shl = 4
shift_extension shift.Shr = 5
shift_extension shift.Sar = 7

-- the prefix of a segment
abbrev pub segment_prefix : Seg → ℕ
segment_prefix Fs = 0x64
segment_prefix Gs = 0x65

-- REX with its W bit; R is the high bit of the number in the field reg, B that of the number in the field rm
abbrev pub rex : Bool → ℕ → ℕ → ℕ
rex wide x y = (if wide then 0x48 else 0x40) + 4 * (x / 8) + y / 8

-- ModRM, whose fields reg and rm take the low three bits of a number
abbrev pub modrm : ℕ → ℕ → ℕ → ℕ
modrm mode x y = 64 * mode + 8 * (x % 8) + y % 8

-- two registers, or an extension of the opcode and a register
abbrev pub between : ℕ → ℕ → ℕ
between x y = modrm 3 x y

-- a memory operand behind its opcode: ModRM, the SIB byte where the base asks for one, and a displacement of 4 bytes
abbrev pub operand : ℕ → Mem → List ℕ
operand x mem = modrm 2 x (number mem.base) ∷ (if number mem.base % 8 == 4 then 0x24 ∷ [] else []) ++ word_bytes 4 (cast_unsigned w32 mem.disp)

-- the prefixes of an access to memory, and REX
abbrev pub access : Bool → ℕ → Mem → List ℕ
access wide x mem = segment_prefix mem.seg ∷ 0x67 ∷ rex wide x (number mem.base) ∷ []

-- a signed number of 4 bytes
abbrev pub signed_bytes : ℤ → List ℕ
signed_bytes z = word_bytes 4 (cast_unsigned w32 z)

-- whether a store takes REX.W, and its opcode
abbrev pub store_wide : Width → Bool
store_wide B8 = true
store_wide B4 = false
store_wide B1 = false

abbrev pub store_opcode : Width → ℕ
store_opcode B8 = 0x89
store_opcode B4 = 0x89
store_opcode B1 = 0x88

-- the instruction table: a row for each instruction
unfoldable pub spelling : Instr → List ℕ
spelling (Mov wide dst src) = rex wide (number src) (number dst) ∷ 0x89 ∷ between (number src) (number dst) ∷ []
spelling (Alu op dst src) = rex true (number src) (number dst) ∷ alu_opcode op ∷ between (number src) (number dst) ∷ []
spelling (Test a b) = rex true (number b) (number a) ∷ 0x85 ∷ between (number b) (number a) ∷ []
spelling (Imul dst src) = rex true (number dst) (number src) ∷ 0x0f ∷ 0xaf ∷ between (number dst) (number src) ∷ []
spelling (Not r) = rex true 0 (number r) ∷ 0xf7 ∷ between 2 (number r) ∷ []
spelling (Neg r) = rex true 0 (number r) ∷ 0xf7 ∷ between 3 (number r) ∷ []
spelling (Idiv r) = rex true 0 (number r) ∷ 0xf7 ∷ between 7 (number r) ∷ []
spelling Cqo = 0x48 ∷ 0x99 ∷ []
spelling (ShiftImm op r count) = rex true 0 (number r) ∷ 0xc1 ∷ between (shift_extension op) (number r) ∷ count ∷ []
spelling (ShiftCl op r) = rex true 0 (number r) ∷ 0xd3 ∷ between (shift_extension op) (number r) ∷ []
spelling (Movsxd dst src) = rex true (number dst) (number src) ∷ 0x63 ∷ between (number dst) (number src) ∷ []
spelling (Movzx8 dst src) = rex true (number dst) (number src) ∷ 0x0f ∷ 0xb6 ∷ between (number dst) (number src) ∷ []
spelling (Movsx8 dst src) = rex true (number dst) (number src) ∷ 0x0f ∷ 0xbe ∷ between (number dst) (number src) ∷ []
spelling (Setcc cc r) = rex false 0 (number r) ∷ 0x0f ∷ (0x90 + condition cc) ∷ between 0 (number r) ∷ []
spelling (Cmov cc dst src) = rex true (number dst) (number src) ∷ 0x0f ∷ (0x40 + condition cc) ∷ between (number dst) (number src) ∷ []
spelling (MovImm32 dst imm) = rex false 0 (number dst) ∷ (0xb8 + number dst % 8) ∷ word_bytes 4 imm
spelling (MovImm64 dst imm) = rex true 0 (number dst) ∷ (0xb8 + number dst % 8) ∷ word_bytes 8 imm
spelling (MovImmS dst imm) = rex true 0 (number dst) ∷ 0xc7 ∷ between 0 (number dst) ∷ signed_bytes imm
spelling (AluImm op dst imm) = rex true 0 (number dst) ∷ 0x81 ∷ between (alu_extension op) (number dst) ∷ signed_bytes imm
spelling (Load wide dst mem) = access wide (number dst) mem ++ 0x8b ∷ operand (number dst) mem
spelling (LoadZx8 dst mem) = access true (number dst) mem ++ 0x0f ∷ 0xb6 ∷ operand (number dst) mem
spelling (LoadSx8 dst mem) = access true (number dst) mem ++ 0x0f ∷ 0xbe ∷ operand (number dst) mem
spelling (LoadSx32 dst mem) = access true (number dst) mem ++ 0x63 ∷ operand (number dst) mem
spelling (Store width mem src) = access (store_wide width) (number src) mem ++ store_opcode width ∷ operand (number src) mem
spelling CmpFlat = 0x67 ∷ 0x4d ∷ 0x3b ∷ 0x9a ∷ 0 ∷ 0 ∷ 0 ∷ 0 ∷ []
spelling JmpR10 = 0x41 ∷ 0xff ∷ 0xe2 ∷ []
spelling CallR10 = 0x41 ∷ 0xff ∷ 0xd2 ∷ []
spelling (Call rel) = 0xe8 ∷ signed_bytes rel
spelling (Jmp rel) = 0xe9 ∷ signed_bytes rel
spelling (Jcc cc rel) = 0x0f ∷ (0x80 + condition cc) ∷ signed_bytes rel
spelling Ud2 = 0x0f ∷ 0x0b ∷ []
spelling Nop = 0x90 ∷ []

-- the instruction has a spelling: its numbers fit their fields, and a shift's count is from 1 to 63
abbrev pub HasSpelling : Instr → Type 0
HasSpelling (ShiftImm op r count) = (1 ≤ count) × (count ≤ 63)
HasSpelling (MovImm32 dst imm) = imm < 2 ^ 32
HasSpelling (MovImm64 dst imm) = imm < 2 ^ 64
HasSpelling (MovImmS dst imm) = FitsSigned w32 imm
HasSpelling (AluImm op dst imm) = FitsSigned w32 imm
HasSpelling (Load wide dst mem) = FitsSigned w32 mem.disp
HasSpelling (LoadZx8 dst mem) = FitsSigned w32 mem.disp
HasSpelling (LoadSx8 dst mem) = FitsSigned w32 mem.disp
HasSpelling (LoadSx32 dst mem) = FitsSigned w32 mem.disp
HasSpelling (Store width mem src) = FitsSigned w32 mem.disp
HasSpelling (Call rel) = FitsSigned w32 rel
HasSpelling (Jmp rel) = FitsSigned w32 rel
HasSpelling (Jcc cc rel) = FitsSigned w32 rel
HasSpelling _ = Unit {0}

-- the bytes begin with the spelling of the instruction
pub record Spells (bytes : List ℕ) (i : Instr) : Type 0 where
  pub proper : HasSpelling i
  pub rest : List ℕ
  pub whole : bytes ≡ spelling i ++ rest
