-- The parts of an instruction's text: numbers, names, memory operands and targets.
use Rattle.std.specs.Prelude.{ℕ, suc, ◌-◌, Bool, true, false, List, [], ◌++◌, length, replicate, codes, ℤ, pos, negsuc}
use Rattle.std.specs.Fmt.{decimal, digits}
use Rattle.cv_word.specs.Arithmetic.{added}
use Rattle.cv_word.specs.Words.{widened}
use Rattle.x64_decode.specs.declared.instr.Reg.{Reg}
use Rattle.x64_decode.specs.declared.instr.Reg.TheVariants as reg
use Rattle.x64_decode.specs.declared.instr.Cond.{Cond}
use Rattle.x64_decode.specs.declared.instr.Cond.TheVariants as cond
use Rattle.x64_decode.specs.declared.instr.Seg.{Seg}
use Rattle.x64_decode.specs.declared.instr.Seg.TheVariants.{Fs, Gs}
use Rattle.x64_decode.specs.declared.instr.Width.{Width}
use Rattle.x64_decode.specs.declared.instr.Width.TheVariants.{B1, B4, B8}
use Rattle.x64_decode.specs.declared.instr.Mem.{Mem}
use Rattle.x64_decode.specs.declared.instr.AluOp.{AluOp}
use Rattle.x64_decode.specs.declared.instr.AluOp.TheVariants as alu
use Rattle.x64_decode.specs.declared.instr.ShiftOp.{ShiftOp}
use Rattle.x64_decode.specs.declared.instr.ShiftOp.TheVariants as shift

-- in lower-case hexadecimal, without leading zeros
abbrev pub hexadecimal : ℕ → List ℕ
hexadecimal number = digits 16 false number

-- the same with zeros in front, up to so many digits
abbrev pub padded_hexadecimal : ℕ → ℕ → List ℕ
padded_hexadecimal width number = replicate (width - length (hexadecimal number)) 48 ++ hexadecimal number

-- an unsigned number
abbrev pub unsigned_text : ℕ → List ℕ
unsigned_text number = codes "0x" ++ hexadecimal number

-- a displacement: decimal, always with its sign
abbrev pub displacement_text : ℤ → List ℕ
displacement_text (pos n) = codes "+" ++ decimal n
displacement_text (negsuc n) = codes "-" ++ decimal (suc n)

-- where a jump or a call goes: the flat address behind it plus its displacement, modulo 2 ^ 64
abbrev pub target_text : ℕ → ℤ → List ℕ
target_text next rel = unsigned_text (added next (widened rel))

-- a register by its name in 64-bit mode
unfoldable pub register_name : Reg → List ℕ
register_name reg.Rax = codes "rax"
register_name reg.Rcx = codes "rcx"
register_name reg.Rdx = codes "rdx"
register_name reg.Rbx = codes "rbx"
register_name reg.Rsp = codes "rsp"
register_name reg.Rbp = codes "rbp"
register_name reg.Rsi = codes "rsi"
register_name reg.Rdi = codes "rdi"
register_name reg.Gpr8 = codes "r8"
register_name reg.Gpr9 = codes "r9"
register_name reg.Gpr10 = codes "r10"
register_name reg.Gpr11 = codes "r11"
register_name reg.Gpr12 = codes "r12"
register_name reg.Gpr13 = codes "r13"
register_name reg.Gpr14 = codes "r14"
register_name reg.Gpr15 = codes "r15"

-- the letters of a condition
unfoldable pub condition_letters : Cond → List ℕ
condition_letters cond.O = codes "o"
condition_letters cond.No = codes "no"
condition_letters cond.B = codes "b"
condition_letters cond.Ae = codes "ae"
condition_letters cond.E = codes "e"
condition_letters cond.Ne = codes "ne"
condition_letters cond.Be = codes "be"
condition_letters cond.A = codes "a"
condition_letters cond.S = codes "s"
condition_letters cond.Ns = codes "ns"
condition_letters cond.L = codes "l"
condition_letters cond.Ge = codes "ge"
condition_letters cond.Le = codes "le"
condition_letters cond.G = codes "g"

unfoldable pub operation_name : AluOp → List ℕ
operation_name alu.Add = codes "add"
operation_name alu.Or = codes "or"
operation_name alu.And = codes "and"
operation_name alu.Sub = codes "sub"
operation_name alu.Xor = codes "xor"
operation_name alu.Cmp = codes "cmp"

unfoldable pub shift_name : ShiftOp → List ℕ
shift_name shift.Shl = codes "shl"
shift_name shift.Shr = codes "shr"
shift_name shift.Sar = codes "sar"

unfoldable pub segment_name : Seg → List ℕ
segment_name Fs = codes "fs"
segment_name Gs = codes "gs"

-- what a name ends in where an instruction is wide or not
unfoldable pub wide_suffix : Bool → List ℕ
wide_suffix true = []
wide_suffix false = codes "32"

-- what the name of a store ends in
unfoldable pub width_suffix : Width → List ℕ
width_suffix B8 = []
width_suffix B4 = codes "32"
width_suffix B1 = codes "8"

-- a memory operand, as fs:[r8-3]
unfoldable pub memory_text : Mem → List ℕ
memory_text mem =
    segment_name mem.seg ++ (codes ":[" ++ (register_name mem.base ++ (displacement_text mem.disp ++ codes "]")))
