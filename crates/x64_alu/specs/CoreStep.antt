-- What one instruction does to one core and the memory, by the rows of the instruction table. No taint occurs here.
use Rattle.std.specs.Prelude.{◌≡◌, ℕ, ◌+◌, ◌-◌, ◌*◌, ◌/◌, ◌%◌, ◌^◌, Bool, true, false, ◌&&◌, ◌||◌, not, List, length, drop, Option, Some, None, ℤ, if◌then◌else◌, slice_index, slice_set}
use Rattle.std.specs.Int.RustNames.{bit_and, bit_or, bit_xor}
use Rattle.cv_word.specs.Words.{widened, sign_extended}
use Rattle.cv_word.specs.MemoryMap.{code_base, is_in_code, operand_offset}
use Rattle.cv_word.specs.Arithmetic.{added, flags_added, subtracted, flags_subtracted, flags_of_bits, negated, flags_negated, inverted, multiplied, shifted_left, shifted_right, shifted_signed, signs_of, divided, no_flags}
use Rattle.cv_word.specs.declared.registers.Flags.{Flags}
use Rattle.cv_word.specs.declared.registers.Registers.{Registers}
use Rattle.x64_decode.specs.Spelling.{number, spelling}
use Rattle.x64_decode.specs.Reading.{instruction_at}
pub use Rattle.x64_decode.specs.Operations.{is_written}
use Rattle.x64_decode.specs.declared.instr.Reg.{Reg}
use Rattle.x64_decode.specs.declared.instr.Reg.TheVariants as reg
use Rattle.x64_decode.specs.declared.instr.Cond.{Cond}
use Rattle.x64_decode.specs.declared.instr.Cond.TheVariants as cond
use Rattle.x64_decode.specs.declared.instr.Mem.{Mem}
use Rattle.x64_decode.specs.declared.instr.AluOp.{AluOp}
use Rattle.x64_decode.specs.declared.instr.AluOp.TheVariants as alu
use Rattle.x64_decode.specs.declared.instr.ShiftOp.{ShiftOp}
use Rattle.x64_decode.specs.declared.instr.ShiftOp.TheVariants as shift
use Rattle.x64_decode.specs.declared.instr.Instr.{Instr}
use Rattle.x64_decode.specs.declared.instr.Instr.TheVariants.{Mov, Alu, Test, Imul, Not, Neg, Idiv, Cqo, ShiftImm, ShiftCl, Movsxd, Movzx8, Movsx8, Setcc, Cmov, MovImm32, MovImm64, MovImmS, AluImm, Load, LoadZx8, LoadSx8, LoadSx32, Store, CmpFlat, JmpR10, CallR10, Call, Jmp, Jcc, Ud2, Nop}
use Rattle.cv_word.specs.declared.fault.FaultKind.{FaultKind}
use Rattle.cv_word.specs.declared.fault.FaultKind.TheVariants as fault
use Rattle.cv_word.specs.Memory.{Memory}
use Rattle.two_segments.specs.Access.{byte_count, loaded, stored, flat_loaded, flat_stored}

-- a step goes on with new registers and a new memory, or it faults and changes nothing
pub data Effect : Type 0 where
  goes : Registers → Memory → Effect
  faults : FaultKind → Effect

-- what a register holds
abbrev pub value : Registers → Reg → ℕ
value s r = slice_index s.r (number r)

-- the registers after a write of one, of one only where a test holds, of the flags, of the program counter
abbrev pub put : Reg → ℕ → Registers → Registers
put dst v s = record s { r = slice_set s.r (number dst) v }

abbrev pub put_where : Bool → Reg → ℕ → Registers → Registers
put_where true dst v s = put dst v s
put_where false dst v s = s

abbrev pub flagged : Flags → Registers → Registers
flagged f s = record s { flags = f }

abbrev pub moved_to : ℕ → Registers → Registers
moved_to address s = record s { pc = address }

-- whether a condition holds
unfoldable pub holds : Cond → Flags → Bool
holds cond.O f = f.of
holds cond.No f = not f.of
holds cond.B f = f.cf
holds cond.Ae f = not f.cf
holds cond.E f = f.zf
holds cond.Ne f = not f.zf
holds cond.Be f = f.cf || f.zf
holds cond.A f = not (f.cf || f.zf)
holds cond.S f = f.sf
holds cond.Ns f = not f.sf
holds cond.L f = if f.sf then not f.of else f.of
holds cond.Ge f = if f.sf then f.of else not f.of
holds cond.Le f = f.zf || (if f.sf then not f.of else f.of)
holds cond.G f = not f.zf && (if f.sf then f.of else not f.of)

-- an operation on two words: its result and its flags
unfoldable pub alu_result : AluOp → ℕ → ℕ → ℕ
alu_result alu.Add a b = added a b
alu_result alu.Or a b = bit_or a b
alu_result alu.And a b = bit_and a b
alu_result alu.Sub a b = subtracted a b
alu_result alu.Xor a b = bit_xor a b
alu_result alu.Cmp a b = subtracted a b

unfoldable pub alu_flags : AluOp → ℕ → ℕ → Flags
alu_flags alu.Add a b = flags_added a b
alu_flags alu.Or a b = flags_of_bits (bit_or a b)
alu_flags alu.And a b = flags_of_bits (bit_and a b)
alu_flags alu.Sub a b = flags_subtracted a b
alu_flags alu.Xor a b = flags_of_bits (bit_xor a b)
alu_flags alu.Cmp a b = flags_subtracted a b

-- a shift by a count modulo 64
unfoldable pub shift_result : ShiftOp → ℕ → ℕ → ℕ
shift_result shift.Shl a count = shifted_left a count
shift_result shift.Shr a count = shifted_right a count
shift_result shift.Sar a count = shifted_signed a count

-- the low 8 bits of a word replaced by a bit
abbrev pub with_low_byte : Bool → ℕ → ℕ
with_low_byte bit a = a / 256 * 256 + (if bit then 1 else 0)

-- the offset that a memory operand names
abbrev pub offset_of : Registers → Mem → ℕ
offset_of s mem = operand_offset (value s mem.base) mem.disp

-- goes on at the next instruction
abbrev pub goes_on : ℕ → Memory → Registers → Effect
goes_on next m s = goes (moved_to next s) m

-- a division that may fault
abbrev pub after_division : Option (ℕ × ℕ) → ℕ → Memory → Registers → Effect
after_division None next m s = faults fault.Divide
after_division (Some q) next m s = goes_on next m (put reg.Rdx q.1 (put reg.Rax q.0 (flagged no_flags s)))

-- so many bytes read into a register, as the row extends them
abbrev pub after_load : Option ℕ → (ℕ → ℕ) → Reg → ℕ → Memory → Registers → Effect
after_load None extend dst next m s = faults fault.Memory
after_load (Some v) extend dst next m s = goes_on next m (put dst (extend v) s)

abbrev pub load_into : Reg → Mem → ℕ → (ℕ → ℕ) → ℕ → Memory → Registers → Effect
load_into dst mem width extend next m s = after_load (loaded m mem.seg (offset_of s mem) width) extend dst next m s

abbrev pub after_store : Option Memory → ℕ → Registers → Effect
after_store None next s = faults fault.Memory
after_store (Some m) next s = goes_on next m s

-- the flags of r11 less 8 bytes of memory
abbrev pub after_comparison : Option ℕ → ℕ → Memory → Registers → Effect
after_comparison None next m s = faults fault.Memory
after_comparison (Some v) next m s = goes_on next m (flagged (flags_subtracted (value s reg.Gpr11) v) s)

-- a call: the next instruction's address is written at the flat address rsp - 8, and rsp is lowered by 8
abbrev pub after_push : Option Memory → ℕ → Registers → Effect
after_push None target s = faults fault.Memory
after_push (Some m) target s = goes (moved_to target (put reg.Rsp (subtracted (value s reg.Rsp) 8) s)) m

abbrev pub calls : ℕ → ℕ → Memory → Registers → Effect
calls target next m s = after_push (flat_stored m (subtracted (value s reg.Rsp) 8) next) target s

-- the address that a jump or a call names, from the address of the next instruction
abbrev pub target_of : ℕ → ℤ → ℕ
target_of next rel = added next (widened rel)

-- what an instruction does, where the next instruction stands at next: a row for each instruction
unfoldable pub executed : Instr → ℕ → Memory → Registers → Effect
executed (Mov wide dst src) next m s = goes_on next m (put dst (if wide then value s src else value s src % 2 ^ 32) s)
executed (Alu op dst src) next m s = goes_on next m (put_where (is_written op) dst (alu_result op (value s dst) (value s src)) (flagged (alu_flags op (value s dst) (value s src)) s))
executed (Test a b) next m s = goes_on next m (flagged (flags_of_bits (bit_and (value s a) (value s b))) s)
executed (Imul dst src) next m s = goes_on next m (put dst (multiplied (value s dst) (value s src)) (flagged no_flags s))
executed (Not r) next m s = goes_on next m (put r (inverted (value s r)) s)
executed (Neg r) next m s = goes_on next m (put r (negated (value s r)) (flagged (flags_negated (value s r)) s))
executed (Idiv r) next m s = after_division (divided (value s reg.Rdx) (value s reg.Rax) (value s r)) next m s
executed Cqo next m s = goes_on next m (put reg.Rdx (signs_of (value s reg.Rax)) s)
executed (ShiftImm op r count) next m s = goes_on next m (put r (shift_result op (value s r) count) (flagged no_flags s))
executed (ShiftCl op r) next m s = goes_on next m (put r (shift_result op (value s r) (value s reg.Rcx)) (flagged no_flags s))
executed (Movsxd dst src) next m s = goes_on next m (put dst (sign_extended 4 (value s src)) s)
executed (Movzx8 dst src) next m s = goes_on next m (put dst (value s src % 2 ^ 8) s)
executed (Movsx8 dst src) next m s = goes_on next m (put dst (sign_extended 1 (value s src)) s)
executed (Setcc cc r) next m s = goes_on next m (put r (with_low_byte (holds cc s.flags) (value s r)) s)
executed (Cmov cc dst src) next m s = goes_on next m (put dst (if holds cc s.flags then value s src else value s dst) s)
executed (MovImm32 dst imm) next m s = goes_on next m (put dst imm s)
executed (MovImm64 dst imm) next m s = goes_on next m (put dst imm s)
executed (MovImmS dst imm) next m s = goes_on next m (put dst (widened imm) s)
executed (AluImm op dst imm) next m s = goes_on next m (put_where (is_written op) dst (alu_result op (value s dst) (widened imm)) (flagged (alu_flags op (value s dst) (widened imm)) s))
executed (Load wide dst mem) next m s = load_into dst mem (if wide then 8 else 4) (λ v. v) next m s
executed (LoadZx8 dst mem) next m s = load_into dst mem 1 (λ v. v) next m s
executed (LoadSx8 dst mem) next m s = load_into dst mem 1 (sign_extended 1) next m s
executed (LoadSx32 dst mem) next m s = load_into dst mem 4 (sign_extended 4) next m s
executed (Store width mem src) next m s = after_store (stored m mem.seg (offset_of s mem) (byte_count width) (value s src)) next s
executed CmpFlat next m s = after_comparison (flat_loaded m (value s reg.Gpr10 % 2 ^ 32)) next m s
executed JmpR10 next m s = goes_on (value s reg.Gpr10) m s
executed CallR10 next m s = calls (value s reg.Gpr10) next m s
executed (Call rel) next m s = calls (target_of next rel) next m s
executed (Jmp rel) next m s = goes_on (target_of next rel) m s
executed (Jcc cc rel) next m s = goes_on (if holds cc s.flags then target_of next rel else next) m s
executed Ud2 next m s = faults fault.Undefined
executed Nop next m s = goes_on next m s

-- the instruction that stands at an address of the code
abbrev pub instruction_in : List ℕ → ℕ → Option Instr
instruction_in code address = instruction_at (drop (address - code_base) code)

abbrev pub after_fetch : Option Instr → Memory → Registers → Effect
after_fetch None m s = faults fault.Undefined
after_fetch (Some i) m s = executed i (s.pc + length (spelling i)) m s

-- one step of a core: the instruction at its program counter takes effect
unfoldable pub core_step : Memory → Registers → Effect
core_step m s = if is_in_code (length m.code) s.pc then after_fetch (instruction_in m.code s.pc) m s else faults fault.Memory

-- what a step answers and leaves: nothing and the new state where it goes on; where it faults, the fault, and the old state
abbrev pub StepsTo : Effect → Option FaultKind → Registers → Memory → Registers → Memory → Type 0
StepsTo (goes s m) None old old_memory new new_memory = (new ≡ s) × (new_memory ≡ m)
StepsTo (faults kind) (Some answer) old old_memory new new_memory = (answer ≡ kind) × (new ≡ old) × (new_memory ≡ old_memory)
StepsTo (goes s m) (Some answer) old old_memory new new_memory = ⊥
StepsTo (faults kind) None old old_memory new new_memory = ⊥
