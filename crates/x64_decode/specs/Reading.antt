-- The instruction that a list of bytes begins with, and the bytes behind it: the table read backwards. The public law
-- `table_law` says that it is.
use Rattle.std.specs.Prelude.{ℕ, ◌+◌, ◌*◌, ◌/◌, ◌%◌, Bool, true, false, ◌&&◌, List, [], ◌∷◌, Option, Some, None, ℤ, ◌==◌, nat_le, if◌then◌else◌}
use Rattle.std.specs.Option.{option_map}
use Rattle.std.specs.Int.{w32, cast_signed}
use Rattle.x64_decode.specs.declared.instr.Reg.{Reg}
use Rattle.x64_decode.specs.declared.instr.Reg.TheVariants as reg
use Rattle.x64_decode.specs.declared.instr.Cond.{Cond}
use Rattle.x64_decode.specs.declared.instr.Cond.TheVariants as cond
use Rattle.x64_decode.specs.declared.instr.Seg.{Seg}
use Rattle.x64_decode.specs.declared.instr.Seg.TheVariants.{Fs, Gs}
use Rattle.x64_decode.specs.declared.instr.Width.TheVariants.{B1, B4, B8}
use Rattle.x64_decode.specs.declared.instr.Mem.{Mem}
use Rattle.x64_decode.specs.declared.instr.AluOp.{AluOp}
use Rattle.x64_decode.specs.declared.instr.AluOp.TheVariants as alu
use Rattle.x64_decode.specs.declared.instr.ShiftOp.{ShiftOp}
use Rattle.x64_decode.specs.declared.instr.ShiftOp.TheVariants as shift
use Rattle.x64_decode.specs.declared.instr.Instr.{Instr}
use Rattle.x64_decode.specs.declared.instr.Instr.TheVariants.{Mov, Alu, Test, Imul, Not, Neg, Idiv, Cqo, ShiftImm, ShiftCl, Movsxd, Movzx8, Movsx8, Setcc, Cmov, MovImm32, MovImm64, MovImmS, AluImm, Load, LoadZx8, LoadSx8, LoadSx32, Store, CmpFlat, JmpR10, CallR10, Call, Jmp, Jcc, Ud2, Nop}

-- an instruction and the bytes behind it
abbrev pub Read : Type 0
Read = Option (Instr × List ℕ)

abbrev pub gives : Instr → List ℕ → Read
gives i rest = Some (i, rest)

-- the register, the condition and the operation of a number
unfoldable pub reg_of : ℕ → Reg
reg_of n =
    if n == 0 then reg.Rax else if n == 1 then reg.Rcx else if n == 2 then reg.Rdx else if n == 3 then reg.Rbx else
    if n == 4 then reg.Rsp else if n == 5 then reg.Rbp else if n == 6 then reg.Rsi else if n == 7 then reg.Rdi else
    if n == 8 then reg.Gpr8 else if n == 9 then reg.Gpr9 else if n == 10 then reg.Gpr10 else if n == 11 then reg.Gpr11 else
    if n == 12 then reg.Gpr12 else if n == 13 then reg.Gpr13 else if n == 14 then reg.Gpr14 else reg.Gpr15

unfoldable pub cond_of : ℕ → Option Cond
cond_of n =
    if n == 0 then Some cond.O else if n == 1 then Some cond.No else if n == 2 then Some cond.B else if n == 3 then Some cond.Ae else
    if n == 4 then Some cond.E else if n == 5 then Some cond.Ne else if n == 6 then Some cond.Be else if n == 7 then Some cond.A else
    if n == 8 then Some cond.S else if n == 9 then Some cond.Ns else if n == 12 then Some cond.L else if n == 13 then Some cond.Ge else
    if n == 14 then Some cond.Le else if n == 15 then Some cond.G else None

unfoldable pub alu_of_opcode : ℕ → Option AluOp
alu_of_opcode n =
    if n == 0x01 then Some alu.Add else if n == 0x09 then Some alu.Or else if n == 0x21 then Some alu.And else
    if n == 0x29 then Some alu.Sub else if n == 0x31 then Some alu.Xor else if n == 0x39 then Some alu.Cmp else None

unfoldable pub alu_of_extension : ℕ → Option AluOp
alu_of_extension n =
    if n == 0 then Some alu.Add else if n == 1 then Some alu.Or else if n == 4 then Some alu.And else
    if n == 5 then Some alu.Sub else if n == 6 then Some alu.Xor else if n == 7 then Some alu.Cmp else None

unfoldable pub shift_of_extension : ℕ → Option ShiftOp
shift_of_extension n =
    if n == 4 then Some shift.Shl else if n == 5 then Some shift.Shr else if n == 7 then Some shift.Sar else None

-- behind an option
abbrev pub then_read : {A : Type 0} → Option A → (A → Read) → Read
then_read None next = None
then_read (Some x) next = next x

-- numbers of four and of eight bytes, and the bytes behind them
unfoldable pub number_4 : List ℕ → Option (ℕ × List ℕ)
number_4 (a ∷ (b ∷ (c ∷ (d ∷ rest)))) = Some (a + 256 * (b + 256 * (c + 256 * d)), rest)
number_4 _ = None

unfoldable pub number_8 : List ℕ → Option (ℕ × List ℕ)
number_8 (a ∷ (b ∷ (c ∷ (d ∷ (e ∷ (f ∷ (g ∷ (h ∷ rest)))))))) =
    Some (a + 256 * (b + 256 * (c + 256 * (d + 256 * (e + 256 * (f + 256 * (g + 256 * h)))))), rest)
number_8 _ = None

abbrev pub signed_4 : ℕ → ℤ
signed_4 n = cast_signed w32 n

-- a signed number of four bytes, and the bytes behind it
unfoldable pub signed_at : List ℕ → Option (ℤ × List ℕ)
signed_at bytes = option_map (λ (n : ℕ × List ℕ). (signed_4 n.0, n.1)) (number_4 bytes)

-- two registers, or an extension and a register, behind an opcode of one byte: x is the number in the field reg, y in rm
unfoldable pub shift_by_number : ℕ → ℕ → List ℕ → Read
shift_by_number x y [] = None
shift_by_number x y (count ∷ rest) =
    then_read (shift_of_extension x) (λ op. if nat_le 1 count && nat_le count 63 then gives (ShiftImm op (reg_of y) count) rest else None)

unfoldable pub unary_form : ℕ → ℕ → List ℕ → Read
unary_form x y rest =
    if x == 2 then gives (Not (reg_of y)) rest else
    if x == 3 then gives (Neg (reg_of y)) rest else
    if x == 7 then gives (Idiv (reg_of y)) rest else
    None

unfoldable pub move_signed_form : ℕ → ℕ → List ℕ → Read
move_signed_form x y rest = if x == 0 then then_read (signed_at rest) (λ n. gives (MovImmS (reg_of y) n.0) n.1) else None

unfoldable pub alu_by_number : ℕ → ℕ → List ℕ → Read
alu_by_number x y rest = then_read (alu_of_extension x) (λ op. then_read (signed_at rest) (λ n. gives (AluImm op (reg_of y) n.0) n.1))

unfoldable pub wide_form : ℕ → ℕ → ℕ → List ℕ → Read
wide_form opcode x y rest =
    if opcode == 0x85 then gives (Test (reg_of y) (reg_of x)) rest else
    if opcode == 0x63 then gives (Movsxd (reg_of x) (reg_of y)) rest else
    if opcode == 0xf7 then unary_form x y rest else
    if opcode == 0xc1 then shift_by_number x y rest else
    if opcode == 0xd3 then then_read (shift_of_extension x) (λ op. gives (ShiftCl op (reg_of y)) rest) else
    if opcode == 0xc7 then move_signed_form x y rest else
    if opcode == 0x81 then alu_by_number x y rest else
    then_read (alu_of_opcode opcode) (λ op. gives (Alu op (reg_of y) (reg_of x)) rest)

unfoldable pub narrow_form : ℕ → ℕ → ℕ → List ℕ → Read
narrow_form opcode x y rest =
    if (opcode == 0xff) && (y == 10) then
    (if x == 4 then gives JmpR10 rest else if x == 2 then gives CallR10 rest else None)
    else None

unfoldable pub one_byte : Bool → ℕ → ℕ → ℕ → List ℕ → Read
one_byte wide opcode x y rest =
    if opcode == 0x89 then gives (Mov wide (reg_of y) (reg_of x)) rest else
    if wide then wide_form opcode x y rest else narrow_form opcode x y rest

-- the same behind 0F and a second byte
unfoldable pub wide_two_byte_form : ℕ → ℕ → ℕ → List ℕ → Read
wide_two_byte_form opcode x y rest =
    if opcode == 0xaf then gives (Imul (reg_of x) (reg_of y)) rest else
    if opcode == 0xb6 then gives (Movzx8 (reg_of x) (reg_of y)) rest else
    if opcode == 0xbe then gives (Movsx8 (reg_of x) (reg_of y)) rest else
    if opcode / 16 == 4 then then_read (cond_of (opcode % 16)) (λ c. gives (Cmov c (reg_of x) (reg_of y)) rest) else
    None

unfoldable pub set_byte_form : ℕ → ℕ → ℕ → List ℕ → Read
set_byte_form opcode x y rest =
    if (opcode / 16 == 9) && (x == 0) then then_read (cond_of (opcode % 16)) (λ c. gives (Setcc c (reg_of y)) rest) else None

unfoldable pub two_byte : Bool → ℕ → ℕ → ℕ → List ℕ → Read
two_byte wide opcode x y rest = if wide then wide_two_byte_form opcode x y rest else set_byte_form opcode x y rest

-- ModRM of two registers: mode 3; hx and hy are the high bits that REX gives. Both numbers, and the bytes behind it.
unfoldable pub registers_at : ℕ → ℕ → List ℕ → Option (ℕ × ℕ × List ℕ)
registers_at hx hy [] = None
registers_at hx hy (modrm ∷ rest) =
    if modrm / 64 == 3 then Some (8 * hx + modrm / 8 % 8, 8 * hy + modrm % 8, rest) else None

-- MOV of a number
unfoldable pub number_form : Bool → ℕ → List ℕ → Read
number_form true y rest = then_read (number_8 rest) (λ n. gives (MovImm64 (reg_of y) n.0) n.1)
number_form false y rest = then_read (number_4 rest) (λ n. gives (MovImm32 (reg_of y) n.0) n.1)

-- behind 0F
unfoldable pub escaped : Bool → ℕ → ℕ → List ℕ → Read
escaped wide hx hy [] = None
escaped wide hx hy (opcode ∷ rest) = then_read (registers_at hx hy rest) (λ r. two_byte wide opcode r.0 r.1 r.2)

-- behind REX
unfoldable pub after_rex : Bool → ℕ → ℕ → List ℕ → Read
after_rex wide hx hy [] = None
after_rex wide hx hy (opcode ∷ rest) =
    if opcode == 0x0f then escaped wide hx hy rest else
    if opcode / 8 == 0x17 then (if hx == 0 then number_form wide (8 * hy + opcode % 8) rest else None) else
    if opcode == 0x99 then (if wide && ((hx == 0) && (hy == 0)) then gives Cqo rest else None) else
    then_read (registers_at hx hy rest) (λ r. one_byte wide opcode r.0 r.1 r.2)

-- a memory operand: ModRM of mode 2, the SIB byte where the base asks for one, and a displacement of four bytes. The number
-- in the field reg, the operand, and the bytes behind it.
unfoldable pub displaced : Seg → ℕ → ℕ → List ℕ → Option (ℕ × Mem × List ℕ)
displaced seg x base bytes = option_map (λ (n : ℤ × List ℕ). (x, record { seg = seg; base = reg_of base; disp = n.0 }, n.1)) (signed_at bytes)

unfoldable pub indexed : Seg → ℕ → ℕ → List ℕ → Option (ℕ × Mem × List ℕ)
indexed seg x base [] = None
indexed seg x base (sib ∷ rest) = if sib == 0x24 then displaced seg x base rest else None

unfoldable pub operand_at : Seg → ℕ → ℕ → List ℕ → Option (ℕ × Mem × List ℕ)
operand_at seg hx hy [] = None
operand_at seg hx hy (modrm ∷ rest) =
    if modrm / 64 == 2 then
    (if modrm % 8 == 4 then indexed seg (8 * hx + modrm / 8 % 8) (8 * hy + modrm % 8) rest
    else displaced seg (8 * hx + modrm / 8 % 8) (8 * hy + modrm % 8) rest)
    else None

-- an access to memory by its opcode, where the operand stands behind it
unfoldable pub access_form : Bool → ℕ → ℕ → Mem → List ℕ → Read
access_form wide opcode x mem rest =
    if opcode == 0x8b then gives (Load wide (reg_of x) mem) rest else
    if opcode == 0x89 then gives (Store (if wide then B8 else B4) mem (reg_of x)) rest else
    if wide then (if opcode == 0x63 then gives (LoadSx32 (reg_of x) mem) rest else None) else
    (if opcode == 0x88 then gives (Store B1 mem (reg_of x)) rest else None)

unfoldable pub byte_form : Bool → ℕ → ℕ → Mem → List ℕ → Read
byte_form wide opcode x mem rest =
    if wide then
    (if opcode == 0xb6 then gives (LoadZx8 (reg_of x) mem) rest else
    if opcode == 0xbe then gives (LoadSx8 (reg_of x) mem) rest else
    None)
    else None

-- an access to memory behind its prefixes and REX
unfoldable pub escaped_access : Seg → Bool → ℕ → ℕ → List ℕ → Read
escaped_access seg wide hx hy [] = None
escaped_access seg wide hx hy (opcode ∷ rest) = then_read (operand_at seg hx hy rest) (λ r. byte_form wide opcode r.0 r.1 r.2)

unfoldable pub access_at : Seg → Bool → ℕ → ℕ → List ℕ → Read
access_at seg wide hx hy [] = None
access_at seg wide hx hy (opcode ∷ rest) =
    if opcode == 0x0f then escaped_access seg wide hx hy rest else
    then_read (operand_at seg hx hy rest) (λ r. access_form wide opcode r.0 r.1 r.2)

-- REX by its fields W, R and B; X is 0
abbrev pub has_no_index : ℕ → Bool
has_no_index b = b / 2 % 2 == 0

abbrev pub is_wide : ℕ → Bool
is_wide b = b / 8 % 2 == 1

abbrev pub high_reg : ℕ → ℕ
high_reg b = b / 4 % 2

abbrev pub high_rm : ℕ → ℕ
high_rm b = b % 2

-- behind the prefix of a segment: the prefix of 32-bit addresses, and REX
unfoldable pub segment_at : Seg → List ℕ → Read
segment_at seg (prefix ∷ (b ∷ rest)) =
    if (prefix == 0x67) && ((b / 16 == 4) && has_no_index b) then access_at seg (is_wide b) (high_reg b) (high_rm b) rest else None
segment_at seg _ = None

-- the comparison of a check unit, behind its first byte
unfoldable pub comparison_at : List ℕ → Read
comparison_at (a ∷ (b ∷ (c ∷ (d ∷ (e ∷ (f ∷ (g ∷ rest))))))) =
    if (a == 0x4d) && ((b == 0x3b) && ((c == 0x9a) && ((d == 0) && ((e == 0) && ((f == 0) && (g == 0)))))) then gives CmpFlat rest else None
comparison_at _ = None

-- behind 0F with no REX: UD2 and the jumps on a condition
unfoldable pub control_at : List ℕ → Read
control_at [] = None
control_at (opcode ∷ rest) =
    if opcode == 0x0b then gives Ud2 rest else
    if opcode / 16 == 8 then then_read (cond_of (opcode % 16)) (λ c. then_read (signed_at rest) (λ n. gives (Jcc c n.0) n.1)) else
    None

unfoldable pub jump_at : List ℕ → Read
jump_at bytes = then_read (signed_at bytes) (λ n. gives (Jmp n.0) n.1)

unfoldable pub call_at : List ℕ → Read
call_at bytes = then_read (signed_at bytes) (λ n. gives (Call n.0) n.1)

-- the instruction that the bytes begin with, and the bytes behind it
unfoldable pub read : List ℕ → Read
read [] = None
read (b ∷ rest) =
    if b / 16 == 4 then (if has_no_index b then after_rex (is_wide b) (high_reg b) (high_rm b) rest else None) else
    if b == 0x64 then segment_at Fs rest else
    if b == 0x65 then segment_at Gs rest else
    if b == 0x0f then control_at rest else
    if b == 0xe9 then jump_at rest else
    if b == 0xe8 then call_at rest else
    if b == 0x90 then gives Nop rest else
    if b == 0x67 then comparison_at rest else
    None

unfoldable pub instruction_at : List ℕ → Option Instr
instruction_at bytes = option_map (λ r. r.0) (read bytes)
