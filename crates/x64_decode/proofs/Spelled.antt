-- Reading a spelling, whatever follows it, gives the instruction and what follows.
use Rattle.std.proofs.Common.{◌≡◌, ℕ, ◌+◌, ◌*◌, ◌/◌, ◌%◌, ◌<◌, Bool, true, false, ◌&&◌, cond, List, [], ◌∷◌, ◌++◌, Option, Some, None, refl, ◌∙◌, ap, arith, eqb, leb, ℤ}
use Rattle.std.specs.Prelude.{FitsSigned}
use Rattle.std.specs.Int.{w32}
use Rattle.std.specs.Option.{option_map}
use Rattle.std.proofs.lemmas.Bool.{cond-true, cond-false, eq-eqb, ne_eqb, and_from, le-leb}
use Rattle.cv_word.specs.Words.{word_bytes}
use Rattle.x64_decode.specs.declared.instr.Reg.{Reg}
use Rattle.x64_decode.specs.declared.instr.Cond.{Cond}
use Rattle.x64_decode.specs.declared.instr.Seg.{Seg}
use Rattle.x64_decode.specs.declared.instr.Seg.TheVariants.{Fs, Gs}
use Rattle.x64_decode.specs.declared.instr.Width.{Width}
use Rattle.x64_decode.specs.declared.instr.Width.TheVariants.{B1, B4, B8}
use Rattle.x64_decode.specs.declared.instr.Mem.{Mem}
use Rattle.x64_decode.specs.declared.instr.AluOp.{AluOp}
use Rattle.x64_decode.specs.declared.instr.AluOp.TheVariants as alu
use Rattle.x64_decode.specs.declared.instr.ShiftOp.{ShiftOp}
use Rattle.x64_decode.specs.declared.instr.ShiftOp.TheVariants as shift
use Rattle.x64_decode.specs.declared.instr.Instr.{Instr}
use Rattle.x64_decode.specs.declared.instr.Instr.TheVariants.{Mov, Alu, Test, Imul, Not, Neg, Idiv, Cqo, ShiftImm, ShiftCl, Movsxd, Movzx8, Movsx8, Setcc, Cmov, MovImm32, MovImm64, MovImmS, AluImm, Load, LoadZx8, LoadSx8, LoadSx32, Store, CmpFlat, JmpR10, CallR10, Call, Jmp, Jcc, Ud2, Nop}
use Rattle.x64_decode.specs.Spelling.{number, condition, alu_opcode, alu_extension, shift_extension, segment_prefix, rex, modrm, between, operand, access, signed_bytes, store_wide, store_opcode, spelling, HasSpelling}
use Rattle.x64_decode.specs.Reading.{gives, then_read, reg_of, cond_of, alu_of_opcode, signed_at, shift_by_number, unary_form, move_signed_form, alu_by_number, wide_form, wide_two_byte_form, set_byte_form, jump_at, call_at, narrow_form, one_byte, two_byte, registers_at, number_form, escaped, after_rex, displaced, indexed, operand_at, access_form, byte_form, escaped_access, access_at, is_wide, high_reg, high_rm, segment_at, comparison_at, control_at, read}
use Rattle.x64_decode.proofs.Numbers.{number_again_4, number_again_8, signed_again}
use Rattle.x64_decode.proofs.Tables.{reg_again, number_below, cond_again, condition_below, extension_again, shift_again}

-- ---- REX and ModRM

rex_high : (w : Bool) (x y : ℕ) → x < 16 → y < 16 → rex w x y / 16 ≡ 4
rex_high true x y h g = omega arith
rex_high false x y h g = omega arith

rex_index : (w : Bool) (x y : ℕ) → x < 16 → y < 16 → rex w x y / 2 % 2 ≡ 0
rex_index true x y h g = omega arith
rex_index false x y h g = omega arith

rex_wide : (w : Bool) (x y : ℕ) → x < 16 → y < 16 → is_wide (rex w x y) ≡ w
rex_wide true x y h g = eq-eqb (rex true x y / 8 % 2) 1 (omega arith)
rex_wide false x y h g = ne_eqb (rex false x y / 8 % 2) 1 (omega arith)

rex_reg : (w : Bool) (x y : ℕ) → x < 16 → y < 16 → high_reg (rex w x y) ≡ x / 8
rex_reg true x y h g = omega arith
rex_reg false x y h g = omega arith

rex_rm : (w : Bool) (x y : ℕ) → x < 16 → y < 16 → high_rm (rex w x y) ≡ y / 8
rex_rm true x y h g = omega arith
rex_rm false x y h g = omega arith

-- behind a REX of the table
read_rex : (w : Bool) (x y : ℕ) (rest : List ℕ) → x < 16 → y < 16 → read (rex w x y ∷ rest) ≡ after_rex w (x / 8) (y / 8) rest
unfolding read
read_rex w x y rest h g =
    cond-true _ _ _ (eq-eqb (rex w x y / 16) 4 (rex_high w x y h g))
    ∙ cond-true _ _ _ (eq-eqb (rex w x y / 2 % 2) 0 (rex_index w x y h g))
    ∙ (let a = rex_wide w x y h g in let b = rex_reg w x y h g in let c = rex_rm w x y h g in cc)

registers_again : (x y : ℕ) (rest : List ℕ) → x < 16 → y < 16 → registers_at (x / 8) (y / 8) (between x y ∷ rest) ≡ Some (x, y, rest)
unfolding registers_at
registers_again x y rest h g =
    cond-true _ _ _ (eq-eqb (between x y / 64) 3 (omega arith))
    ∙ (let a : 8 * (x / 8) + between x y / 8 % 8 ≡ x = omega arith in let b : 8 * (y / 8) + between x y % 8 ≡ y = omega arith in
    ap (λ n. let o : Option (ℕ × ℕ × List ℕ) = Some (n, 8 * (y / 8) + between x y % 8, rest) in o) a
    ∙ ap (λ n. let o : Option (ℕ × ℕ × List ℕ) = Some (x, n, rest) in o) b)

-- an opcode of one byte that is read by its registers
abbrev IsPlain : ℕ → Type 0
IsPlain opcode = (eqb opcode 0x0f ≡ false) × (eqb (opcode / 8) 0x17 ≡ false) × (eqb opcode 0x99 ≡ false)

after_plain : (w : Bool) (hx hy opcode : ℕ) (rest : List ℕ) → IsPlain opcode →
    after_rex w hx hy (opcode ∷ rest) ≡ then_read (registers_at hx hy rest) (λ r. one_byte w opcode r.0 r.1 r.2)
unfolding after_rex
after_plain w hx hy opcode rest h = cond-false _ _ _ h.0 ∙ cond-false _ _ _ h.1 ∙ cond-false _ _ _ h.2

-- a row with an opcode of one byte
row_1 : (w : Bool) (x y opcode : ℕ) (rest : List ℕ) → x < 16 → y < 16 → IsPlain opcode →
    read (rex w x y ∷ (opcode ∷ (between x y ∷ rest))) ≡ one_byte w opcode x y rest
row_1 w x y opcode rest h g plain =
    read_rex w x y (opcode ∷ (between x y ∷ rest)) h g
    ∙ after_plain w (x / 8) (y / 8) opcode (between x y ∷ rest) plain
    ∙ ap (λ o. then_read o (λ r. one_byte w opcode r.0 r.1 r.2)) (registers_again x y rest h g)

-- a row with 0F and another byte
row_2 : (w : Bool) (x y opcode : ℕ) (rest : List ℕ) → x < 16 → y < 16 →
    read (rex w x y ∷ (0x0f ∷ (opcode ∷ (between x y ∷ rest)))) ≡ two_byte w opcode x y rest
unfolding after_rex escaped
row_2 w x y opcode rest h g =
    read_rex w x y (0x0f ∷ (opcode ∷ (between x y ∷ rest))) h g
    ∙ ap (λ o. then_read o (λ r. two_byte w opcode r.0 r.1 r.2)) (registers_again x y rest h g)

plain_alu : (op : AluOp) → IsPlain (alu_opcode op)
plain_alu alu.Add = (refl, refl, refl)
plain_alu alu.Or = (refl, refl, refl)
plain_alu alu.And = (refl, refl, refl)
plain_alu alu.Sub = (refl, refl, refl)
plain_alu alu.Xor = (refl, refl, refl)
plain_alu alu.Cmp = (refl, refl, refl)

alu_form : (op : AluOp) (x y : ℕ) (rest : List ℕ) → one_byte true (alu_opcode op) x y rest ≡ gives (Alu op (reg_of y) (reg_of x)) rest
unfolding one_byte wide_form alu_of_opcode
alu_form alu.Add x y rest = refl
alu_form alu.Or x y rest = refl
alu_form alu.And x y rest = refl
alu_form alu.Sub x y rest = refl
alu_form alu.Xor x y rest = refl
alu_form alu.Cmp x y rest = refl

-- the registers of a row are those that it names
named_2 : (make : Reg → Reg → Instr) (a b : Reg) (rest : List ℕ) → gives (make (reg_of (number a)) (reg_of (number b))) rest ≡ gives (make a b) rest
named_2 make a b rest = let e = reg_again a in let f = reg_again b in cc

named_1 : (make : Reg → Instr) (a : Reg) (rest : List ℕ) → gives (make (reg_of (number a))) rest ≡ gives (make a) rest
named_1 make a rest = ap (λ r. gives (make r) rest) (reg_again a)

-- ---- rows with a condition

cond_high : (c : Cond) (k : ℕ) → (16 * k + condition c) / 16 ≡ k
cond_high c k = omega (arith, condition_below c)

cond_low : (c : Cond) (k : ℕ) → cond_of ((16 * k + condition c) % 16) ≡ Some c
cond_low c k = ap cond_of (let e : (16 * k + condition c) % 16 ≡ condition c = omega (arith, condition_below c) in e) ∙ cond_again c

-- ---- memory operands

displaced_again : (x : ℕ) (mem : Mem) (rest : List ℕ) → FitsSigned w32 mem.disp →
    displaced mem.seg x (number mem.base) (signed_bytes mem.disp ++ rest) ≡ Some (x, mem, rest)
unfolding displaced
displaced_again x mem rest fits =
    ap (λ o. option_map (λ (n : ℤ × List ℕ). let r : ℕ × Mem × List ℕ = (x, record { seg = mem.seg; base = reg_of (number mem.base); disp = n.0 }, n.1) in r) o) (signed_again mem.disp rest fits)
    ∙ ap (λ b. let o : Option (ℕ × Mem × List ℕ) = Some (x, record { seg = mem.seg; base = b; disp = mem.disp }, rest) in o) (reg_again mem.base)

behind_modrm : (x : ℕ) (mem : Mem) (rest : List ℕ) (b : Bool) → FitsSigned w32 mem.disp →
    cond b (indexed mem.seg x (number mem.base) ((cond b (0x24 ∷ []) [] ++ signed_bytes mem.disp) ++ rest))
    (displaced mem.seg x (number mem.base) ((cond b (0x24 ∷ []) [] ++ signed_bytes mem.disp) ++ rest)) ≡ Some (x, mem, rest)
unfolding indexed
behind_modrm x mem rest true fits = displaced_again x mem rest fits
behind_modrm x mem rest false fits = displaced_again x mem rest fits

operand_again : (x : ℕ) (mem : Mem) (rest : List ℕ) → x < 16 → FitsSigned w32 mem.disp →
    operand_at mem.seg (x / 8) (number mem.base / 8) (operand x mem ++ rest) ≡ Some (x, mem, rest)
unfolding operand_at
operand_again x mem rest h fits =
    let y = number mem.base in
    let g : y < 16 = number_below mem.base in
    let m = modrm 2 x y in
    let tail = (cond (eqb (y % 8) 4) (0x24 ∷ []) [] ++ signed_bytes mem.disp) ++ rest in
    let a : 8 * (x / 8) + m / 8 % 8 ≡ x = omega arith in
    let b : 8 * (y / 8) + m % 8 ≡ y = omega arith in
    let c : m % 8 ≡ y % 8 = omega arith in
    cond-true _ _ _ (eq-eqb (m / 64) 2 (omega arith))
    ∙ ap (λ n. cond (eqb (m % 8) 4) (indexed mem.seg n (8 * (y / 8) + m % 8) tail) (displaced mem.seg n (8 * (y / 8) + m % 8) tail)) a
    ∙ ap (λ n. cond (eqb (m % 8) 4) (indexed mem.seg x n tail) (displaced mem.seg x n tail)) b
    ∙ ap (λ n. cond (eqb n 4) (indexed mem.seg x y tail) (displaced mem.seg x y tail)) c
    ∙ behind_modrm x mem rest (eqb (y % 8) 4) fits

segment_again : (w : Bool) (x : ℕ) (mem : Mem) (rest : List ℕ) → x < 16 →
    segment_at mem.seg (0x67 ∷ (rex w x (number mem.base) ∷ rest)) ≡ access_at mem.seg w (x / 8) (number mem.base / 8) rest
unfolding segment_at
segment_again w x mem rest h =
    let y = number mem.base in
    let g : y < 16 = number_below mem.base in
    cond-true _ _ _ (and_from (eqb (rex w x y / 16) 4) (eqb (rex w x y / 2 % 2) 0) (eq-eqb _ _ (rex_high w x y h g)) (eq-eqb _ _ (rex_index w x y h g)))
    ∙ (let a = rex_wide w x y h g in let b = rex_reg w x y h g in let c = rex_rm w x y h g in cc)

read_segment : (seg : Seg) (rest : List ℕ) → read (segment_prefix seg ∷ rest) ≡ segment_at seg rest
unfolding read
read_segment Fs rest = refl
read_segment Gs rest = refl

access_again : (w : Bool) (x : ℕ) (mem : Mem) (rest : List ℕ) → x < 16 →
    read (access w x mem ++ rest) ≡ access_at mem.seg w (x / 8) (number mem.base / 8) rest
access_again w x mem rest h = read_segment mem.seg (0x67 ∷ (rex w x (number mem.base) ∷ rest)) ∙ segment_again w x mem rest h

-- a row whose opcode of one byte stands before its operand
row_m : (w : Bool) (x opcode : ℕ) (mem : Mem) (rest : List ℕ) → x < 16 → FitsSigned w32 mem.disp → eqb opcode 0x0f ≡ false →
    read ((access w x mem ++ opcode ∷ operand x mem) ++ rest) ≡ access_form w opcode x mem rest
unfolding access_at
row_m w x opcode mem rest h fits plain =
    access_again w x mem (opcode ∷ (operand x mem ++ rest)) h
    ∙ cond-false _ _ _ plain
    ∙ ap (λ o. then_read o (λ r. access_form w opcode r.0 r.1 r.2)) (operand_again x mem rest h fits)

row_m2 : (w : Bool) (x opcode : ℕ) (mem : Mem) (rest : List ℕ) → x < 16 → FitsSigned w32 mem.disp →
    read ((access w x mem ++ 0x0f ∷ opcode ∷ operand x mem) ++ rest) ≡ byte_form w opcode x mem rest
unfolding access_at escaped_access
row_m2 w x opcode mem rest h fits =
    access_again w x mem (0x0f ∷ (opcode ∷ (operand x mem ++ rest))) h
    ∙ ap (λ o. then_read o (λ r. byte_form w opcode r.0 r.1 r.2)) (operand_again x mem rest h fits)

store_form : (width : Width) (x : ℕ) (mem : Mem) (rest : List ℕ) → access_form (store_wide width) (store_opcode width) x mem rest ≡ gives (Store width mem (reg_of x)) rest
unfolding access_form
store_form B1 x mem rest = refl
store_form B4 x mem rest = refl
store_form B8 x mem rest = refl

store_plain : (width : Width) → eqb (store_opcode width) 0x0f ≡ false
store_plain B1 = refl
store_plain B4 = refl
store_plain B8 = refl

-- ---- rows with an immediate number

-- MOV of a number: the register stands in the opcode
move_again : (w : Bool) (dst : Reg) (rest : List ℕ) →
    read (rex w 0 (number dst) ∷ ((0xb8 + number dst % 8) ∷ rest)) ≡ number_form w (number dst) rest
unfolding after_rex
move_again w dst rest =
    let y = number dst in
    let g : y < 16 = number_below dst in
    let b : 8 * (y / 8) + (0xb8 + y % 8) % 8 ≡ y = omega arith in
    read_rex w 0 y ((0xb8 + y % 8) ∷ rest) (omega arith) g
    ∙ cond-false _ _ _ (ne_eqb (0xb8 + y % 8) 0x0f (omega arith))
    ∙ cond-true _ _ _ (eq-eqb ((0xb8 + y % 8) / 8) 0x17 (omega arith))
    ∙ ap (λ n. number_form w n rest) b

-- an extension of the opcode has no high bit, so REX is that of the register alone
row_x : (x y opcode : ℕ) (rest : List ℕ) → x < 8 → y < 16 → IsPlain opcode →
    read (rex true 0 y ∷ (opcode ∷ (between x y ∷ rest))) ≡ one_byte true opcode x y rest
row_x x y opcode rest h g plain =
    ap (λ b. read (b ∷ (opcode ∷ (between x y ∷ rest)))) (let e : rex true 0 y ≡ rex true x y = omega arith in e)
    ∙ row_1 true x y opcode rest (omega arith) g plain

pub shift_small : (op : ShiftOp) → shift_extension op < 8
shift_small shift.Shl = omega arith
shift_small shift.Shr = omega arith
shift_small shift.Sar = omega arith

pub extension_small : (op : AluOp) → alu_extension op < 8
extension_small alu.Add = omega arith
extension_small alu.Or = omega arith
extension_small alu.And = omega arith
extension_small alu.Sub = omega arith
extension_small alu.Xor = omega arith
extension_small alu.Cmp = omega arith

-- a condition's opcode behind 0F is none of those that are looked for first
cmov_form : (c : Cond) (x y : ℕ) (rest : List ℕ) → two_byte true (0x40 + condition c) x y rest ≡ gives (Cmov c (reg_of x) (reg_of y)) rest
unfolding two_byte wide_two_byte_form
cmov_form c x y rest =
    cond-false _ _ _ (ne_eqb (0x40 + condition c) 0xaf (omega (arith, condition_below c)))
    ∙ cond-false _ _ _ (ne_eqb (0x40 + condition c) 0xb6 (omega (arith, condition_below c)))
    ∙ cond-false _ _ _ (ne_eqb (0x40 + condition c) 0xbe (omega (arith, condition_below c)))
    ∙ cond-true _ _ _ (eq-eqb ((0x40 + condition c) / 16) 4 (cond_high c 4))
    ∙ ap (λ o. then_read o (λ k. gives (Cmov k (reg_of x) (reg_of y)) rest)) (cond_low c 4)

jcc_form : (c : Cond) (rel : ℤ) (rest : List ℕ) → FitsSigned w32 rel → control_at ((0x80 + condition c) ∷ (signed_bytes rel ++ rest)) ≡ gives (Jcc c rel) rest
unfolding control_at
jcc_form c rel rest fits =
    cond-false _ _ _ (ne_eqb (0x80 + condition c) 0x0b (omega (arith, condition_below c)))
    ∙ cond-true _ _ _ (eq-eqb ((0x80 + condition c) / 16) 8 (cond_high c 8))
    ∙ ap (λ o. then_read o (λ k. then_read (signed_at (signed_bytes rel ++ rest)) (λ n. gives (Jcc k n.0) n.1))) (cond_low c 8)
    ∙ ap (λ o. then_read o (λ n. gives (Jcc c n.0) n.1)) (signed_again rel rest fits)

-- ---- THE TABLE IS READ

pub again : (i : Instr) (rest : List ℕ) → HasSpelling i → read (spelling i ++ rest) ≡ gives i rest
unfolding spelling read after_rex registers_at one_byte wide_form unary_form shift_by_number move_signed_form alu_by_number two_byte wide_two_byte_form set_byte_form narrow_form number_form access_form byte_form control_at jump_at call_at comparison_at
again (Mov wide dst src) rest fits = row_1 wide (number src) (number dst) 0x89 rest (number_below src) (number_below dst) (refl, refl, refl) ∙ named_2 (λ a b. Mov wide a b) dst src rest
again (Alu op dst src) rest fits = row_1 true (number src) (number dst) (alu_opcode op) rest (number_below src) (number_below dst) (plain_alu op) ∙ alu_form op (number src) (number dst) rest ∙ named_2 (λ a b. Alu op a b) dst src rest
again (Test a b) rest fits = row_1 true (number b) (number a) 0x85 rest (number_below b) (number_below a) (refl, refl, refl) ∙ named_2 (λ x y. Test x y) a b rest
again (Imul dst src) rest fits = row_2 true (number dst) (number src) 0xaf rest (number_below dst) (number_below src) ∙ named_2 (λ a b. Imul a b) dst src rest
again (Not r) rest fits = row_1 true 2 (number r) 0xf7 rest (omega arith) (number_below r) (refl, refl, refl) ∙ named_1 (λ a. Not a) r rest
again (Neg r) rest fits = row_1 true 3 (number r) 0xf7 rest (omega arith) (number_below r) (refl, refl, refl) ∙ named_1 (λ a. Neg a) r rest
again (Idiv r) rest fits = row_1 true 7 (number r) 0xf7 rest (omega arith) (number_below r) (refl, refl, refl) ∙ named_1 (λ a. Idiv a) r rest
again Cqo rest fits = refl
again (ShiftImm op r count) rest fits =
    row_x (shift_extension op) (number r) 0xc1 (count ∷ rest) (shift_small op) (number_below r) (refl, refl, refl)
    ∙ ap (λ o. then_read o (λ x. cond (leb 1 count && leb count 63) (gives (ShiftImm x (reg_of (number r)) count) rest) None)) (shift_again op)
    ∙ cond-true _ _ _ (and_from (leb 1 count) (leb count 63) (le-leb 1 count fits.0) (le-leb count 63 fits.1))
    ∙ named_1 (λ a. ShiftImm op a count) r rest
again (ShiftCl op r) rest fits =
    row_x (shift_extension op) (number r) 0xd3 rest (shift_small op) (number_below r) (refl, refl, refl)
    ∙ ap (λ o. then_read o (λ x. gives (ShiftCl x (reg_of (number r))) rest)) (shift_again op) ∙ named_1 (λ a. ShiftCl op a) r rest
again (Movsxd dst src) rest fits = row_1 true (number dst) (number src) 0x63 rest (number_below dst) (number_below src) (refl, refl, refl) ∙ named_2 (λ a b. Movsxd a b) dst src rest
again (Movzx8 dst src) rest fits = row_2 true (number dst) (number src) 0xb6 rest (number_below dst) (number_below src) ∙ named_2 (λ a b. Movzx8 a b) dst src rest
again (Movsx8 dst src) rest fits = row_2 true (number dst) (number src) 0xbe rest (number_below dst) (number_below src) ∙ named_2 (λ a b. Movsx8 a b) dst src rest
again (Setcc c r) rest fits =
    row_2 false 0 (number r) (0x90 + condition c) rest (omega arith) (number_below r)
    ∙ cond-true _ _ _ (and_from (eqb ((0x90 + condition c) / 16) 9) true (eq-eqb _ _ (cond_high c 9)) refl)
    ∙ ap (λ o. then_read o (λ x. gives (Setcc x (reg_of (number r))) rest)) (cond_low c 9) ∙ named_1 (λ a. Setcc c a) r rest
again (Cmov c dst src) rest fits = row_2 true (number dst) (number src) (0x40 + condition c) rest (number_below dst) (number_below src) ∙ cmov_form c (number dst) (number src) rest ∙ named_2 (λ a b. Cmov c a b) dst src rest
again (MovImm32 dst imm) rest fits =
    move_again false dst (word_bytes 4 imm ++ rest)
    ∙ ap (λ o. then_read o (λ n. gives (MovImm32 (reg_of (number dst)) n.0) n.1)) (number_again_4 imm rest fits) ∙ named_1 (λ a. MovImm32 a imm) dst rest
again (MovImm64 dst imm) rest fits =
    move_again true dst (word_bytes 8 imm ++ rest)
    ∙ ap (λ o. then_read o (λ n. gives (MovImm64 (reg_of (number dst)) n.0) n.1)) (number_again_8 imm rest fits) ∙ named_1 (λ a. MovImm64 a imm) dst rest
again (MovImmS dst imm) rest fits =
    row_1 true 0 (number dst) 0xc7 (signed_bytes imm ++ rest) (omega arith) (number_below dst) (refl, refl, refl)
    ∙ ap (λ o. then_read o (λ n. gives (MovImmS (reg_of (number dst)) n.0) n.1)) (signed_again imm rest fits) ∙ named_1 (λ a. MovImmS a imm) dst rest
again (AluImm op dst imm) rest fits =
    row_x (alu_extension op) (number dst) 0x81 (signed_bytes imm ++ rest) (extension_small op) (number_below dst) (refl, refl, refl)
    ∙ ap (λ o. then_read o (λ x. then_read (signed_at (signed_bytes imm ++ rest)) (λ n. gives (AluImm x (reg_of (number dst)) n.0) n.1))) (extension_again op)
    ∙ ap (λ o. then_read o (λ n. gives (AluImm op (reg_of (number dst)) n.0) n.1)) (signed_again imm rest fits) ∙ named_1 (λ a. AluImm op a imm) dst rest
again (Load wide dst mem) rest fits = row_m wide (number dst) 0x8b mem rest (number_below dst) fits refl ∙ named_1 (λ a. Load wide a mem) dst rest
again (LoadZx8 dst mem) rest fits = row_m2 true (number dst) 0xb6 mem rest (number_below dst) fits ∙ named_1 (λ a. LoadZx8 a mem) dst rest
again (LoadSx8 dst mem) rest fits = row_m2 true (number dst) 0xbe mem rest (number_below dst) fits ∙ named_1 (λ a. LoadSx8 a mem) dst rest
again (LoadSx32 dst mem) rest fits = row_m true (number dst) 0x63 mem rest (number_below dst) fits refl ∙ named_1 (λ a. LoadSx32 a mem) dst rest
again (Store width mem src) rest fits =
    row_m (store_wide width) (number src) (store_opcode width) mem rest (number_below src) fits (store_plain width)
    ∙ store_form width (number src) mem rest ∙ named_1 (λ a. Store width mem a) src rest
again CmpFlat rest fits = refl
again JmpR10 rest fits = refl
again CallR10 rest fits = refl
again (Call rel) rest fits = ap (λ o. then_read o (λ n. gives (Call n.0) n.1)) (signed_again rel rest fits)
again (Jmp rel) rest fits = ap (λ o. then_read o (λ n. gives (Jmp n.0) n.1)) (signed_again rel rest fits)
again (Jcc c rel) rest fits = jcc_form c rel rest fits
again Ud2 rest fits = refl
again Nop rest fits = refl
