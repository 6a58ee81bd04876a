-- What is read is spelled by the bytes that were taken.
use Rattle.std.proofs.Common.{◌≡◌, ℕ, ◌+◌, ◌*◌, ◌/◌, ◌%◌, ◌<◌, Bool, true, false, ◌&&◌, cond, List, [], ◌∷◌, ◌++◌, Option, Some, None, refl, sym, ◌∙◌, ap, subst, arith, eqb, leb, ℤ, inl, inr}
use Rattle.std.specs.Prelude.{FitsSigned}
use Rattle.std.specs.Int.{w32}
use Rattle.std.specs.Option.{option_map}
use Rattle.std.proofs.lemmas.Bool.{cond_both, and_parts, eqb-true, eqb-false, leb-true, cases_Bool, eq-eqb}
use Rattle.cv_word.specs.Words.{AreBytes}
use Rattle.x64_decode.specs.declared.instr.Seg.{Seg}
use Rattle.x64_decode.specs.declared.instr.Seg.TheVariants.{Fs, Gs}
use Rattle.x64_decode.specs.declared.instr.Width.TheVariants.{B1, B4, B8}
use Rattle.x64_decode.specs.declared.instr.Mem.{Mem}
use Rattle.x64_decode.specs.declared.instr.Instr.{Instr}
use Rattle.x64_decode.specs.declared.instr.Instr.TheVariants.{Mov, Alu, Test, Imul, Not, Neg, Idiv, Cqo, ShiftImm, ShiftCl, Movsxd, Movzx8, Movsx8, Setcc, Cmov, MovImm32, MovImm64, MovImmS, AluImm, Load, LoadZx8, LoadSx8, LoadSx32, Store, CmpFlat, JmpR10, CallR10, Call, Jmp, Jcc, Ud2, Nop}
use Rattle.x64_decode.specs.Spelling.{number, condition, alu_extension, shift_extension, segment_prefix, rex, modrm, between, operand, signed_bytes, spelling, HasSpelling}
use Rattle.x64_decode.specs.Reading.{Read, gives, then_read, reg_of, number_4, number_8, signed_at, shift_by_number, unary_form, move_signed_form, alu_by_number, wide_form, wide_two_byte_form, set_byte_form, jump_at, call_at, narrow_form, one_byte, two_byte, registers_at, number_form, escaped, after_rex, displaced, indexed, operand_at, access_form, byte_form, escaped_access, access_at, has_no_index, is_wide, high_reg, high_rm, segment_at, comparison_at, control_at, read}
use Rattle.x64_decode.proofs.Numbers.{NumberOf, number_taken_4, number_taken_8, Signed, SignedOf, signed_taken, tail_bytes}
use Rattle.x64_decode.proofs.Tables.{number_reg, condition_found, alu_found, extension_found, shift_found}
use Rattle.x64_decode.proofs.Spelled.{shift_small, extension_small}

-- the bytes are the spelling of an instruction, and what was left
pub record Took (bytes : List ℕ) (i : Instr) (rest : List ℕ) : Type 0 where
  pub whole : bytes ≡ spelling i ++ rest
  pub proper : HasSpelling i

abbrev pub TookOf : List ℕ → Read → Type 0
TookOf bytes None = Unit {0}
TookOf bytes (Some q) = Took bytes q.0 q.1

either : (bytes : List ℕ) (b : Bool) (p q : Read) → (b ≡ true → TookOf bytes p) → (b ≡ false → TookOf bytes q) → TookOf bytes (cond b p q)
either bytes b p q f g = cond_both b p q (TookOf bytes) f g

then_took : {A : Type 0} (bytes : List ℕ) (o : Option A) (f : A → Read) → ((x : A) → o ≡ Some x → TookOf bytes (f x)) → TookOf bytes (then_read o f)
then_took bytes None f h = tt
then_took bytes (Some x) f h = h x refl

took : (bytes : List ℕ) (i : Instr) (rest : List ℕ) → bytes ≡ spelling i ++ rest → HasSpelling i → TookOf bytes (gives i rest)
took bytes i rest e h = record { whole = e; proper = h }

-- behind a signed number
then_signed : (bytes rest : List ℕ) (f : ℤ × List ℕ → Read) → AreBytes rest → ((z : ℤ × List ℕ) → Signed rest z.0 z.1 → TookOf bytes (f z)) → TookOf bytes (then_read (signed_at rest) f)
then_signed bytes rest f h g = then_took bytes (signed_at rest) f (λ z e. g z (subst (λ o. SignedOf rest o) e (signed_taken rest h)))

-- two registers
two : (w : Bool) (x y opcode k : ℕ) (rest : List ℕ) → x < 16 → y < 16 → eqb opcode k ≡ true →
    rex w x y ∷ (opcode ∷ (between x y ∷ rest)) ≡ rex w (number (reg_of x)) (number (reg_of y)) ∷ (k ∷ (between (number (reg_of x)) (number (reg_of y)) ∷ rest))
two w x y opcode k rest h g e = let a = number_reg x h in let b = number_reg y g in let c = eqb-true opcode k e in cc

-- an extension and a register
extended : (x y opcode k e : ℕ) (rest : List ℕ) → x ≡ e → e < 8 → y < 16 → eqb opcode k ≡ true →
    rex true x y ∷ (opcode ∷ (between x y ∷ rest)) ≡ rex true 0 (number (reg_of y)) ∷ (k ∷ (between e (number (reg_of y)) ∷ rest))
extended x y opcode k e rest same small g h =
    let a = number_reg y g in let c = eqb-true opcode k h in let r : rex true x y ≡ rex true 0 y = omega arith in
    ap (λ n. n ∷ (opcode ∷ (between x y ∷ rest))) r
    ∙ ap (λ n. rex true 0 n ∷ (opcode ∷ (between x n ∷ rest))) (sym a)
    ∙ ap (λ n. rex true 0 (number (reg_of y)) ∷ (n ∷ (between x (number (reg_of y)) ∷ rest))) c
    ∙ ap (λ n. rex true 0 (number (reg_of y)) ∷ (k ∷ (between n (number (reg_of y)) ∷ rest))) same

-- the bytes of a row whose opcode has one byte
abbrev row_bytes : Bool → ℕ → ℕ → ℕ → List ℕ → List ℕ
row_bytes w opcode x y rest = rex w x y ∷ (opcode ∷ (between x y ∷ rest))

unary_taken : (opcode x y : ℕ) (rest : List ℕ) → y < 16 → eqb opcode 0xf7 ≡ true → TookOf (row_bytes true opcode x y rest) (unary_form x y rest)
unfolding unary_form spelling
unary_taken opcode x y rest g h =
    either _ _ _ _ (λ e. took _ (Not (reg_of y)) rest (extended x y opcode 0xf7 2 rest (eqb-true x 2 e) (omega arith) g h) tt) (λ _.
    either _ _ _ _ (λ e. took _ (Neg (reg_of y)) rest (extended x y opcode 0xf7 3 rest (eqb-true x 3 e) (omega arith) g h) tt) (λ _.
    either _ _ _ _ (λ e. took _ (Idiv (reg_of y)) rest (extended x y opcode 0xf7 7 rest (eqb-true x 7 e) (omega arith) g h) tt) (λ _. tt)))

shift_taken : (opcode x y : ℕ) (rest : List ℕ) → x < 16 → y < 16 → eqb opcode 0xc1 ≡ true → TookOf (row_bytes true opcode x y rest) (shift_by_number x y rest)
unfolding shift_by_number spelling
shift_taken opcode x y [] hx g h = tt
shift_taken opcode x y (count ∷ rest) hx g h =
    then_took _ _ _ (λ op e. either _ _ _ _ (λ small.
    let p = and_parts (leb 1 count) (leb count 63) small in
    took _ (ShiftImm op (reg_of y) count) rest
    (extended x y opcode 0xc1 (shift_extension op) (count ∷ rest) (sym (shift_found x op hx e)) (shift_small op) g h)
    (leb-true 1 count p.0, leb-true count 63 p.1)) (λ _. tt))

move_signed_taken : (opcode x y : ℕ) (rest : List ℕ) → y < 16 → eqb opcode 0xc7 ≡ true → AreBytes rest → TookOf (row_bytes true opcode x y rest) (move_signed_form x y rest)
unfolding move_signed_form spelling
move_signed_taken opcode x y rest g h bytes =
    either _ _ _ _ (λ e. then_signed _ rest _ bytes (λ z s.
    took _ (MovImmS (reg_of y) z.0) z.1
    (extended x y opcode 0xc7 0 rest (eqb-true x 0 e) (omega arith) g h ∙ ap (λ t. rex true 0 (number (reg_of y)) ∷ (0xc7 ∷ (between 0 (number (reg_of y)) ∷ t))) s.whole)
    s.fits)) (λ _. tt)

alu_by_number_taken : (opcode x y : ℕ) (rest : List ℕ) → x < 16 → y < 16 → eqb opcode 0x81 ≡ true → AreBytes rest → TookOf (row_bytes true opcode x y rest) (alu_by_number x y rest)
unfolding alu_by_number spelling
alu_by_number_taken opcode x y rest hx g h bytes =
    then_took _ _ _ (λ op e. then_signed _ rest _ bytes (λ z s.
    took _ (AluImm op (reg_of y) z.0) z.1
    (extended x y opcode 0x81 (alu_extension op) rest (sym (extension_found x op hx e)) (extension_small op) g h
    ∙ ap (λ t. rex true 0 (number (reg_of y)) ∷ (0x81 ∷ (between (alu_extension op) (number (reg_of y)) ∷ t))) s.whole)
    s.fits))

wide_taken : (opcode x y : ℕ) (rest : List ℕ) → opcode < 256 → x < 16 → y < 16 → AreBytes rest → TookOf (row_bytes true opcode x y rest) (wide_form opcode x y rest)
unfolding wide_form spelling
wide_taken opcode x y rest ho hx hy bytes =
    either _ _ _ _ (λ e. took _ (Test (reg_of y) (reg_of x)) rest (two true x y opcode 0x85 rest hx hy e) tt) (λ _.
    either _ _ _ _ (λ e. took _ (Movsxd (reg_of x) (reg_of y)) rest (two true x y opcode 0x63 rest hx hy e) tt) (λ _.
    either _ _ _ _ (λ e. unary_taken opcode x y rest hy e) (λ _.
    either _ _ _ _ (λ e. shift_taken opcode x y rest hx hy e) (λ _.
    either _ _ _ _ (λ h. then_took _ _ _ (λ op e. took _ (ShiftCl op (reg_of y)) rest
    (extended x y opcode 0xd3 (shift_extension op) rest (sym (shift_found x op hx e)) (shift_small op) hy h) tt)) (λ _.
    either _ _ _ _ (λ e. move_signed_taken opcode x y rest hy e bytes) (λ _.
    either _ _ _ _ (λ e. alu_by_number_taken opcode x y rest hx hy e bytes) (λ _.
    then_took _ _ _ (λ op e. took _ (Alu op (reg_of y) (reg_of x)) rest
    (let a = number_reg x hx in let b = number_reg y hy in let c = alu_found opcode op ho e in cc) tt))))))))

-- the same bytes, by the values of the fields
row_same : (w : Bool) (opcode x y o a b : ℕ) (rest : List ℕ) → opcode ≡ o → x ≡ a → y ≡ b → row_bytes w opcode x y rest ≡ row_bytes w o a b rest
row_same w opcode x y o a b rest e f g =
    ap (λ n. row_bytes w n x y rest) e ∙ ap (λ n. row_bytes w o n y rest) f ∙ ap (λ n. row_bytes w o a n rest) g

narrow_taken : (opcode x y : ℕ) (rest : List ℕ) → TookOf (row_bytes false opcode x y rest) (narrow_form opcode x y rest)
unfolding narrow_form spelling
narrow_taken opcode x y rest =
    either _ _ _ _ (λ h.
    let p = and_parts (eqb opcode 0xff) (eqb y 10) h in
    let o = eqb-true opcode 0xff p.0 in let r = eqb-true y 10 p.1 in
    either _ _ _ _ (λ e. took _ JmpR10 rest (row_same false opcode x y 0xff 4 10 rest o (eqb-true x 4 e) r) tt) (λ _.
    either _ _ _ _ (λ e. took _ CallR10 rest (row_same false opcode x y 0xff 2 10 rest o (eqb-true x 2 e) r) tt) (λ _. tt)))
    (λ _. tt)

one_byte_taken : (w : Bool) (opcode x y : ℕ) (rest : List ℕ) → opcode < 256 → x < 16 → y < 16 → AreBytes rest → TookOf (row_bytes w opcode x y rest) (one_byte w opcode x y rest)
unfolding one_byte spelling
one_byte_taken true opcode x y rest ho hx hy bytes =
    either _ _ _ _ (λ e. took _ (Mov true (reg_of y) (reg_of x)) rest (two true x y opcode 0x89 rest hx hy e) tt) (λ _. wide_taken opcode x y rest ho hx hy bytes)
one_byte_taken false opcode x y rest ho hx hy bytes =
    either _ _ _ _ (λ e. took _ (Mov false (reg_of y) (reg_of x)) rest (two false x y opcode 0x89 rest hx hy e) tt) (λ _. narrow_taken opcode x y rest)

-- the bytes of a row with 0F and another byte
abbrev row_bytes_2 : Bool → ℕ → ℕ → ℕ → List ℕ → List ℕ
row_bytes_2 w opcode x y rest = rex w x y ∷ (0x0f ∷ (opcode ∷ (between x y ∷ rest)))

two_2 : (w : Bool) (x y opcode k : ℕ) (rest : List ℕ) → x < 16 → y < 16 → opcode ≡ k →
    row_bytes_2 w opcode x y rest ≡ row_bytes_2 w k (number (reg_of x)) (number (reg_of y)) rest
two_2 w x y opcode k rest h g e =
    ap (λ n. row_bytes_2 w n x y rest) e ∙ ap (λ n. row_bytes_2 w k n y rest) (sym (number_reg x h)) ∙ ap (λ n. row_bytes_2 w k (number (reg_of x)) n rest) (sym (number_reg y g))

two_byte_taken : (w : Bool) (opcode x y : ℕ) (rest : List ℕ) → x < 16 → y < 16 → TookOf (row_bytes_2 w opcode x y rest) (two_byte w opcode x y rest)
unfolding two_byte wide_two_byte_form set_byte_form spelling
two_byte_taken true opcode x y rest hx hy =
    either _ _ _ _ (λ e. took _ (Imul (reg_of x) (reg_of y)) rest (two_2 true x y opcode 0xaf rest hx hy (eqb-true opcode 0xaf e)) tt) (λ _.
    either _ _ _ _ (λ e. took _ (Movzx8 (reg_of x) (reg_of y)) rest (two_2 true x y opcode 0xb6 rest hx hy (eqb-true opcode 0xb6 e)) tt) (λ _.
    either _ _ _ _ (λ e. took _ (Movsx8 (reg_of x) (reg_of y)) rest (two_2 true x y opcode 0xbe rest hx hy (eqb-true opcode 0xbe e)) tt) (λ _.
    either _ _ _ _ (λ h. then_took _ _ _ (λ c e. took _ (Cmov c (reg_of x) (reg_of y)) rest
    (two_2 true x y opcode (0x40 + condition c) rest hx hy
    (let high = eqb-true (opcode / 16) 4 h in let low = condition_found (opcode % 16) c (omega arith) e in omega arith)) tt)) (λ _. tt))))
two_byte_taken false opcode x y rest hx hy =
    either _ _ _ _ (λ h. then_took _ _ _ (λ c e.
    let p = and_parts (eqb (opcode / 16) 9) (eqb x 0) h in
    took _ (Setcc c (reg_of y)) rest
    (ap (λ n. row_bytes_2 false opcode n y rest) (eqb-true x 0 p.1)
    ∙ ap (λ n. row_bytes_2 false n 0 y rest) (let high = eqb-true (opcode / 16) 9 p.0 in let low = condition_found (opcode % 16) c (omega arith) e in
    let same : opcode ≡ 0x90 + condition c = omega arith in same)
    ∙ ap (λ n. row_bytes_2 false (0x90 + condition c) 0 n rest) (sym (number_reg y hy))) tt)) (λ _. tt)

-- ---- REX and ModRM

-- a REX that is read
pub record IsRex (b : ℕ) : Type 0 where
  pub high : b / 16 ≡ 4
  pub index : b / 2 % 2 ≡ 0

rex_back : (b x y : ℕ) → IsRex b → x / 8 ≡ high_reg b → y / 8 ≡ high_rm b → b ≡ rex (is_wide b) x y
rex_back b x y is f g =
    elim (cases_Bool (is_wide b)) [
      | inl w ↦ (let e = eqb-true (b / 8 % 2) 1 w in let h = is.high in let k = is.index in let same : b ≡ rex true x y = omega arith in same) ∙ ap (λ v. rex v x y) (sym w)
      | inr w ↦ (let e = eqb-false (b / 8 % 2) 1 w in let h = is.high in let k = is.index in let same : b ≡ rex false x y = omega arith in same) ∙ ap (λ v. rex v x y) (sym w)
    ]

-- two registers behind a REX and an opcode
pub record Registers (b : ℕ) (bytes : List ℕ) (x y : ℕ) (rest : List ℕ) : Type 0 where
  pub x_below : x < 16
  pub y_below : y < 16
  pub rex_is : b ≡ rex (is_wide b) x y
  pub whole : bytes ≡ between x y ∷ rest
  pub are_bytes : AreBytes rest

abbrev pub RegistersOf : ℕ → List ℕ → Option (ℕ × ℕ × List ℕ) → Type 0
RegistersOf b bytes None = Unit {0}
RegistersOf b bytes (Some r) = Registers b bytes r.0 r.1 r.2

registers_taken : (b : ℕ) (bytes : List ℕ) → IsRex b → AreBytes bytes → RegistersOf b bytes (registers_at (high_reg b) (high_rm b) bytes)
unfolding registers_at
registers_taken b [] is h = tt
registers_taken b (m ∷ rest) is h =
    cond_both (eqb (m / 64) 3) _ _ (RegistersOf b (m ∷ rest))
    (λ e. let mode = eqb-true (m / 64) 3 e in
    let x : ℕ = 8 * (b / 4 % 2) + m / 8 % 8 in let y : ℕ = 8 * (b % 2) + m % 8 in
    let same : m ≡ between x y = omega arith in
    record {
      x_below = omega arith;
      y_below = omega arith;
      rex_is = rex_back b x y is (omega arith) (omega arith);
      whole = ap (λ n. n ∷ rest) same;
      are_bytes = tail_bytes m rest h;
    })
    (λ _. tt)

-- behind the registers of a row
then_registers : (b : ℕ) (front bytes : List ℕ) (f : ℕ × ℕ × List ℕ → Read) → IsRex b → AreBytes bytes →
    ((r : ℕ × ℕ × List ℕ) → Registers b bytes r.0 r.1 r.2 → TookOf front (f r)) → TookOf front (then_read (registers_at (high_reg b) (high_rm b) bytes) f)
then_registers b front bytes f is h g =
    then_took front (registers_at (high_reg b) (high_rm b) bytes) f (λ r e. g r (subst (λ o. RegistersOf b bytes o) e (registers_taken b bytes is h)))

-- MOV of a number behind a REX
number_taken : (w : Bool) (b opcode y : ℕ) (rest : List ℕ) → b ≡ rex w 0 y → opcode ≡ 0xb8 + y % 8 → y < 16 → AreBytes rest → TookOf (b ∷ (opcode ∷ rest)) (number_form w y rest)
unfolding number_form spelling
number_taken true b opcode y rest e f hy bytes =
    then_took _ (number_8 rest) _ (λ n h.
    let t = subst (λ o. NumberOf 8 rest o) h (number_taken_8 rest bytes) in
    took _ (MovImm64 (reg_of y) n.0) n.1
    (ap (λ x. x ∷ (opcode ∷ rest)) e ∙ ap (λ x. rex true 0 y ∷ (x ∷ rest)) f ∙ ap (λ x. rex true 0 x ∷ ((0xb8 + x % 8) ∷ rest)) (sym (number_reg y hy))
    ∙ ap (λ x. rex true 0 (number (reg_of y)) ∷ ((0xb8 + number (reg_of y) % 8) ∷ x)) t.whole)
    t.small)
number_taken false b opcode y rest e f hy bytes =
    then_took _ (number_4 rest) _ (λ n h.
    let t = subst (λ o. NumberOf 4 rest o) h (number_taken_4 rest bytes) in
    took _ (MovImm32 (reg_of y) n.0) n.1
    (ap (λ x. x ∷ (opcode ∷ rest)) e ∙ ap (λ x. rex false 0 y ∷ (x ∷ rest)) f ∙ ap (λ x. rex false 0 x ∷ ((0xb8 + x % 8) ∷ rest)) (sym (number_reg y hy))
    ∙ ap (λ x. rex false 0 (number (reg_of y)) ∷ ((0xb8 + number (reg_of y) % 8) ∷ x)) t.whole)
    t.small)

escaped_taken : (b : ℕ) (rest : List ℕ) → IsRex b → AreBytes rest → TookOf (b ∷ (0x0f ∷ rest)) (escaped (is_wide b) (high_reg b) (high_rm b) rest)
unfolding escaped
escaped_taken b [] is bytes = tt
escaped_taken b (opcode ∷ rest) is bytes =
    then_registers b _ rest _ is (tail_bytes opcode rest bytes) (λ r t.
    let e = ap (λ n. n ∷ (0x0f ∷ (opcode ∷ rest))) t.rex_is ∙ ap (λ x. rex (is_wide b) r.0 r.1 ∷ (0x0f ∷ (opcode ∷ x))) t.whole in
    subst (λ bs. TookOf bs (two_byte (is_wide b) opcode r.0 r.1 r.2)) (sym e) (two_byte_taken (is_wide b) opcode r.0 r.1 r.2 t.x_below t.y_below))

cqo_taken : (b : ℕ) (rest : List ℕ) → IsRex b → is_wide b && (eqb (high_reg b) 0 && eqb (high_rm b) 0) ≡ true → b ∷ (0x99 ∷ rest) ≡ 0x48 ∷ (0x99 ∷ rest)
cqo_taken b rest is h =
    let p = and_parts (is_wide b) (eqb (high_reg b) 0 && eqb (high_rm b) 0) h in
    let q = and_parts (eqb (high_reg b) 0) (eqb (high_rm b) 0) p.1 in
    let w = eqb-true (b / 8 % 2) 1 p.0 in let r = eqb-true (b / 4 % 2) 0 q.0 in let m = eqb-true (b % 2) 0 q.1 in
    let high = is.high in let index = is.index in
    let same : b ≡ 0x48 = omega arith in ap (λ n. n ∷ (0x99 ∷ rest)) same

after_rex_taken : (b : ℕ) (rest : List ℕ) → IsRex b → AreBytes rest → TookOf (b ∷ rest) (after_rex (is_wide b) (high_reg b) (high_rm b) rest)
unfolding after_rex spelling
after_rex_taken b [] is bytes = tt
after_rex_taken b (opcode ∷ rest) is bytes =
    let tail = tail_bytes opcode rest bytes in
    let small : opcode < 256 = bytes 0 in
    either _ _ _ _ (λ e.
    subst (λ n. TookOf (b ∷ (n ∷ rest)) (escaped (is_wide b) (high_reg b) (high_rm b) rest)) (sym (eqb-true opcode 0x0f e)) (escaped_taken b rest is tail)) (λ _.
    either _ _ _ _ (λ k.
    either _ _ _ _ (λ z.
    let high = eqb-true (opcode / 8) 0x17 k in let zero_reg = eqb-true (high_reg b) 0 z in
    let y : ℕ = 8 * (b % 2) + opcode % 8 in
    number_taken (is_wide b) b opcode y rest (rex_back b 0 y is (omega arith) (omega arith)) (omega arith) (omega arith) tail) (λ _. tt)) (λ _.
    either _ _ _ _ (λ k. either _ _ _ _ (λ z.
    took _ Cqo rest (ap (λ n. b ∷ (n ∷ rest)) (eqb-true opcode 0x99 k) ∙ cqo_taken b rest is z) tt) (λ _. tt)) (λ _.
    then_registers b _ rest _ is tail (λ r t.
    let e = ap (λ n. n ∷ (opcode ∷ rest)) t.rex_is ∙ ap (λ x. rex (is_wide b) r.0 r.1 ∷ (opcode ∷ x)) t.whole in
    subst (λ bs. TookOf bs (one_byte (is_wide b) opcode r.0 r.1 r.2)) (sym e) (one_byte_taken (is_wide b) opcode r.0 r.1 r.2 small t.x_below t.y_below t.are_bytes)))))

-- ---- memory operands

-- a displacement of four bytes behind the base
pub record Displaced (seg : Seg) (x base : ℕ) (bytes : List ℕ) (r : ℕ × Mem × List ℕ) : Type 0 where
  pub reg_is : r.0 ≡ x
  pub seg_is : r.1.seg ≡ seg
  pub base_is : number r.1.base ≡ base
  pub whole : bytes ≡ signed_bytes r.1.disp ++ r.2
  pub fits : FitsSigned w32 r.1.disp

abbrev pub DisplacedOf : Seg → ℕ → ℕ → List ℕ → Option (ℕ × Mem × List ℕ) → Type 0
DisplacedOf seg x base bytes None = Unit {0}
DisplacedOf seg x base bytes (Some r) = Displaced seg x base bytes r

displaced_from : (seg : Seg) (x base : ℕ) (bytes : List ℕ) (o : Option (ℤ × List ℕ)) → base < 16 → SignedOf bytes o →
    DisplacedOf seg x base bytes (option_map (λ (n : ℤ × List ℕ). let r : ℕ × Mem × List ℕ = (x, record { seg = seg; base = reg_of base; disp = n.0 }, n.1) in r) o)
displaced_from seg x base bytes None h t = tt
displaced_from seg x base bytes (Some n) h t = record { reg_is = refl; seg_is = refl; base_is = number_reg base h; whole = t.whole; fits = t.fits }

displaced_taken : (seg : Seg) (x base : ℕ) (bytes : List ℕ) → base < 16 → AreBytes bytes → DisplacedOf seg x base bytes (displaced seg x base bytes)
unfolding displaced
displaced_taken seg x base bytes h are = displaced_from seg x base bytes (signed_at bytes) h (signed_taken bytes are)

-- a memory operand behind a REX and an opcode
pub record Operand (b : ℕ) (seg : Seg) (bytes : List ℕ) (x : ℕ) (mem : Mem) (rest : List ℕ) : Type 0 where
  pub x_below : x < 16
  pub seg_is : mem.seg ≡ seg
  pub rex_is : b ≡ rex (is_wide b) x (number mem.base)
  pub whole : bytes ≡ operand x mem ++ rest
  pub fits : FitsSigned w32 mem.disp

abbrev pub OperandOf : ℕ → Seg → List ℕ → Option (ℕ × Mem × List ℕ) → Type 0
OperandOf b seg bytes None = Unit {0}
OperandOf b seg bytes (Some r) = Operand b seg bytes r.0 r.1 r.2

-- the bytes of an operand, by whether a SIB byte stands in it
abbrev operand_bytes : ℕ → ℕ → Bool → ℤ → List ℕ → List ℕ
operand_bytes x base sib disp rest = modrm 2 x base ∷ ((cond sib (0x24 ∷ []) [] ++ signed_bytes disp) ++ rest)

sib_inside : (x base : ℕ) (sib : Bool) (disp : ℤ) (rest : List ℕ) →
    modrm 2 x base ∷ (cond sib (0x24 ∷ (signed_bytes disp ++ rest)) (signed_bytes disp ++ rest)) ≡ operand_bytes x base sib disp rest
sib_inside x base true disp rest = refl
sib_inside x base false disp rest = refl

operand_from : (b : ℕ) (seg : Seg) (m x base : ℕ) (sib : Bool) (bytes : List ℕ) (o : Option (ℕ × Mem × List ℕ)) → IsRex b →
    x < 16 → base < 16 → x / 8 ≡ high_reg b → base / 8 ≡ high_rm b → m ≡ modrm 2 x base → eqb (base % 8) 4 ≡ sib →
    DisplacedOf seg x base bytes o → OperandOf b seg (m ∷ (cond sib (0x24 ∷ bytes) bytes)) o
operand_from b seg m x base sib bytes None is hx hb ex eb em es t = tt
operand_from b seg m x base sib bytes (Some r) is hx hb ex eb em es t =
    let rx = t.reg_is in let rb = t.base_is in
    record {
      x_below = omega arith;
      seg_is = t.seg_is;
      rex_is = rex_back b x base is ex eb ∙ ap (λ n. rex (is_wide b) n base) (sym rx) ∙ ap (λ n. rex (is_wide b) r.0 n) (sym rb);
      whole =
          ap (λ n. n ∷ (cond sib (0x24 ∷ bytes) bytes)) em
          ∙ ap (λ l. modrm 2 x base ∷ (cond sib (0x24 ∷ l) l)) t.whole
          ∙ sib_inside x base sib r.1.disp r.2
          ∙ ap (λ s. operand_bytes x base s r.1.disp r.2) (sym es)
          ∙ ap (λ n. operand_bytes n base (eqb (base % 8) 4) r.1.disp r.2) (sym rx)
          ∙ ap (λ n. operand_bytes r.0 n (eqb (n % 8) 4) r.1.disp r.2) (sym rb);
      fits = t.fits;
    }

indexed_taken : (b : ℕ) (seg : Seg) (m x base : ℕ) (bytes : List ℕ) → IsRex b →
    x < 16 → base < 16 → x / 8 ≡ high_reg b → base / 8 ≡ high_rm b → m ≡ modrm 2 x base → base % 8 ≡ 4 → AreBytes bytes →
    OperandOf b seg (m ∷ bytes) (indexed seg x base bytes)
unfolding indexed
indexed_taken b seg m x base [] is hx hb ex eb em es h = tt
indexed_taken b seg m x base (sib ∷ rest) is hx hb ex eb em es h =
    cond_both (eqb sib 0x24) _ _ (OperandOf b seg (m ∷ (sib ∷ rest)))
    (λ e. subst (λ n. OperandOf b seg (m ∷ (n ∷ rest)) (displaced seg x base rest)) (sym (eqb-true sib 0x24 e))
    (operand_from b seg m x base true rest _ is hx hb ex eb em (eq-eqb (base % 8) 4 es) (displaced_taken seg x base rest hb (tail_bytes sib rest h))))
    (λ _. tt)

operand_taken : (b : ℕ) (seg : Seg) (bytes : List ℕ) → IsRex b → AreBytes bytes → OperandOf b seg bytes (operand_at seg (high_reg b) (high_rm b) bytes)
unfolding operand_at
operand_taken b seg [] is h = tt
operand_taken b seg (m ∷ rest) is h =
    let x : ℕ = 8 * (b / 4 % 2) + m / 8 % 8 in let base : ℕ = 8 * (b % 2) + m % 8 in
    cond_both (eqb (m / 64) 2) _ _ (OperandOf b seg (m ∷ rest))
    (λ e. let mode = eqb-true (m / 64) 2 e in
    cond_both (eqb (m % 8) 4) _ _ (OperandOf b seg (m ∷ rest))
    (λ s. let four = eqb-true (m % 8) 4 s in let four' : base % 8 ≡ 4 = omega arith in
    indexed_taken b seg m x base rest is (omega arith) (omega arith) (omega arith) (omega arith) (omega arith) four' (tail_bytes m rest h))
    (λ s. let other = eqb-false (m % 8) 4 s in let same : base % 8 ≡ m % 8 = omega arith in
    operand_from b seg m x base false rest _ is (omega arith) (omega arith) (omega arith) (omega arith) (omega arith)
    (ap (λ n. eqb n 4) same ∙ s) (displaced_taken seg x base rest (omega arith) (tail_bytes m rest h))))
    (λ _. tt)

-- ---- accesses to memory

-- behind the operand of an access
then_operand : (b : ℕ) (seg : Seg) (front bytes : List ℕ) (f : ℕ × Mem × List ℕ → Read) → IsRex b → AreBytes bytes →
    ((r : ℕ × Mem × List ℕ) → Operand b seg bytes r.0 r.1 r.2 → TookOf front (f r)) → TookOf front (then_read (operand_at seg (high_reg b) (high_rm b) bytes) f)
then_operand b seg front bytes f is h g =
    then_took front (operand_at seg (high_reg b) (high_rm b) bytes) f (λ r e. g r (subst (λ o. OperandOf b seg bytes o) e (operand_taken b seg bytes is h)))

-- the bytes of an access
abbrev access_bytes : Bool → ℕ → Mem → ℕ → List ℕ → List ℕ
access_bytes w x mem opcode rest = segment_prefix mem.seg ∷ (0x67 ∷ (rex w x (number mem.base) ∷ (opcode ∷ (operand x mem ++ rest))))

access_same : (w : Bool) (x : ℕ) (mem : Mem) (opcode k : ℕ) (rest : List ℕ) → x < 16 → eqb opcode k ≡ true →
    access_bytes w x mem opcode rest ≡ access_bytes w (number (reg_of x)) mem k rest
access_same w x mem opcode k rest h e =
    ap (λ n. access_bytes w x mem n rest) (eqb-true opcode k e) ∙ ap (λ n. access_bytes w n mem k rest) (sym (number_reg x h))

access_form_taken : (w : Bool) (opcode x : ℕ) (mem : Mem) (rest : List ℕ) → x < 16 → FitsSigned w32 mem.disp →
    TookOf (access_bytes w x mem opcode rest) (access_form w opcode x mem rest)
unfolding access_form spelling
access_form_taken true opcode x mem rest h fits =
    either _ _ _ _ (λ e. took _ (Load true (reg_of x) mem) rest (access_same true x mem opcode 0x8b rest h e) fits) (λ _.
    either _ _ _ _ (λ e. took _ (Store B8 mem (reg_of x)) rest (access_same true x mem opcode 0x89 rest h e) fits) (λ _.
    either _ _ _ _ (λ e. took _ (LoadSx32 (reg_of x) mem) rest (access_same true x mem opcode 0x63 rest h e) fits) (λ _. tt)))
access_form_taken false opcode x mem rest h fits =
    either _ _ _ _ (λ e. took _ (Load false (reg_of x) mem) rest (access_same false x mem opcode 0x8b rest h e) fits) (λ _.
    either _ _ _ _ (λ e. took _ (Store B4 mem (reg_of x)) rest (access_same false x mem opcode 0x89 rest h e) fits) (λ _.
    either _ _ _ _ (λ e. took _ (Store B1 mem (reg_of x)) rest (access_same false x mem opcode 0x88 rest h e) fits) (λ _. tt)))

-- the bytes of a load of one byte
abbrev byte_bytes : Bool → ℕ → Mem → ℕ → List ℕ → List ℕ
byte_bytes w x mem opcode rest = segment_prefix mem.seg ∷ (0x67 ∷ (rex w x (number mem.base) ∷ (0x0f ∷ (opcode ∷ (operand x mem ++ rest)))))

byte_same : (w : Bool) (x : ℕ) (mem : Mem) (opcode k : ℕ) (rest : List ℕ) → x < 16 → eqb opcode k ≡ true →
    byte_bytes w x mem opcode rest ≡ byte_bytes w (number (reg_of x)) mem k rest
byte_same w x mem opcode k rest h e =
    ap (λ n. byte_bytes w x mem n rest) (eqb-true opcode k e) ∙ ap (λ n. byte_bytes w n mem k rest) (sym (number_reg x h))

byte_form_taken : (w : Bool) (opcode x : ℕ) (mem : Mem) (rest : List ℕ) → x < 16 → FitsSigned w32 mem.disp →
    TookOf (byte_bytes w x mem opcode rest) (byte_form w opcode x mem rest)
unfolding byte_form spelling
byte_form_taken true opcode x mem rest h fits =
    either _ _ _ _ (λ e. took _ (LoadZx8 (reg_of x) mem) rest (byte_same true x mem opcode 0xb6 rest h e) fits) (λ _.
    either _ _ _ _ (λ e. took _ (LoadSx8 (reg_of x) mem) rest (byte_same true x mem opcode 0xbe rest h e) fits) (λ _. tt))
byte_form_taken false opcode x mem rest h fits = tt

-- the prefixes, REX and opcode of an access, by its operand
to_access : (b : ℕ) (seg : Seg) (x : ℕ) (mem : Mem) (bytes : List ℕ) → mem.seg ≡ seg → b ≡ rex (is_wide b) x (number mem.base) →
    segment_prefix seg ∷ (0x67 ∷ (b ∷ bytes)) ≡ segment_prefix mem.seg ∷ (0x67 ∷ (rex (is_wide b) x (number mem.base) ∷ bytes))
to_access b seg x mem bytes e f =
    ap (λ s. segment_prefix s ∷ (0x67 ∷ (b ∷ bytes))) (sym e) ∙ ap (λ n. segment_prefix mem.seg ∷ (0x67 ∷ (n ∷ bytes))) f

escaped_access_taken : (b : ℕ) (seg : Seg) (rest : List ℕ) → IsRex b → AreBytes rest →
    TookOf (segment_prefix seg ∷ (0x67 ∷ (b ∷ (0x0f ∷ rest)))) (escaped_access seg (is_wide b) (high_reg b) (high_rm b) rest)
unfolding escaped_access
escaped_access_taken b seg [] is bytes = tt
escaped_access_taken b seg (opcode ∷ rest) is bytes =
    then_operand b seg _ rest _ is (tail_bytes opcode rest bytes) (λ r t.
    let e = ap (λ l. segment_prefix seg ∷ (0x67 ∷ (b ∷ (0x0f ∷ (opcode ∷ l))))) t.whole ∙ to_access b seg r.0 r.1 (0x0f ∷ (opcode ∷ (operand r.0 r.1 ++ r.2))) t.seg_is t.rex_is in
    subst (λ bs. TookOf bs (byte_form (is_wide b) opcode r.0 r.1 r.2)) (sym e) (byte_form_taken (is_wide b) opcode r.0 r.1 r.2 t.x_below t.fits))

access_taken : (b : ℕ) (seg : Seg) (rest : List ℕ) → IsRex b → AreBytes rest →
    TookOf (segment_prefix seg ∷ (0x67 ∷ (b ∷ rest))) (access_at seg (is_wide b) (high_reg b) (high_rm b) rest)
unfolding access_at
access_taken b seg [] is bytes = tt
access_taken b seg (opcode ∷ rest) is bytes =
    let tail = tail_bytes opcode rest bytes in
    either _ _ _ _ (λ e.
    subst (λ n. TookOf (segment_prefix seg ∷ (0x67 ∷ (b ∷ (n ∷ rest)))) (escaped_access seg (is_wide b) (high_reg b) (high_rm b) rest)) (sym (eqb-true opcode 0x0f e)) (escaped_access_taken b seg rest is tail)) (λ _.
    then_operand b seg _ rest _ is tail (λ r t.
    let e = ap (λ l. segment_prefix seg ∷ (0x67 ∷ (b ∷ (opcode ∷ l)))) t.whole ∙ to_access b seg r.0 r.1 (opcode ∷ (operand r.0 r.1 ++ r.2)) t.seg_is t.rex_is in
    subst (λ bs. TookOf bs (access_form (is_wide b) opcode r.0 r.1 r.2)) (sym e) (access_form_taken (is_wide b) opcode r.0 r.1 r.2 t.x_below t.fits)))

segment_taken : (seg : Seg) (bytes : List ℕ) → AreBytes bytes → TookOf (segment_prefix seg ∷ bytes) (segment_at seg bytes)
unfolding segment_at
segment_taken seg [] h = tt
segment_taken seg (a ∷ []) h = tt
segment_taken seg (a ∷ (b ∷ rest)) h =
    either _ _ _ _ (λ e.
    let p = and_parts (eqb a 0x67) (eqb (b / 16) 4 && has_no_index b) e in
    let q = and_parts (eqb (b / 16) 4) (has_no_index b) p.1 in
    let is : IsRex b = record { high = eqb-true (b / 16) 4 q.0; index = eqb-true (b / 2 % 2) 0 q.1 } in
    subst (λ n. TookOf (segment_prefix seg ∷ (n ∷ (b ∷ rest))) (access_at seg (is_wide b) (high_reg b) (high_rm b) rest)) (sym (eqb-true a 0x67 p.0))
    (access_taken b seg rest is (tail_bytes b rest (tail_bytes a (b ∷ rest) h)))) (λ _. tt)

-- ---- the rest

seven : (a b c d e f g : ℕ) (rest : List ℕ) → a ≡ 0x4d → b ≡ 0x3b → c ≡ 0x9a → d ≡ 0 → e ≡ 0 → f ≡ 0 → g ≡ 0 →
    0x67 ∷ (a ∷ (b ∷ (c ∷ (d ∷ (e ∷ (f ∷ (g ∷ rest))))))) ≡ 0x67 ∷ (0x4d ∷ (0x3b ∷ (0x9a ∷ (0 ∷ (0 ∷ (0 ∷ (0 ∷ rest)))))))
seven a b c d e f g rest ha hb hc hd he hf hg = cc

comparison_taken : (bytes : List ℕ) → TookOf (0x67 ∷ bytes) (comparison_at bytes)
unfolding comparison_at spelling
comparison_taken (a ∷ (b ∷ (c ∷ (d ∷ (e ∷ (f ∷ (g ∷ rest))))))) =
    either _ _ _ _ (λ h.
    let p = and_parts (eqb a 0x4d) _ h in let q = and_parts (eqb b 0x3b) _ p.1 in let r = and_parts (eqb c 0x9a) _ q.1 in
    let s = and_parts (eqb d 0) _ r.1 in let t = and_parts (eqb e 0) _ s.1 in let u = and_parts (eqb f 0) (eqb g 0) t.1 in
    took _ CmpFlat rest (seven a b c d e f g rest (eqb-true a 0x4d p.0) (eqb-true b 0x3b q.0) (eqb-true c 0x9a r.0) (eqb-true d 0 s.0) (eqb-true e 0 t.0) (eqb-true f 0 u.0) (eqb-true g 0 u.1)) tt) (λ _. tt)
comparison_taken [] = tt
comparison_taken (a ∷ []) = tt
comparison_taken (a ∷ (b ∷ [])) = tt
comparison_taken (a ∷ (b ∷ (c ∷ []))) = tt
comparison_taken (a ∷ (b ∷ (c ∷ (d ∷ [])))) = tt
comparison_taken (a ∷ (b ∷ (c ∷ (d ∷ (e ∷ []))))) = tt
comparison_taken (a ∷ (b ∷ (c ∷ (d ∷ (e ∷ (f ∷ [])))))) = tt

control_taken : (bytes : List ℕ) → AreBytes bytes → TookOf (0x0f ∷ bytes) (control_at bytes)
unfolding control_at spelling
control_taken [] h = tt
control_taken (opcode ∷ rest) h =
    either _ _ _ _ (λ e. took _ Ud2 rest (ap (λ n. 0x0f ∷ (n ∷ rest)) (eqb-true opcode 0x0b e)) tt) (λ _.
    either _ _ _ _ (λ k. then_took _ _ _ (λ c e. then_signed _ rest _ (tail_bytes opcode rest h) (λ z s.
    took _ (Jcc c z.0) z.1
    (ap (λ n. 0x0f ∷ (n ∷ rest)) (let high = eqb-true (opcode / 16) 8 k in let low = condition_found (opcode % 16) c (omega arith) e in
    let same : opcode ≡ 0x80 + condition c = omega arith in same)
    ∙ ap (λ l. 0x0f ∷ ((0x80 + condition c) ∷ l)) s.whole) s.fits))) (λ _. tt))

jump_taken : (bytes : List ℕ) → AreBytes bytes → TookOf (0xe9 ∷ bytes) (jump_at bytes)
unfolding jump_at spelling
jump_taken bytes h = then_signed _ bytes _ h (λ z s. took _ (Jmp z.0) z.1 (ap (λ l. 0xe9 ∷ l) s.whole) s.fits)

call_taken : (bytes : List ℕ) → AreBytes bytes → TookOf (0xe8 ∷ bytes) (call_at bytes)
unfolding call_at spelling
call_taken bytes h = then_signed _ bytes _ h (λ z s. took _ (Call z.0) z.1 (ap (λ l. 0xe8 ∷ l) s.whole) s.fits)

first_is : (b k : ℕ) (rest : List ℕ) (r : Read) → eqb b k ≡ true → TookOf (k ∷ rest) r → TookOf (b ∷ rest) r
first_is b k rest r e t = subst (λ n. TookOf (n ∷ rest) r) (sym (eqb-true b k e)) t

-- WHAT IS READ IS SPELLED
pub taken : (bytes : List ℕ) → AreBytes bytes → TookOf bytes (read bytes)
unfolding read spelling
taken [] h = tt
taken (b ∷ rest) h =
    let tail = tail_bytes b rest h in
    either _ _ _ _ (λ e. either _ _ _ _ (λ f.
    after_rex_taken b rest (record { high = eqb-true (b / 16) 4 e; index = eqb-true (b / 2 % 2) 0 f }) tail) (λ _. tt)) (λ _.
    either _ _ _ _ (λ e. first_is b 0x64 rest (segment_at Fs rest) e (segment_taken Fs rest tail)) (λ _.
    either _ _ _ _ (λ e. first_is b 0x65 rest (segment_at Gs rest) e (segment_taken Gs rest tail)) (λ _.
    either _ _ _ _ (λ e. first_is b 0x0f rest (control_at rest) e (control_taken rest tail)) (λ _.
    either _ _ _ _ (λ e. first_is b 0xe9 rest (jump_at rest) e (jump_taken rest tail)) (λ _.
    either _ _ _ _ (λ e. first_is b 0xe8 rest (call_at rest) e (call_taken rest tail)) (λ _.
    either _ _ _ _ (λ e. took _ Nop rest (ap (λ n. n ∷ rest) (eqb-true b 0x90 e)) tt) (λ _.
    either _ _ _ _ (λ e. first_is b 0x67 rest (comparison_at rest) e (comparison_taken rest)) (λ _. tt))))))))
