-- The results and the four flags of the arithmetic instructions, as equations on whole numbers below 2 ^ 64.
-- By the Intel manual's ADD, SUB, CMP, AND, OR, XOR, TEST, NEG, IMUL, SHL, SHR, SAR and IDIV, but that a multiplication,
-- a division and a shift leave all four flags 0: this machine's own choice.
use Rattle.std.specs.Prelude.{ℕ, ◌+◌, ◌-◌, ◌*◌, ◌/◌, ◌%◌, ◌^◌, Bool, false, ◌&&◌, not, ◌==◌, nat_lt, nat_le, if◌then◌else◌, Option, Some, None, ℤ, pos, negsuc, int_div, int_rem}
use Rattle.std.specs.Int.{w64, w128, cast_signed, cast_unsigned}
use Rattle.cv_word.specs.declared.registers.Flags.{Flags}

-- the sign of a word
abbrev pub is_negative : ℕ → Bool
is_negative a = nat_le (2 ^ 63) a

abbrev pub same_sign : ℕ → ℕ → Bool
same_sign a b = if is_negative a then is_negative b else not (is_negative b)

-- the flags of a result, with its carry and its overflow
abbrev pub flags_of : ℕ → Bool → Bool → Flags
flags_of result carry overflow = record { zf = result == 0; sf = is_negative result; cf = carry; of = overflow }

abbrev pub no_flags : Flags
no_flags = record { zf = false; sf = false; cf = false; of = false }

-- ADD: a carry is a sum that reaches 2 ^ 64; an overflow, two operands of one sign and a result of the other
abbrev pub added : ℕ → ℕ → ℕ
added a b = (a + b) % 2 ^ 64

abbrev pub flags_added : ℕ → ℕ → Flags
flags_added a b = flags_of (added a b) (nat_le (2 ^ 64) (a + b)) (same_sign a b && not (same_sign a (added a b)))

-- SUB and CMP: a carry is a below b; an overflow, operands of two signs and a result whose sign isn't a's
abbrev pub subtracted : ℕ → ℕ → ℕ
subtracted a b = (a + (2 ^ 64 - b)) % 2 ^ 64

abbrev pub flags_subtracted : ℕ → ℕ → Flags
flags_subtracted a b = flags_of (subtracted a b) (nat_lt a b) (not (same_sign a b) && not (same_sign a (subtracted a b)))

-- AND, OR, XOR and TEST have neither carry nor overflow
abbrev pub flags_of_bits : ℕ → Flags
flags_of_bits result = flags_of result false false

-- NEG: a carry unless the operand is 0; an overflow at 2 ^ 63
abbrev pub negated : ℕ → ℕ
negated a = (2 ^ 64 - a) % 2 ^ 64

abbrev pub flags_negated : ℕ → Flags
flags_negated a = flags_of (negated a) (not (a == 0)) (a == 2 ^ 63)

-- NOT
abbrev pub inverted : ℕ → ℕ
inverted a = 2 ^ 64 - 1 - a

-- IMUL, the low 64 bits
abbrev pub multiplied : ℕ → ℕ → ℕ
multiplied a b = a * b % 2 ^ 64

-- SHL, SHR and SAR by a count modulo 64; SAR rounds toward the lower number
abbrev pub shifted_left : ℕ → ℕ → ℕ
shifted_left a count = a * 2 ^ (count % 64) % 2 ^ 64

abbrev pub shifted_right : ℕ → ℕ → ℕ
shifted_right a count = a / 2 ^ (count % 64)

abbrev pub shifted_signed : ℕ → ℕ → ℕ
shifted_signed a count = if is_negative a then inverted (inverted a / 2 ^ (count % 64)) else a / 2 ^ (count % 64)

-- CQO: copies of the sign
abbrev pub signs_of : ℕ → ℕ
signs_of a = if is_negative a then 2 ^ 64 - 1 else 0

-- IDIV of the signed 128 bits high:low by a signed word: quotient, rounded toward 0, and remainder. None where the
-- divisor is 0 or the quotient doesn't fit a signed word.
abbrev pub dividend : ℕ → ℕ → ℤ
dividend high low = cast_signed w128 (high * 2 ^ 64 + low)

abbrev pub quotient_fits : ℤ → Bool
quotient_fits (pos n) = nat_lt n (2 ^ 63)
quotient_fits (negsuc n) = nat_lt n (2 ^ 63)

abbrev pub divided : ℕ → ℕ → ℕ → Option (ℕ × ℕ)
divided high low by =
    let over = dividend high low in
    let under = cast_signed w64 by in
    if by == 0 then None else
    if quotient_fits (int_div over under) then
    Some (cast_unsigned w64 (int_div over under), cast_unsigned w64 (int_rem over under))
    else None
