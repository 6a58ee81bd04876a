-- What IDIV answers, from the parts that the code computes.
use Rattle.std.proofs.Common.{◌≡◌, ℕ, zero, suc, ◌^◌, ◌<◌, true, false, ℤ, pos, negsuc, int_div, int_rem, Some, None, ap, arith}
use Rattle.std.specs.Int.{w64, w128, cast_signed, cast_unsigned, IsNonZero}
use Rattle.std.specs.Prelude.{FitsSigned}
use Rattle.std.proofs.lemmas.Grind.{common_steps}
use Rattle.cv_word.specs.Arithmetic.{dividend, divided, quotient_fits, signs_of}

pub divided_some : (high low by q r : ℕ) (over under : ℤ)
    → over ≡ dividend high low → under ≡ cast_signed w64 by → 0 < by → quotient_fits (int_div over under) ≡ true
    → q ≡ cast_unsigned w64 (int_div over under) → r ≡ cast_unsigned w64 (int_rem over under)
    → Some (q, r) ≡ divided high low by
divided_some high low by q r over under e f n fits g h = grind (arith, common_steps)

pub divided_none : (high low by : ℕ) (over under : ℤ)
    → over ≡ dividend high low → under ≡ cast_signed w64 by → quotient_fits (int_div over under) ≡ false
    → None ≡ divided high low by
divided_none high low by over under e f fits = grind (arith, common_steps)

pub dividend-signs_of : (low : ℕ) → low < 2 ^ 64 → dividend (signs_of low) low ≡ cast_signed w64 low
dividend-signs_of low h = grind (arith, common_steps)

pub quotient_fits_word : (z : ℤ) → FitsSigned w64 z → quotient_fits z ≡ true
quotient_fits_word (pos n) h = grind (arith, common_steps)
quotient_fits_word (negsuc n) h = grind (arith, common_steps)

pub positive_word : (by : ℕ) (under : ℤ) → under ≡ cast_signed w64 by → IsNonZero w64 under → 0 < by
positive_word zero under e h = absurd (omega (arith, h, ap (cast_unsigned w64) e))
positive_word (suc by) under e h = omega arith

pub positive_wide : (by : ℕ) (under : ℤ) → under ≡ cast_signed w64 by → IsNonZero w128 under → 0 < by
positive_wide zero under e h = absurd (omega (arith, h, ap (cast_unsigned w128) e))
positive_wide (suc by) under e h = omega arith

pub word_fits : (z : ℤ) → quotient_fits z ≡ true → FitsSigned w64 z
word_fits (pos n) h = record { sfits = grind (arith, common_steps) }
word_fits (negsuc n) h = record { sfits = grind (arith, common_steps) }
