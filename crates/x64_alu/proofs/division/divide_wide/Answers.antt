use Rattle.std.proofs.Common.{rules, arith, ◌∙◌, sym, ap, FitsSigned}
use Rattle.std.proofs.lemmas.Int.{to_z-of_z}
use Rattle.std.specs.Int.{w64, w128, cast_unsigned}
use Rattle.cv_word.specs.Arithmetic.{quotient_fits}
use Rattle.x64_alu.proofs.Quotients.{divided_some, positive_wide, word_fits}
use Rattle.x64_alu.proofs.division.divide_wide.Goals as goal

pub returns-then-fits_word : goal.returns-then-fits_word
returns-then-fits_word c =
    let over : FitsSigned w128 c.join-over.result = search rules in
    let under : FitsSigned w64 c.cast_signed-under.result = search rules in
    let under_wide : FitsSigned w128 c.cast_signed-under.result = record { sfits = omega arith } in
    let quotient : FitsSigned w128 c.in-Some.quotient = search rules in
    let rest : FitsSigned w64 c.remainder-rest.result = search rules in
    let d = simp to_z-of_z at c.in-Some.ensures in
    let e = simp to_z-of_z at c.remainder-rest.ensures in
    let test = simp to_z-of_z at c.fits_word.ensures in
    let word : FitsSigned w64 c.in-Some.quotient = word_fits _ (sym test ∙ c.if-fits_word.true) in
    let f = simp to_z-of_z at c.cast_unsigned.ensures in
    let g = simp to_z-of_z at c.cast_unsigned-then-fits_word.ensures in
    divided_some _ _ _ _ _ c.join-over.result c.cast_signed-under.result c.join-over.ensures c.cast_signed-under.ensures
    (positive_wide _ _ c.cast_signed-under.ensures d.0.0) (ap quotient_fits (sym d.1) ∙ sym test ∙ c.if-fits_word.true)
    (f ∙ ap (cast_unsigned w64) d.1) (g ∙ ap (cast_unsigned w64) e)
