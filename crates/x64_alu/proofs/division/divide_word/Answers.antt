use Rattle.std.proofs.Common.{rules, arith, ◌∙◌, sym, ap, FitsSigned}
use Rattle.std.proofs.lemmas.Int.{to_z-of_z}
use Rattle.std.specs.Int.{w64, cast_unsigned}
use Rattle.x64_alu.proofs.Quotients.{divided_some, dividend-signs_of, quotient_fits_word, positive_word}
use Rattle.x64_alu.proofs.division.divide_word.Goals as goal

pub returns-in-Some : goal.returns-in-Some
returns-in-Some c =
    let over : FitsSigned w64 c.cast_signed-over.result = search rules in
    let under : FitsSigned w64 c.cast_signed-under.result = search rules in
    let quotient : FitsSigned w64 c.in-Some.quotient = search rules in
    let rest : FitsSigned w64 c.remainder_word-rest.result = search rules in
    let d = simp to_z-of_z at c.in-Some.ensures in
    let e = simp to_z-of_z at c.remainder_word-rest.ensures in
    let f = simp to_z-of_z at c.cast_unsigned.ensures in
    let g = simp to_z-of_z at c.cast_unsigned-in-Some.ensures in
    divided_some _ _ _ _ _ c.cast_signed-over.result c.cast_signed-under.result
    (c.cast_signed-over.ensures ∙ sym (dividend-signs_of c.args.low (omega arith))) c.cast_signed-under.ensures
    (positive_word _ _ c.cast_signed-under.ensures d.0.0) (quotient_fits_word _ d.0.1) (f ∙ ap (cast_unsigned w64) d.1)
    (g ∙ ap (cast_unsigned w64) e)
