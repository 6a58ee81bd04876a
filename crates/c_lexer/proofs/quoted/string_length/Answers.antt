use Rattle.std.proofs.Common.{◌∙◌, arith, rules}
use Rattle.c_lexer.proofs.Steps.{string_more_plain}
use Rattle.c_lexer.proofs.quoted.string_length.Goals as goal

pub loop-place-preserved : goal.loop-place-preserved
loop-place-preserved c =
    string_more_plain c.args.bytes.now c.loop-place.place (omega arith) (search rules) ∙ c.loop-place.invariant
