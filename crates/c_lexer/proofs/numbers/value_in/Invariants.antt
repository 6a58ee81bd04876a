use Rattle.std.proofs.Common.{◌≡◌, drop}
use Rattle.c_lexer.specs.Reading.{value_from}
use Rattle.c_lexer.proofs.numbers.value_in.Given as goal

abbrev pub invariant-loop-b : goal.invariant-loop-b
invariant-loop-b l = value_from l.base l.value (drop l.b-index l.digits) ≡ value_from l.base 0 l.digits
