use Rattle.std.proofs.Common.{◌≡◌, ◌-◌, ◌++◌}
use Rattle.cv_word.specs.Words.{word_bytes}
use Rattle.c_types.proofs.globals.word_bytes.Given as goal

abbrev pub invariant-loop-i : goal.invariant-loop-i
invariant-loop-i l = l.bytes.items ++ word_bytes (l.count - l.i) l.rest ≡ word_bytes l.count l.value
