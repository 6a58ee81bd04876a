use Rattle.std.proofs.Common.{◌-◌, length, map}
use Rattle.c_parser.specs.Words.{Told}
use Rattle.c_parser.proofs.tokens_words.words_of.Given as goal

abbrev pub invariant-loop-index : goal.invariant-loop-index
invariant-loop-index l = Told l.source l.tokens l.index l.words.items (map (λ k. k.now) l.seen.keys) l.strings

abbrev pub decreases-loop-index : goal.decreases-loop-index
decreases-loop-index l = length l.tokens - l.index
