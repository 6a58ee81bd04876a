use Rattle.std.proofs.Common.{◌≡◌, ◌++◌, ◌-◌, length, map, drop}
use Rattle.c_parser.proofs.tokens_words.texts_of.Given as goal

abbrev pub invariant-loop-index : goal.invariant-loop-index
invariant-loop-index l = l.texts ++ map (λ k. k.now) (drop l.index l.seen) ≡ map (λ k. k.now) l.seen

abbrev pub decreases-loop-index : goal.decreases-loop-index
decreases-loop-index l = length l.seen - l.index
