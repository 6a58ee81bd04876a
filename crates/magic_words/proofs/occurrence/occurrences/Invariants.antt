use Rattle.std.proofs.Common.{◌≤◌, ◌-◌, length}
use Rattle.magic_words.specs.MagicWords.{AreOccurrences}
use Rattle.magic_words.proofs.occurrence.occurrences.Given as goal

abbrev pub invariant-loop-place : goal.invariant-loop-place
invariant-loop-place l = record { inside : l.from ≤ length l.code; so_far : AreOccurrences l.prefix l.code l.from l.places.items }

abbrev pub decreases-loop-place : goal.decreases-loop-place
decreases-loop-place l = length l.code - l.from
