use Rattle.std.proofs.Common.{◌≡◌, length, drop}
use Rattle.image_form.specs.Reading.{numbers}
use Rattle.image_form.proofs.reading.entries.Given as goal

abbrev pub invariant-loop-k : goal.invariant-loop-k
invariant-loop-k l = (l.entries.items ≡ numbers l.k (drop 40 l.bytes)) × (length l.entries.items ≡ l.k)
