-- Labels as numbers: bit k of the number is set where name k may be private.
use Rattle.std.specs.Prelude.{ℕ, List, ◌==◌, slice_index_or}
use Rattle.std.specs.Int.{bit_at}
use Rattle.taint_flow.specs.Label.{Label}
use Rattle.taint_flow.specs.Flow.{Labelling}
use Rattle.taint_flow.specs.declared.label.Label.{Label as LabelBits}

abbrev pub label_of : ℕ → Label
label_of bits = λ k. bit_at bits k == 1

-- a list of labels as a labelling; nothing is private past its end
abbrev pub public_bits : LabelBits
public_bits = record { bits = 0 }

abbrev pub labelling_of : List LabelBits → Labelling
labelling_of labels = λ i. label_of (slice_index_or labels i public_bits).bits
