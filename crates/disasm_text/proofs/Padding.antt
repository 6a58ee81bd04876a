-- What a hole `{:02x}` or `{:08x}` writes.
use Rattle.std.proofs.Common.{◌≡◌, ℕ, ◌-◌, ◌^◌, false, List, [], ◌++◌, length, append-nil, append_assoc, arith}
use Rattle.std.proofs.lemmas.Grind.{common_steps}
use Rattle.std.specs.Prelude.{replicate}
use Rattle.std.specs.Fmt.{padded_integral, format_spec, char_count}

-- zeros in front, up to the width
pub padded_integral_is_zeros : (width : ℕ) (numeral : List ℕ)
    → padded_integral (format_spec 32 0 4 width (2 ^ 64 - 1)) false [] numeral ≡ replicate (width - length numeral) 48 ++ numeral
unfolding padded_integral char_count
padded_integral_is_zeros width numeral = grind (arith, common_steps)

pub ruleset padding = (padded_integral_is_zeros, append-nil, append_assoc)
