-- Bytes under a pad.
use Rattle.std.specs.Prelude.{ℕ, List, bit_xor, map}
use Rattle.std.specs.List.{zip}

-- each byte, exclusive or with the byte of the pad at its place
abbrev pub xored : List ℕ → List ℕ → List ℕ
xored bytes pad = map (λ pair. bit_xor pair.0 pair.1) (zip bytes pad)
