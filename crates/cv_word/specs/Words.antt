-- Words: lists of bytes whose lowest byte comes first, sums modulo 2 ^ 64, and the signed reading.
use Rattle.std.specs.Prelude.{◌≡◌, ℕ, zero, suc, ◌+◌, ◌-◌, ◌*◌, ◌/◌, ◌%◌, ◌^◌, ◌<◌, ◌⊎◌, List, [], ◌∷◌, ◌++◌, length, take, drop, nat_lt, if◌then◌else◌, slice_index, ℤ}
use Rattle.std.specs.Int.{w64, cast_unsigned}

-- each is a byte; a place past the end reads as 0
abbrev pub AreBytes : List ℕ → Type 0
AreBytes bytes = (i : ℕ) → slice_index bytes i < 256

-- the number that the bytes spell, lowest byte first
abbrev pub little_endian : List ℕ → ℕ
little_endian [] = 0
little_endian (b ∷ bs) = b + 256 * little_endian bs

-- the low bytes of a number, so many of them, lowest first
abbrev pub word_bytes : ℕ → ℕ → List ℕ
word_bytes zero n = []
word_bytes (suc count) n = n % 256 ∷ word_bytes count (n / 256)

-- the widths of a memory access, in bytes
abbrev pub IsWidth : ℕ → Type 0
IsWidth width = (width ≡ 1) ⊎ (width ≡ 4) ⊎ (width ≡ 8)

-- the list with the new items in place of those from a place on
abbrev pub spliced : {A : Type 0} → List A → ℕ → List A → List A
spliced xs at new = take at xs ++ new ++ drop (at + length new) xs

-- a sum in 64 bits
abbrev pub sum_64 : ℕ → ℕ → ℕ
sum_64 a b = (a + b) % 2 ^ 64

-- a signed number of 32 bits, in 64 bits
abbrev pub widened : ℤ → ℕ
widened z = cast_unsigned w64 z

-- the low bytes of v, so many of them, as a signed number in 64 bits
abbrev pub sign_extended : ℕ → ℕ → ℕ
sign_extended width v =
    let low = v % 256 ^ width in
    if nat_lt low (256 ^ width / 2) then low else 2 ^ 64 - 256 ^ width + low
