-- The memory map: which flat addresses are code and which are mapped in the two segments. Other addresses, the gates but
-- for calls, are unmapped. An access is allowed where all its bytes lie in one region.
use Rattle.std.specs.Prelude.{ℕ, ◌+◌, ◌%◌, ◌^◌, Bool, ◌&&◌, nat_lt, nat_le, ℤ}
use Rattle.cv_word.specs.Words.{widened}

-- the first flat address of the code, and of the public (fs) and the private (gs) segment
abbrev pub code_base : ℕ
code_base = 0x10000

abbrev pub public_base : ℕ
public_base = 0x200000000

abbrev pub private_base : ℕ
private_base = 0x400000000

-- the first offset of a segment that is mapped
abbrev pub first_mapped : ℕ
first_mapped = 4096

-- the address lies in a code of that length
abbrev pub is_in_code : ℕ → ℕ → Bool
is_in_code length address = nat_le code_base address && nat_lt address (code_base + length)

-- so many bytes from an offset of a segment of that size are all mapped
abbrev pub is_mapped : ℕ → ℕ → ℕ → Bool
is_mapped size offset width = nat_le first_mapped offset && nat_le (offset + width) size

-- the offset that a segment operand names: the register plus the sign-extended displacement, modulo 2 ^ 32
abbrev pub operand_offset : ℕ → ℤ → ℕ
operand_offset register displacement = (register + widened displacement) % 2 ^ 32
