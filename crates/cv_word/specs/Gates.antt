-- The gates: services at fixed addresses that code may call. Which there are, and what a caller may leave private.
use Rattle.std.specs.Prelude.{ℕ, ◌+◌, ◌-◌, ◌*◌, ◌/◌, ◌%◌, ◌==◌, ◌&&◌, List, [], ◌∷◌, Option, None, map, slice_get, nat_le, if◌then◌else◌}
use Rattle.cv_word.specs.CallBits.{result_bit_of}
use Rattle.cv_word.specs.declared.gates.Gate.{Gate}
use Rattle.cv_word.specs.declared.gates.Gate.TheVariants.{Exit, CoreEnd, PubIn, PubOut, PrivIn, PrivOut, PrivGet, PrivPut, PubAlloc, PrivAlloc, PubFree, PrivFree, Release}

-- the gates by number
abbrev pub gates : List Gate
gates =
    Exit ∷ CoreEnd ∷ PubIn ∷ PubOut ∷ PrivIn ∷ PrivOut ∷ PrivGet ∷ PrivPut
    ∷ PubAlloc ∷ PrivAlloc ∷ PubFree ∷ PrivFree ∷ Release ∷ []

-- the gate of a number; there is none above 12
abbrev pub gate_of : ℕ → Option Gate
gate_of number = slice_get gates number

-- What a caller may leave private, as in a call word: bits 0 to 3 say it of rdi, rsi, rdx and rcx, and are set for all that
-- the gate doesn't read; bit 4 says that its result in rax is private.
abbrev pub bits_of : Gate → ℕ
bits_of Exit = 0x0e
bits_of CoreEnd = 0x0f
bits_of PubIn = 0x0c
bits_of PubOut = 0x0c
bits_of PrivIn = 0x0c
bits_of PrivOut = 0x0c
bits_of PrivGet = 0x1f
bits_of PrivPut = 0x0f
bits_of PubAlloc = 0x0e
bits_of PrivAlloc = 0x0e
bits_of PubFree = 0x0e
bits_of PrivFree = 0x0e
bits_of Release = 0x00

-- the bit of its result
abbrev pub result_bit : Gate → ℕ
result_bit gate = result_bit_of (bits_of gate)

abbrev pub gate_table : List ℕ
gate_table = map bits_of gates

-- the bits of a gate; there is none above 12
abbrev pub gate_bits : ℕ → Option ℕ
gate_bits number = slice_get gate_table number

-- gate k stands at 0x1000 + 16 k
abbrev pub first_gate : ℕ
first_gate = 0x1000

abbrev pub gate_address : ℕ → ℕ
gate_address number = first_gate + 16 * number

-- what a list has for the gate at a flat address, if one stands there
abbrev pub for_gate_at : {A : Type 0} → List A → ℕ → Option A
for_gate_at list address =
    if nat_le first_gate address && ((address - first_gate) % 16 == 0) then slice_get list ((address - first_gate) / 16) else None

-- the gate at a flat address, and its bits
abbrev pub gate_at : ℕ → Option Gate
gate_at address = for_gate_at gates address

abbrev pub gate_bits_at : ℕ → Option ℕ
gate_bits_at address = for_gate_at gate_table address
