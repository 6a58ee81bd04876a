-- The bits of a call word and of a gate: what a caller may leave private, and what it gets.
use Rattle.std.specs.Prelude.{ℕ, ◌==◌, Bool}
use Rattle.std.specs.Int.{bit_at}

-- Bits 0 to 3: the argument of that number may be private. Number 0 is rdi, 1 rsi, 2 rdx and 3 rcx.
abbrev pub may_pass_private : ℕ → ℕ → Bool
may_pass_private bits argument = bit_at bits argument == 1

-- bit 4: the result in rax may be private
abbrev pub result_bit_of : ℕ → ℕ
result_bit_of bits = bit_at bits 4
