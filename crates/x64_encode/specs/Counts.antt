-- Which instructions have a spelling, where their numbers fit their fields.
use Rattle.std.specs.Prelude.{◌≤◌}
use Rattle.x64_decode.specs.declared.instr.Instr.{Instr}
use Rattle.x64_decode.specs.declared.instr.Instr.TheVariants.{ShiftImm}

-- a shift's count is from 1 to 63
abbrev pub HasCount : Instr → Type 0
HasCount (ShiftImm op r count) = (1 ≤ count) × (count ≤ 63)
HasCount _ = Unit {0}
