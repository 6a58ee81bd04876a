-- What the operations of ADD, OR, AND, SUB, XOR and CMP do with their target.
use Rattle.std.specs.Prelude.{Bool, true, false}
use Rattle.x64_decode.specs.declared.instr.AluOp.{AluOp}
use Rattle.x64_decode.specs.declared.instr.AluOp.TheVariants as alu

-- CMP alone doesn't write it
abbrev pub is_written : AluOp → Bool
is_written alu.Cmp = false
is_written _ = true
