-- A listing as text: a line for each item, with its flat address, its bytes and its text.
use Rattle.std.specs.Prelude.{ℕ, ◌+◌, ◌≤◌, List, [], ◌∷◌, ◌++◌, length, take, drop, codes}
use Rattle.std.specs.List.{flat_map}
use Rattle.std.specs.Fmt.{decimal, signed_decimal}
use Rattle.hex.specs.Hex.{encode_lower}
use Rattle.cv_word.specs.MemoryMap.{code_base}
use Rattle.x64_decode.specs.declared.instr.Instr.{Instr}
use Rattle.x64_decode.specs.declared.instr.Instr.TheVariants.{Mov, Alu, Test, Imul, Not, Neg, Idiv, Cqo, ShiftImm, ShiftCl, Movsxd, Movzx8, Movsx8, Setcc, Cmov, MovImm32, MovImm64, MovImmS, AluImm, Load, LoadZx8, LoadSx8, LoadSx32, Store, CmpFlat, JmpR10, CallR10, Call, Jmp, Jcc, Ud2, Nop}
use Rattle.code_sweep.specs.declared.item.Item.{Item}
use Rattle.code_sweep.specs.declared.item.Item.TheVariants as item
use Rattle.code_sweep.specs.declared.item.Placed.{Placed}
use Rattle.disasm_text.specs.Operands.{padded_hexadecimal, unsigned_text, target_text, register_name, condition_letters, operation_name, shift_name, wide_suffix, width_suffix, memory_text}

-- a name, then a space and the fields with commas between them; the name alone where there are none
abbrev pub further : List (List ℕ) → List ℕ
further [] = []
further (field ∷ fields) = codes ", " ++ (field ++ further fields)

abbrev pub row : List ℕ → List (List ℕ) → List ℕ
row name [] = name
row name (field ∷ fields) = name ++ (codes " " ++ (field ++ further fields))

-- the text of an instruction, with the flat address behind it: a row for each instruction
unfoldable pub instruction_text : ℕ → Instr → List ℕ
instruction_text next (Mov wide dst src) = row (codes "mov" ++ wide_suffix wide) (register_name dst ∷ register_name src ∷ [])
instruction_text next (Alu op dst src) = row (operation_name op) (register_name dst ∷ register_name src ∷ [])
instruction_text next (Test a b) = row (codes "test") (register_name a ∷ register_name b ∷ [])
instruction_text next (Imul dst src) = row (codes "imul") (register_name dst ∷ register_name src ∷ [])
instruction_text next (Not r) = row (codes "not") (register_name r ∷ [])
instruction_text next (Neg r) = row (codes "neg") (register_name r ∷ [])
instruction_text next (Idiv r) = row (codes "idiv") (register_name r ∷ [])
instruction_text next Cqo = row (codes "cqo") []
instruction_text next (ShiftImm op r count) = row (shift_name op ++ codes "i") (register_name r ∷ decimal count ∷ [])
instruction_text next (ShiftCl op r) = row (shift_name op ++ codes "c") (register_name r ∷ [])
instruction_text next (Movsxd dst src) = row (codes "movsxd") (register_name dst ∷ register_name src ∷ [])
instruction_text next (Movzx8 dst src) = row (codes "movzx8") (register_name dst ∷ register_name src ∷ [])
instruction_text next (Movsx8 dst src) = row (codes "movsx8") (register_name dst ∷ register_name src ∷ [])
instruction_text next (Setcc cc r) = row (codes "setcc" ++ condition_letters cc) (register_name r ∷ [])
instruction_text next (Cmov cc dst src) = row (codes "cmov" ++ condition_letters cc) (register_name dst ∷ register_name src ∷ [])
instruction_text next (MovImm32 dst imm) = row (codes "movimm32") (register_name dst ∷ unsigned_text imm ∷ [])
instruction_text next (MovImm64 dst imm) = row (codes "movimm64") (register_name dst ∷ unsigned_text imm ∷ [])
instruction_text next (MovImmS dst imm) = row (codes "movimms") (register_name dst ∷ signed_decimal imm ∷ [])
instruction_text next (AluImm op dst imm) = row (operation_name op ++ codes "i") (register_name dst ∷ signed_decimal imm ∷ [])
instruction_text next (Load wide dst mem) = row (codes "load" ++ wide_suffix wide) (register_name dst ∷ memory_text mem ∷ [])
instruction_text next (LoadZx8 dst mem) = row (codes "loadzx8") (register_name dst ∷ memory_text mem ∷ [])
instruction_text next (LoadSx8 dst mem) = row (codes "loadsx8") (register_name dst ∷ memory_text mem ∷ [])
instruction_text next (LoadSx32 dst mem) = row (codes "loadsx32") (register_name dst ∷ memory_text mem ∷ [])
instruction_text next (Store width mem src) = row (codes "store" ++ width_suffix width) (memory_text mem ∷ register_name src ∷ [])
instruction_text next CmpFlat = row (codes "cmpflat") []
instruction_text next JmpR10 = row (codes "jmpr10") []
instruction_text next CallR10 = row (codes "callr10") []
instruction_text next (Call rel) = row (codes "call") (target_text next rel ∷ [])
instruction_text next (Jmp rel) = row (codes "jmp") (target_text next rel ∷ [])
instruction_text next (Jcc cc rel) = row (codes "jcc" ++ condition_letters cc) (target_text next rel ∷ [])
instruction_text next Ud2 = row (codes "ud2") []
instruction_text next Nop = row (codes "nop") []

-- the text of an item; a call word's bits are two digits, a return word's bit is 0 or 1
unfoldable pub item_text : ℕ → Item → List ℕ
item_text next (item.Call bits) = row (codes "callword") (padded_hexadecimal 2 bits ∷ [])
item_text next (item.Ret bit) = row (codes "retword") (decimal bit ∷ [])
item_text next (item.Plain i) = instruction_text next i
item_text next (item.ReturnUnit bit) = row (codes "return-unit") (decimal bit ∷ [])
item_text next (item.CallUnit r bits) = codes "call-unit " ++ (register_name r ++ (codes " " ++ padded_hexadecimal 2 bits))

-- the line of an item
unfoldable pub line_of : List ℕ → Placed → List ℕ
line_of code p =
    padded_hexadecimal 8 (code_base + p.at) ++ (codes ": " ++ (encode_lower (take p.len (drop p.at code))
    ++ (codes " " ++ (item_text (code_base + p.at + p.len) p.item ++ 10 ∷ []))))

-- the lines of a code's items
abbrev pub text_of : List ℕ → List Placed → List ℕ
text_of code items = flat_map (line_of code) items

-- the bytes of the item lie in the code
abbrev pub LiesInside : List ℕ → Placed → Type 0
LiesInside code p = p.at + p.len ≤ length code
