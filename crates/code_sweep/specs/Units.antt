-- Check units: the bytes that look for a word before they return or call. They stand for instructions, which this order
-- gives: the address to go to into r10 (a return: from the stack, which is raised by 8; a call: from a register); the
-- inverse of the word into r11, and NOT of it; CMP of r11 with the 8 bytes at r10; JE over the UD2 behind it; 8 is added
-- to r10; JMP or CALL of r10.
use Rattle.std.specs.Prelude.{ℕ, ◌-◌, false, List, [], ◌∷◌, ◌++◌, map}
use Rattle.x64_decode.specs.Spelling.{number, rex, between}
use Rattle.x64_decode.specs.declared.instr.Reg.{Reg}
use Rattle.magic_words.specs.MagicWords.{call_word, return_word}

-- each byte of a word inverted
abbrev pub inverse : List ℕ → List ℕ
inverse word = map (λ b. 255 - b) word

-- behind the constant: 49 f7 d3; 67 4d 3b 9a 00000000; 0f 84 02000000; 0f 0b; 49 81 c2 08000000; 41 ff and a last byte
abbrev pub check_tail : ℕ → List ℕ
check_tail last =
    0x49 ∷ 0xf7 ∷ 0xd3 ∷ 0x67 ∷ 0x4d ∷ 0x3b ∷ 0x9a ∷ 0 ∷ 0 ∷ 0 ∷ 0 ∷ 0x0f ∷ 0x84 ∷ 2 ∷ 0 ∷ 0 ∷ 0 ∷ 0x0f ∷ 0x0b
    ∷ 0x49 ∷ 0x81 ∷ 0xc2 ∷ 8 ∷ 0 ∷ 0 ∷ 0 ∷ 0x41 ∷ 0xff ∷ last ∷ []

-- from the constant on: 49 bb and the inverse of the word, and that
abbrev pub check_then : List ℕ → ℕ → List ℕ
check_then word last = 0x49 ∷ 0xbb ∷ inverse word ++ check_tail last

-- a return: the address on the stack must be that of a return word. 64 67 44 8b 94 24 00000000; 48 81 c4 08000000; the check
abbrev pub return_unit : List ℕ → ℕ → List ℕ
return_unit prefix bit =
    0x64 ∷ 0x67 ∷ 0x44 ∷ 0x8b ∷ 0x94 ∷ 0x24 ∷ 0 ∷ 0 ∷ 0 ∷ 0 ∷ 0x48 ∷ 0x81 ∷ 0xc4 ∷ 8 ∷ 0 ∷ 0 ∷ 0
    ∷ (check_then (return_word bit prefix) 0xe2)

-- a call of the procedure whose call word stands at the address in a register: the low half of the register into r10; the
-- check
abbrev pub call_unit : List ℕ → Reg → ℕ → List ℕ
call_unit prefix r bits = rex false (number r) 10 ∷ 0x89 ∷ between (number r) 10 ∷ (check_then (call_word bits prefix) 0xd2)
