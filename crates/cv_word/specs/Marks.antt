-- The words of 8 bytes that mark a procedure or a return: a taint byte, a kind byte and the image's prefix of six bytes.
use Rattle.std.specs.Prelude.{ℕ, List, ◌∷◌}

-- A call word stands before a procedure. Its bits 0 to 3 say that rdi, rsi, rdx and rcx may be private, and bit 4 that rax
-- may be at the return.
abbrev pub call_word : ℕ → List ℕ → List ℕ
call_word bits prefix = bits ∷ 0x11 ∷ prefix

-- A return word stands behind a call. Its bit says that rax may be private.
abbrev pub return_word : ℕ → List ℕ → List ℕ
return_word bit prefix = bit ∷ 0x22 ∷ prefix
