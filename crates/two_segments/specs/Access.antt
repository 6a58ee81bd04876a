-- Loads and stores of numbers in the two segments, by a segment's offsets and by flat addresses.
use Rattle.std.specs.Prelude.{ℕ, ◌-◌, List, take, drop, Option, Some, None, if◌then◌else◌}
use Rattle.cv_word.specs.Words.{little_endian, word_bytes, spliced}
use Rattle.cv_word.specs.MemoryMap.{code_base, public_base, private_base, is_mapped}
use Rattle.cv_word.specs.Memory.{Memory, Range, is_code_word, is_segment_word}
use Rattle.cv_word.specs.declared.registers.Taint.{Taint}
use Rattle.cv_word.specs.declared.registers.Taint.TheVariants.{Pub, Priv}
use Rattle.x64_decode.specs.declared.instr.Seg.{Seg}
use Rattle.x64_decode.specs.declared.instr.Seg.TheVariants.{Fs, Gs}
use Rattle.x64_decode.specs.declared.instr.Width.{Width}
use Rattle.x64_decode.specs.declared.instr.Width.TheVariants.{B1, B4, B8}

-- fs is the public segment, and gs the private one
abbrev pub taint_of : Seg → Taint
taint_of Fs = Pub
taint_of Gs = Priv

-- the bytes of a segment, by offset
abbrev pub segment : Seg → Memory → List ℕ
segment Fs m = m.public
segment Gs m = m.private

abbrev pub with_segment : Seg → List ℕ → Memory → Memory
with_segment Fs bytes m = record m { public = bytes }
with_segment Gs bytes m = record m { private = bytes }

-- so many bytes of a segment, from an offset on
abbrev pub range_of : Seg → ℕ → ℕ → Range
range_of seg at len = record { segment = taint_of seg; at = at; len = len }

-- how many bytes an access of that width has
abbrev pub byte_count : Width → ℕ
byte_count B1 = 1
byte_count B4 = 4
byte_count B8 = 8

-- the number in so many bytes from an offset of a segment, where all of them are mapped
unfoldable pub loaded : Memory → Seg → ℕ → ℕ → Option ℕ
loaded m seg offset width =
    if is_mapped m.size offset width then Some (little_endian (take width (drop offset (segment seg m)))) else None

-- the memory after a write of the low bytes of a number, so many of them, at an offset of a segment, where all are mapped
unfoldable pub stored : Memory → Seg → ℕ → ℕ → ℕ → Option Memory
stored m seg offset width v =
    if is_mapped m.size offset width then Some (with_segment seg (spliced (segment seg m) offset (word_bytes width v)) m) else None

-- the 8 bytes at a flat address, in any region that can be read
unfoldable pub flat_loaded : Memory → ℕ → Option ℕ
flat_loaded m address =
    if is_code_word m address then Some (little_endian (take 8 (drop (address - code_base) m.code))) else
    if is_segment_word m public_base address then loaded m Fs (address - public_base) 8 else
    if is_segment_word m private_base address then loaded m Gs (address - private_base) 8 else
    None

-- the memory after a write of 8 bytes at a flat address, in any region that can be written
unfoldable pub flat_stored : Memory → ℕ → ℕ → Option Memory
flat_stored m address v =
    if is_segment_word m public_base address then stored m Fs (address - public_base) 8 v else
    if is_segment_word m private_base address then stored m Gs (address - private_base) 8 v else
    None
