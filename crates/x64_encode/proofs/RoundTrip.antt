-- What was written is read again, and what was read is written again.
use Rattle.std.proofs.Common.{◌≡◌, ℕ, ◌≤◌, false, cond, ◌&&◌, leb, List, ◌++◌, length, take, Some, None, refl, sym, ◌∙◌, ap, inl, inr}
use Rattle.std.specs.Option.{option_map}
use Rattle.std.proofs.lemmas.Bool.{and_parts, leb-true, cases_Bool, cond-false}
use Rattle.std.proofs.Math.Seq.{take-append_seam}
use Rattle.cv_word.specs.Words.{AreBytes}
use Rattle.x64_decode.specs.declared.instr.Reg.{Reg}
use Rattle.x64_decode.specs.declared.instr.Reg.TheVariants as reg
use Rattle.x64_decode.specs.declared.instr.ShiftOp.{ShiftOp}
use Rattle.x64_decode.specs.declared.instr.ShiftOp.TheVariants as shift
use Rattle.x64_decode.specs.declared.instr.Instr.{Instr}
use Rattle.x64_decode.specs.declared.instr.Instr.TheVariants.{ShiftImm}
use Rattle.x64_decode.specs.Spelling.{spelling, HasSpelling, Spells}
use Rattle.x64_decode.specs.Reading.{gives, read, reg_of, shift_of_extension, shift_by_number, wide_form, one_byte, registers_at, after_rex, instruction_at}
use Rattle.x64_decode.proofs.Laws.{reads, spelled}
use Rattle.x64_encode.specs.Counts.{HasCount}

pub read_back : (bytes : List ℕ) (i : Instr) → bytes ≡ spelling i → HasSpelling i → (rest : List ℕ) → instruction_at (bytes ++ rest) ≡ Some i
read_back bytes i same proper rest = reads (bytes ++ rest) i (record { proper = proper; rest = rest; whole = ap (λ b. b ++ rest) same })

-- a shift by a number is read where its count is from 1 to 63
shift_read : (op : ShiftOp) (r : Reg) (count : ℕ) (rest : List ℕ) →
    read (spelling (ShiftImm op r count) ++ rest) ≡ cond (leb 1 count && leb count 63) (gives (ShiftImm op r count) rest) None
unfolding spelling read after_rex registers_at one_byte wide_form shift_by_number shift_of_extension reg_of
shift_read shift.Shl reg.Rax count rest = refl
shift_read shift.Shr reg.Rax count rest = refl
shift_read shift.Sar reg.Rax count rest = refl
shift_read _ _ count rest = refl

-- and no instruction stands there with another count
bad_count : (count : ℕ) → ¬ ((1 ≤ count) × (count ≤ 63)) → (leb 1 count && leb count 63) ≡ false
bad_count count h =
    elim (cases_Bool (leb 1 count && leb count 63)) [
      | inl t ↦ let p = and_parts (leb 1 count) (leb count 63) t in absurd (h (leb-true 1 count p.0, leb-true count 63 p.1))
      | inr f ↦ f
    ]

shift_refused : (op : ShiftOp) (r : Reg) (count : ℕ) (rest : List ℕ) → ¬ ((1 ≤ count) × (count ≤ 63)) → instruction_at (spelling (ShiftImm op r count) ++ rest) ≡ None
unfolding instruction_at
shift_refused op r count rest h =
    ap (λ o. option_map (λ (x : Instr × List ℕ). x.0) o) (shift_read op r count rest ∙ cond-false _ _ _ (bad_count count h))

refused : (i : Instr) → ¬ HasCount i → (rest : List ℕ) → instruction_at (spelling i ++ rest) ≡ None
refused (ShiftImm op r count) h rest = shift_refused op r count rest h
refused _ h rest = absurd (h tt)

pub no_row : (bytes : List ℕ) (i : Instr) → bytes ≡ spelling i → ¬ HasCount i → (rest : List ℕ) → instruction_at (bytes ++ rest) ≡ None
no_row bytes i same h rest = ap (λ b. instruction_at (b ++ rest)) same ∙ refused i h rest

-- what was read begins with the spelling
begins : (bytes : List ℕ) (i : Instr) → Spells bytes i → take (length (spelling i)) bytes ≡ spelling i
begins bytes i s = ap (λ b. take (length (spelling i)) b) s.whole ∙ take-append_seam (spelling i) s.rest

pub written_again : (bytes : List ℕ) (i : Instr) → bytes ≡ spelling i → (from : List ℕ) → AreBytes from → instruction_at from ≡ Some i → take (length bytes) from ≡ bytes
written_again bytes i same from are e =
    ap (λ b. take (length b) from) same ∙ begins from i (spelled from i are e) ∙ sym same
