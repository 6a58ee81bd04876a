-- The laws of the table, as the contracts state them.
use Rattle.std.proofs.Common.{◌≡◌, ℕ, ◌+◌, ◌-◌, ◌%◌, ◌<◌, ◌≤◌, Bool, true, false, cond, List, [], ◌∷◌, ◌++◌, length, drop, Option, Some, None, sym, ◌∙◌, ap, subst, arith, eqb, ℤ, length-append, length-drop}
use Rattle.std.specs.Option.{option_map}
use Rattle.std.proofs.lemmas.List.{get_or-drop}
use Rattle.cv_word.specs.Words.{AreBytes}
use Rattle.x64_decode.specs.declared.instr.Instr.{Instr}
use Rattle.x64_decode.specs.declared.instr.Instr.TheVariants.{Load, LoadZx8, LoadSx8, LoadSx32, Store}
use Rattle.x64_decode.specs.Spelling.{number, signed_bytes, spelling, Spells}
use Rattle.x64_decode.specs.Reading.{Read, read, instruction_at}
use Rattle.x64_decode.proofs.Spelled.{again}
use Rattle.x64_decode.proofs.Taken.{Took, TookOf, taken}

pub reads : (bytes : List ℕ) (i : Instr) → Spells bytes i → instruction_at bytes ≡ Some i
unfolding instruction_at
reads bytes i s =
    ap (λ bs. option_map (λ (r : Instr × List ℕ). r.0) (read bs)) s.whole
    ∙ ap (λ o. option_map (λ (r : Instr × List ℕ). r.0) o) (again i s.rest s.proper)

spells_from : (bytes : List ℕ) (i : Instr) (o : Read) → TookOf bytes o → option_map (λ (r : Instr × List ℕ). r.0) o ≡ Some i → Spells bytes i
spells_from bytes i None t e = absurd (cc)
spells_from bytes i (Some q) t e =
    let same : q.0 ≡ i = cc in
    subst (λ x. Spells bytes x) same (record { proper = t.proper; rest = q.1; whole = t.whole })

pub spelled : (bytes : List ℕ) (i : Instr) → AreBytes bytes → instruction_at bytes ≡ Some i → Spells bytes i
unfolding instruction_at
spelled bytes i are e = spells_from bytes i (read bytes) (taken bytes are) e

-- an instruction has from 1 to 14 bytes
operand_length : (b : Bool) (z : ℤ) → length (cond b (0x24 ∷ []) [] ++ signed_bytes z) ≤ 5
operand_length true z = omega arith
operand_length false z = omega arith

pub record Length (n : ℕ) : Type 0 where
  pub some : 0 < n
  pub few : n ≤ 14

sized : (n : ℕ) → 0 < n → n ≤ 14 → Length n
sized n h g = record { some = h; few = g }

pub spelling_length : (i : Instr) → Length (length (spelling i))
unfolding spelling
spelling_length (Load wide dst mem) = sized _ (omega arith) (omega (arith, operand_length (eqb (number mem.base % 8) 4) mem.disp))
spelling_length (LoadZx8 dst mem) = sized _ (omega arith) (omega (arith, operand_length (eqb (number mem.base % 8) 4) mem.disp))
spelling_length (LoadSx8 dst mem) = sized _ (omega arith) (omega (arith, operand_length (eqb (number mem.base % 8) 4) mem.disp))
spelling_length (LoadSx32 dst mem) = sized _ (omega arith) (omega (arith, operand_length (eqb (number mem.base % 8) 4) mem.disp))
spelling_length (Store width mem src) = sized _ (omega arith) (omega (arith, operand_length (eqb (number mem.base % 8) 4) mem.disp))
spelling_length _ = sized _ (omega arith) (omega arith)

-- what was read, as `decode` tells it
pub record IsRead (bytes : List ℕ) (i : Instr) (rest : List ℕ) : Type 0 where
  pub at : instruction_at bytes ≡ Some i
  pub spells : Spells bytes i
  pub long : length bytes ≡ length (spelling i) + length rest
  pub some : 0 < length (spelling i)
  pub few : length (spelling i) ≤ 14

pub is_read : (bytes : List ℕ) (i : Instr) (rest : List ℕ) → AreBytes bytes → read bytes ≡ Some (i, rest) → IsRead bytes i rest
unfolding instruction_at
is_read bytes i rest are e =
    let t : Took bytes i rest = subst (λ o. TookOf bytes o) e (taken bytes are) in
    record {
      at = ap (λ o. option_map (λ (r : Instr × List ℕ). r.0) o) e;
      spells = record { proper = t.proper; rest = rest; whole = t.whole };
      long = ap length t.whole ∙ length-append (spelling i) rest;
      some = (spelling_length i).some;
      few = (spelling_length i).few;
    }

pub not_read : (bytes : List ℕ) → read bytes ≡ None → instruction_at bytes ≡ None
unfolding instruction_at
not_read bytes e = ap (λ o. option_map (λ (r : Instr × List ℕ). r.0) o) e

-- the bytes from a place on are bytes
pub bytes_from : (code : List ℕ) (at : ℕ) → AreBytes code → AreBytes (drop at code)
bytes_from code at are k = let h = are (at + k) in rw (get_or-drop at code k 0) h

-- what `decode` saw in the bytes from a place on
pub record Seen (code : List ℕ) (place : ℕ) (bytes : List ℕ) (i : Instr) (rest : List ℕ) : Type 0 where
  pub at : instruction_at (drop place code) ≡ Some i
  pub spells : Spells (drop place code) i
  pub len : length bytes - length rest ≡ length (spelling i)
  pub left : length rest ≤ length bytes
  pub some : 0 < length (spelling i)
  pub few : length (spelling i) ≤ 14
  pub inside : place + length (spelling i) ≤ length code

pub seen : (code : List ℕ) (place : ℕ) (bytes : List ℕ) (i : Instr) (rest : List ℕ) → AreBytes code → bytes ≡ drop place code → read bytes ≡ Some (i, rest) → Seen code place bytes i rest
seen code place bytes i rest are same e =
    let r = is_read (drop place code) i rest (bytes_from code place are) (ap read (sym same) ∙ e) in
    let long : length bytes ≡ length (spelling i) + length rest = ap length same ∙ r.long in
    let all : length bytes ≡ length code - place = ap length same ∙ length-drop place code in
    let few = r.few in let some = r.some in
    record {
      at = r.at;
      spells = r.spells;
      len = omega arith;
      left = omega arith;
      some = some;
      few = few;
      inside = omega arith;
    }

-- what is answered, and that nothing else could be
pub told : {code : List ℕ} {place : ℕ} {bytes : List ℕ} {i : Instr} {rest : List ℕ} → Seen code place bytes i rest →
    (let o : Option (Instr × ℕ) = Some (i, length bytes - length rest) in o) ≡ option_map (λ (x : Instr). let r : Instr × ℕ = (x, length (spelling x)) in r) (instruction_at (drop place code))
told {code} {place} {bytes} {i} {rest} s =
    ap (λ n. let o : Option (Instr × ℕ) = Some (i, n) in o) s.len
    ∙ ap (λ o. option_map (λ (x : Instr). let r : Instr × ℕ = (x, length (spelling x)) in r) o) (sym s.at)

pub told_only : {code : List ℕ} {place : ℕ} {bytes : List ℕ} {i : Instr} {rest : List ℕ} → Seen code place bytes i rest →
    (j : Instr) → Spells (drop place code) j → (let o : Option (Instr × ℕ) = Some (i, length bytes - length rest) in o) ≡ Some (j, length (spelling j))
told_only {code} {place} {bytes} {i} {rest} s j spells =
    told s ∙ ap (λ o. option_map (λ (x : Instr). let r : Instr × ℕ = (x, length (spelling x)) in r) o) (reads (drop place code) j spells)
