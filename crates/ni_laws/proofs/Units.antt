-- The instructions inside a check unit, by its bytes.
use Rattle.std.proofs.Common.{◌≡◌, ℕ, suc, ◌+◌, ◌-◌, ◌<◌, List, [], ◌∷◌, ◌++◌, length, take, drop, Option, Some, None, refl, sym, ◌∙◌, ap, subst, arith, inl, inr, pos, false, append_assoc, rules, ◌^◌}
use Rattle.std.proofs.lemmas.Option.{none-some}
use Rattle.std.proofs.lemmas.Bool.{cases_lt}
use Rattle.std.proofs.lemmas.List.{drop-drop, take-append-drop, drop_all, length-map}
use Rattle.cv_word.specs.Words.{AreBytes, little_endian}
use Rattle.x64_decode.specs.Spelling.{spelling, HasSpelling}
use Rattle.x64_decode.specs.Reading.{instruction_at, read}
use Rattle.x64_decode.specs.declared.instr.Reg.{Reg}
use Rattle.x64_decode.specs.declared.instr.Reg.TheVariants.{Rsp, Gpr10, Gpr11}
use Rattle.x64_decode.specs.declared.instr.Cond.TheVariants.{E}
use Rattle.x64_decode.specs.declared.instr.Seg.TheVariants.{Fs}
use Rattle.x64_decode.specs.declared.instr.AluOp.TheVariants as alu
use Rattle.x64_decode.specs.declared.instr.Instr.{Instr}
use Rattle.x64_decode.specs.declared.instr.Instr.TheVariants.{Mov, Not, MovImm64, AluImm, Load, CmpFlat, JmpR10, CallR10, Jcc, Ud2}
use Rattle.x64_decode.proofs.Laws.{reads}
use Rattle.magic_words.specs.MagicWords.{call_word, return_word}
use Rattle.code_sweep.specs.Units.{inverse, check_tail, check_then, return_unit, call_unit}
use Rattle.code_sweep.specs.declared.item.Item.{Item}
use Rattle.code_sweep.specs.declared.item.Item.TheVariants.{Call, Ret, Plain, ReturnUnit, CallUnit}
use Rattle.code_sweep.specs.Listing.{item_bytes, StandsAt}
use Rattle.cv_word.specs.declared.registers.Registers.{Registers}
use Rattle.ni_laws.specs.Agreement.{LabelledCode, check_of, Stage, AtStage}
use Rattle.ni_laws.proofs.Items.{Facts, item_stands}
use Rattle.ni_laws.proofs.Bytes.{inverse_bytes, eight_again, eight_small, cons_bytes}

-- the front of a list dropped
drop_front : (xs ys : List ℕ) → drop (length xs) (xs ++ ys) ≡ ys
drop_front [] ys = refl
drop_front (x ∷ xs) ys = drop_front xs ys

-- what is spelled at a place is read there, and behind it stands the rest
pub spelled_at : (code : List ℕ) (place : ℕ) (i : Instr) (rest : List ℕ) → HasSpelling i → drop place code ≡ spelling i ++ rest → instruction_at (drop place code) ≡ Some i
spelled_at code place i rest proper e = reads (drop place code) i (record { proper = proper; rest = rest; whole = e })

pub rest_at : (code : List ℕ) (place n : ℕ) (i : Instr) (rest : List ℕ) → length (spelling i) ≡ n → drop place code ≡ spelling i ++ rest → drop (place + n) code ≡ rest
rest_at code place n i rest long e =
    sym (drop-drop n place code) ∙ ap (λ l. drop n l) e ∙ ap (λ k. drop k (spelling i ++ rest)) (sym long) ∙ drop_front (spelling i) rest

step : (code : List ℕ) (place next n : ℕ) (i : Instr) (rest : List ℕ) → next ≡ place + n → length (spelling i) ≡ n → drop place code ≡ spelling i ++ rest → drop next code ≡ rest
step code place next n i rest at long e = ap (λ k. drop k code) at ∙ rest_at code place n i rest long e

-- an instruction stands inside the code
nothing_read : instruction_at [] ≡ None
unfolding instruction_at read
nothing_read = refl

pub inside_code : (code : List ℕ) (place : ℕ) (i : Instr) → instruction_at (drop place code) ≡ Some i → place < length code
inside_code code place i e =
    elim (cases_lt place (length code)) [
      | inl inside ↦ inside
      | inr past ↦ absurd (none-some i (sym nothing_read ∙ ap instruction_at (sym (drop_all place code past)) ∙ e))
    ]

-- the instructions of a check, by their places behind its first byte
pub record CheckAt (code : List ℕ) (place : ℕ) (word : List ℕ) (last : Instr) : Type 0 where
  pub loads : instruction_at (drop place code) ≡ Some (MovImm64 Gpr11 (little_endian (inverse word)))
  pub inverts : instruction_at (drop (place + 10) code) ≡ Some (Not Gpr11)
  pub compares : instruction_at (drop (place + 13) code) ≡ Some CmpFlat
  pub branches : instruction_at (drop (place + 21) code) ≡ Some (Jcc E (pos 2))
  pub traps : instruction_at (drop (place + 27) code) ≡ Some Ud2
  pub advances : instruction_at (drop (place + 29) code) ≡ Some (AluImm alu.Add Gpr10 (pos 8))
  pub leaves : instruction_at (drop (place + 36) code) ≡ Some last

-- the byte that an end of a check has
pub record EndsWith (last : Instr) (b : ℕ) : Type 0 where
  pub proper : HasSpelling last
  pub spelled : spelling last ≡ 0x41 ∷ (0xff ∷ (b ∷ []))

pub jump_ends : EndsWith JmpR10 0xe2
unfolding spelling
jump_ends = record { proper = tt; spelled = refl }

pub call_ends : EndsWith CallR10 0xd2
unfolding spelling
call_ends = record { proper = tt; spelled = refl }

constant_spelled : (word : List ℕ) → length word ≡ 8 → 0x49 ∷ (0xbb ∷ inverse word) ≡ spelling (MovImm64 Gpr11 (little_endian (inverse word)))
unfolding spelling
constant_spelled word long =
    ap (λ l. 0x49 ∷ (0xbb ∷ l)) (sym (eight_again (inverse word) (inverse_bytes word) (length-map word (λ (b : ℕ). 255 - b) ∙ long)))

pub check_at : (code : List ℕ) (place : ℕ) (word : List ℕ) (last : Instr) (b : ℕ) (rest : List ℕ) → length word ≡ 8 → EndsWith last b →
    drop place code ≡ check_then word b ++ rest → CheckAt code place word last
unfolding spelling
check_at code place word last b rest long ends e =
    let tail : List ℕ = check_tail b ++ rest in
    let e0 : drop place code ≡ spelling (MovImm64 Gpr11 (little_endian (inverse word))) ++ tail =
    e ∙ append_assoc (0x49 ∷ (0xbb ∷ inverse word)) (check_tail b) rest ∙ ap (λ l. l ++ tail) (constant_spelled word long) in
    let small : little_endian (inverse word) < 2 ^ 64 = eight_small (inverse word) (inverse_bytes word) (length-map word (λ (b : ℕ). 255 - b) ∙ long) in
    let e1 : drop (place + 10) code ≡ tail = rest_at code place 10 (MovImm64 Gpr11 (little_endian (inverse word))) tail refl e0 in
    let e2 : drop (place + 13) code ≡ drop 3 tail = step code (place + 10) (place + 13) 3 (Not Gpr11) (drop 3 tail) (omega arith) refl e1 in
    let e3 : drop (place + 21) code ≡ drop 11 tail = step code (place + 13) (place + 21) 8 CmpFlat (drop 11 tail) (omega arith) refl e2 in
    let e4 : drop (place + 27) code ≡ drop 17 tail = step code (place + 21) (place + 27) 6 (Jcc E (pos 2)) (drop 17 tail) (omega arith) refl e3 in
    let e5 : drop (place + 29) code ≡ drop 19 tail = step code (place + 27) (place + 29) 2 Ud2 (drop 19 tail) (omega arith) refl e4 in
    let e6 : drop (place + 36) code ≡ drop 26 tail = step code (place + 29) (place + 36) 7 (AluImm alu.Add Gpr10 (pos 8)) (drop 26 tail) (omega arith) refl e5 in
    record {
      loads = spelled_at code place (MovImm64 Gpr11 (little_endian (inverse word))) tail small e0;
      inverts = spelled_at code (place + 10) (Not Gpr11) (drop 3 tail) tt e1;
      compares = spelled_at code (place + 13) CmpFlat (drop 11 tail) tt e2;
      branches = spelled_at code (place + 21) (Jcc E (pos 2)) (drop 17 tail) (search rules) e3;
      traps = spelled_at code (place + 27) Ud2 (drop 19 tail) tt e4;
      advances = spelled_at code (place + 29) (AluImm alu.Add Gpr10 (pos 8)) (drop 26 tail) (search rules) e5;
      leaves = spelled_at code (place + 36) last rest ends.proper (e6 ∙ ap (λ l. l ++ rest) (sym ends.spelled));
    }

-- ---- the check of a unit, and what stands before it

abbrev pub last_of : Item → Instr
last_of (CallUnit r bits) = CallR10
last_of _ = JmpR10

-- the check of a unit, and the word that it looks for
pub record UnitAt (code : LabelledCode) (place : ℕ) (item : Item) (start : ℕ) (word : List ℕ) : Type 0 where
  pub long : length word ≡ 8
  pub bytes : AreBytes word
  pub check : CheckAt code.bytes (place + start) word (last_of item)

unit_whole : (code unit : List ℕ) (place : ℕ) → take (length unit) (drop place code) ≡ unit → drop place code ≡ unit ++ drop (length unit) (drop place code)
unit_whole code unit place e =
    sym (take-append-drop (length unit) (drop place code)) ∙ ap (λ l. l ++ drop (length unit) (drop place code)) e

-- a return unit begins with the load of r10 and the addition to rsp
pub record ReturnAt (code : LabelledCode) (place bit : ℕ) : Type 0 where
  pub small : bit < 2
  pub first : instruction_at (drop place code.bytes) ≡ Some (Load false Gpr10 (record { seg = Fs; base = Rsp; disp = pos 0 }))
  pub second : instruction_at (drop (place + 10) code.bytes) ≡ Some (AluImm alu.Add Rsp (pos 8))
  pub unit : UnitAt code place (ReturnUnit bit) 17 (return_word bit code.prefix)

pub return_parts : (code : LabelledCode) → Facts code → (place bit : ℕ) → StandsAt code.prefix code.bytes place (ReturnUnit bit) → ReturnAt code place bit
unfolding item_bytes spelling
return_parts code facts place bit s =
    let rest : List ℕ = drop (length (return_unit code.prefix bit)) (drop place code.bytes) in
    let e0 : drop place code.bytes ≡ return_unit code.prefix bit ++ rest = unit_whole code.bytes (return_unit code.prefix bit) place s.is.1.1 in
    let e1 : drop (place + 10) code.bytes ≡ drop 10 (return_unit code.prefix bit) ++ rest =
    rest_at code.bytes place 10 (Load false Gpr10 (record { seg = Fs; base = Rsp; disp = pos 0 })) (drop 10 (return_unit code.prefix bit) ++ rest) refl e0 in
    let e2 : drop (place + 17) code.bytes ≡ check_then (return_word bit code.prefix) 0xe2 ++ rest =
    step code.bytes (place + 10) (place + 17) 7 (AluImm alu.Add Rsp (pos 8)) (check_then (return_word bit code.prefix) 0xe2 ++ rest) (omega arith) refl e1 in
    record {
      small = s.is.1.0;
      first = spelled_at code.bytes place (Load false Gpr10 (record { seg = Fs; base = Rsp; disp = pos 0 })) (drop 10 (return_unit code.prefix bit) ++ rest) (search rules) e0;
      second = spelled_at code.bytes (place + 10) (AluImm alu.Add Rsp (pos 8)) (check_then (return_word bit code.prefix) 0xe2 ++ rest) (search rules) e1;
      unit = record {
        long = let n : suc (suc (length code.prefix)) ≡ 8 = omega (arith, facts.six) in n;
        bytes = cons_bytes bit (0x22 ∷ code.prefix) (let b : bit < 2 = s.is.1.0 in omega arith) (cons_bytes 0x22 code.prefix (omega arith) facts.prefix_bytes);
        check = check_at code.bytes (place + 17) (return_word bit code.prefix) JmpR10 0xe2 rest (let n : suc (suc (length code.prefix)) ≡ 8 = omega (arith, facts.six) in n) jump_ends e2;
      };
    }

-- a call unit begins with the move of the register's low half to r10
pub record CallAt (code : LabelledCode) (place : ℕ) (r : Reg) (bits : ℕ) : Type 0 where
  pub first : instruction_at (drop place code.bytes) ≡ Some (Mov false Gpr10 r)
  pub unit : UnitAt code place (CallUnit r bits) 3 (call_word bits code.prefix)

pub call_parts : (code : LabelledCode) → Facts code → (place : ℕ) (r : Reg) (bits : ℕ) → StandsAt code.prefix code.bytes place (CallUnit r bits) → CallAt code place r bits
unfolding item_bytes spelling
call_parts code facts place r bits s =
    let rest : List ℕ = drop (length (call_unit code.prefix r bits)) (drop place code.bytes) in
    let e0 : drop place code.bytes ≡ call_unit code.prefix r bits ++ rest = unit_whole code.bytes (call_unit code.prefix r bits) place s.is.2.1 in
    let e1 : drop (place + 3) code.bytes ≡ check_then (call_word bits code.prefix) 0xd2 ++ rest =
    rest_at code.bytes place 3 (Mov false Gpr10 r) (check_then (call_word bits code.prefix) 0xd2 ++ rest) refl e0 in
    record {
      first = spelled_at code.bytes place (Mov false Gpr10 r) (check_then (call_word bits code.prefix) 0xd2 ++ rest) tt e0;
      unit = record {
        long = let n : suc (suc (length code.prefix)) ≡ 8 = omega (arith, facts.six) in n;
        bytes = cons_bytes bits (0x11 ∷ code.prefix) (let b : bits < 32 = s.is.2.0 in omega arith) (cons_bytes 0x11 code.prefix (omega arith) facts.prefix_bytes);
        check = check_at code.bytes (place + 3) (call_word bits code.prefix) CallR10 0xd2 rest (let n : suc (suc (length code.prefix)) ≡ 8 = omega (arith, facts.six) in n) call_ends e1;
      };
    }

pair_parts : (a c : ℕ) (b d : List ℕ) → (let o : Option (ℕ × List ℕ) = Some (a, b) in o) ≡ Some (c, d) → (let p : ℕ × List ℕ = (a, b) in p) ≡ (c, d)
pair_parts a c b d e = cc

pub some_pair : (a c : ℕ) (b d : List ℕ) → (let o : Option (ℕ × List ℕ) = Some (a, b) in o) ≡ Some (c, d) → (a ≡ c) × (b ≡ d)
some_pair a c b d e =
    let p = pair_parts a c b d e in
    (ap (λ (q : ℕ × List ℕ). q.0) p, ap (λ (q : ℕ × List ℕ). q.1) p)

-- the unit at an item whose check is known
pub unit_at : (code : LabelledCode) → Facts code → (place : ℕ) (item : Item) (start : ℕ) (word : List ℕ) → StandsAt code.prefix code.bytes place item →
    check_of code.prefix item ≡ Some (start, word) → UnitAt code place item start word
unit_at code facts place (Call bits) start word s e = absurd (none-some (start, word) e)
unit_at code facts place (Ret bit) start word s e = absurd (none-some (start, word) e)
unit_at code facts place (Plain i) start word s e = absurd (none-some (start, word) e)
unit_at code facts place (ReturnUnit bit) start word s e =
    let p = some_pair 17 start (return_word bit code.prefix) word e in
    let u = (return_parts code facts place bit s).unit in
    subst (λ n. UnitAt code place (ReturnUnit bit) n word) p.0 (subst (λ (w : List ℕ). UnitAt code place (ReturnUnit bit) 17 w) p.1 u)
unit_at code facts place (CallUnit r bits) start word s e =
    let p = some_pair 3 start (call_word bits code.prefix) word e in
    let u = (call_parts code facts place r bits s).unit in
    subst (λ n. UnitAt code place (CallUnit r bits) n word) p.0 (subst (λ (w : List ℕ). UnitAt code place (CallUnit r bits) 3 w) p.1 u)

-- the unit in which two cores stand
pub unit_of : (code : LabelledCode) → Facts code → (stage : Stage) (s t : Registers) (a : AtStage code stage s t) → UnitAt code a.p.at a.p.item a.start a.word
unit_of code facts stage s t a = unit_at code facts a.p.at a.p.item a.start a.word (item_stands code facts a.i a.p a.stands).0 a.checks
