-- Two cores inside a check unit: each instruction leaves them alike, or both fault.
use Rattle.std.proofs.Common.{◌≡◌, ◌≢◌, ℕ, ◌+◌, ◌-◌, ◌%◌, ◌^◌, ◌<◌, ◌≤◌, Bool, true, false, ◌&&◌, List, length, take, drop, Option, Some, None, refl, sym, ◌∙◌, ap, subst, arith, ◌↔◌, cond, pos, nat_le, length-take, length-drop}
use Rattle.std.proofs.lemmas.Bool.{eq-eqb, eqb-true, true≢false, and_parts, and_from, and_left, le-leb, lt-ltb, leb-true, lt-leb}
use Rattle.cv_word.specs.Words.{AreBytes, little_endian, widened}
use Rattle.cv_word.specs.MemoryMap.{code_base, public_base, private_base, is_in_code}
use Rattle.cv_word.specs.Arithmetic.{subtracted, inverted, flags_subtracted}
use Rattle.cv_word.specs.declared.registers.Flags.{Flags}
use Rattle.cv_word.specs.declared.registers.Registers.{Registers}
use Rattle.x64_decode.specs.Spelling.{number, spelling}
use Rattle.x64_decode.specs.Reading.{instruction_at}
use Rattle.x64_decode.specs.declared.instr.Reg.TheVariants.{Rsp, Gpr10, Gpr11}
use Rattle.x64_decode.specs.declared.instr.Cond.TheVariants.{E}
use Rattle.x64_decode.specs.declared.instr.AluOp.TheVariants as alu
use Rattle.x64_decode.specs.declared.instr.Instr.{Instr}
use Rattle.x64_decode.specs.declared.instr.Instr.TheVariants.{Not, MovImm64, AluImm, CmpFlat, Jcc, Ud2}
use Rattle.code_sweep.specs.Units.{inverse}
use Rattle.taint_flow.specs.Label.{Label}
use Rattle.taint_flow.specs.Flow.{address}
use Rattle.cv_word.specs.declared.fault.FaultKind.{FaultKind}
use Rattle.cv_word.specs.declared.fault.FaultKind.TheVariants as fault
use Rattle.cv_word.specs.Memory.{Memory, is_code_word, is_segment_word}
use Rattle.two_segments.specs.Access.{flat_loaded}
use Rattle.x64_alu.specs.CoreStep.{Effect, goes, faults, value, put, flagged, moved_to, holds, alu_result, alu_flags, goes_on, after_comparison, target_of, executed, after_fetch, instruction_in, core_step}
use Rattle.ni_laws.specs.Agreement.{LabelledCode, HasSixteen, EqualUnder, Equal, inside_label, InUnit, Stage, stage_offset, Holds, has_compared, WordStands, AtStage, Standing, at_item, at_raise, at_stage, at_gate, check_of, memory, Two}
use Rattle.ni_laws.specs.Agreement as at
use Rattle.ni_laws.proofs.Sides.{my_memory, your_memory}
use Rattle.ni_laws.proofs.Items.{Facts}
use Rattle.ni_laws.proofs.Registers.{value_same, value_other, moved, stack_put, hidden_put, hidden_flagged}
use Rattle.ni_laws.proofs.Bytes.{inverse_again, eight_small, same_bytes, take_bytes, drop_bytes}
use Rattle.ni_laws.proofs.Units.{unit_of, inside_code}

-- Two effects of one step: both go on and the cores stand alike again, with the same public memory, or the fault is the same.
pub data StepsAlike (code : LabelledCode) (two : Two) : Effect → Effect → Type 0 where
  both_step : (s t : Registers) (public mine yours : List ℕ) → s.pc ≡ t.pc → Standing code s t →
      StepsAlike code two (goes s (memory two.common.size code.bytes public mine)) (goes t (memory two.common.size code.bytes public yours))
  same_fault : (kind : FaultKind) → StepsAlike code two (faults kind) (faults kind)

-- two cores take a step alike
abbrev pub BothStep : LabelledCode → Two → Registers → Registers → Type 0
BothStep code two s t = StepsAlike code two (core_step (my_memory code.bytes two) s) (core_step (your_memory code.bytes two) t)

-- ---- what the unit's own writes keep

ten_other : number Rsp ≢ number Gpr10
ten_other e = omega arith

eleven_other : number Rsp ≢ number Gpr11
eleven_other e = omega arith

ten_eleven : number Gpr10 ≢ number Gpr11
ten_eleven e = omega arith

eleven_ten : number Gpr11 ≢ number Gpr10
eleven_ten e = omega arith

ten_rsp : number Gpr10 ≢ number Rsp
ten_rsp e = omega arith

pub in_unit_moved : (l : Label) (s t : Registers) (a : ℕ) → InUnit l s t → InUnit l (moved_to a s) (moved_to a t)
in_unit_moved l s t a u = record { equal = moved (inside_label l) s t a a u.equal refl; checked = u.checked; small = u.small }

in_unit_eleven : (l : Label) (s t : Registers) (v w : ℕ) → InUnit l s t → InUnit l (put Gpr11 v s) (put Gpr11 w t)
in_unit_eleven l s t v w u = record {
  equal = hidden_put (inside_label l) s t Gpr11 v w refl eleven_other u.equal;
  checked = value_other s Gpr11 Gpr10 v ten_eleven ∙ u.checked ∙ sym (value_other t Gpr11 Gpr10 w ten_eleven);
  small = subst (λ x. x < 2 ^ 32) (sym (value_other s Gpr11 Gpr10 v ten_eleven)) u.small;
}

pub in_unit_flagged : (l : Label) (s t : Registers) (f g : Flags) → InUnit l s t → InUnit l (flagged f s) (flagged g t)
in_unit_flagged l s t f g u = record { equal = hidden_flagged (inside_label l) s t f g refl u.equal; checked = u.checked; small = u.small }

-- r10 is written with the same small number
pub in_unit_ten : (l : Label) (s t : Registers) (v w : ℕ) → Equal (inside_label l) s t → v ≡ w → v < 2 ^ 32 → InUnit l (put Gpr10 v s) (put Gpr10 w t)
in_unit_ten l s t v w e same small =
    let mine : value (put Gpr10 v s) Gpr10 ≡ v = value_same s Gpr10 Gpr10 v e.under.mine refl in
    let yours : value (put Gpr10 w t) Gpr10 ≡ w = value_same t Gpr10 Gpr10 w e.under.yours refl in
    record {
      equal = hidden_put (inside_label l) s t Gpr10 v w refl ten_other e;
      checked = mine ∙ same ∙ sym yours;
      small = subst (λ x. x < 2 ^ 32) (sym mine) small;
    }

-- rsp is written with the same number
pub in_unit_stack : (l : Label) (s t : Registers) (v w : ℕ) → v ≡ w → InUnit l s t → InUnit l (put Rsp v s) (put Rsp w t)
in_unit_stack l s t v w same u = record {
  equal = stack_put (inside_label l) s t v w same u.equal;
  checked = value_other s Rsp Gpr10 v ten_rsp ∙ u.checked ∙ sym (value_other t Rsp Gpr10 w ten_rsp);
  small = subst (λ x. x < 2 ^ 32) (sym (value_other s Rsp Gpr10 v ten_rsp)) u.small;
}

-- ---- a flat address below 2 ^ 32 lies in the code, or nowhere

no_segment : (m : Memory) (base at : ℕ) → at < base → is_segment_word m base at ≡ false
no_segment m base at low = and_left _ _ (lt-leb base at low)

pub flat_code : (m : Memory) (at : ℕ) → at < 2 ^ 32 →
    flat_loaded m at ≡ cond (is_code_word m at) (Some (little_endian (take 8 (drop (at - code_base) m.code)))) None
unfolding flat_loaded
flat_code m at small =
    let public : is_segment_word m public_base at ≡ false = no_segment m public_base at (omega arith) in
    let private : is_segment_word m private_base at ≡ false = no_segment m private_base at (omega arith) in
    rw (public, private) refl

-- ---- the comparison: ZF says whether the word stands there

zero_difference : (a b : ℕ) → a < 2 ^ 64 → b < 2 ^ 64 → subtracted a b ≡ 0 → a ≡ b
zero_difference a b x y e = omega arith

no_difference : (a : ℕ) → a < 2 ^ 64 → subtracted a a ≡ 0
no_difference a x = omega arith

eight_taken : (code : List ℕ) (at : ℕ) → code_base ≤ at → at + 8 ≤ code_base + length code → length (take 8 (drop (at - code_base) code)) ≡ 8
eight_taken code at low fits = omega (arith, length-take 8 (drop (at - code_base) code), length-drop (at - code_base) code)

module _ (code word : List ℕ) (word_bytes : AreBytes word) (long : length word ≡ 8) where
  word_found : (at : ℕ) → AreBytes code → code_base ≤ at → at + 8 ≤ code_base + length code →
      subtracted (little_endian word) (little_endian (take 8 (drop (at - code_base) code))) ≡ 0 → WordStands code word at
  word_found at bytes low fits none =
      let there : List ℕ = take 8 (drop (at - code_base) code) in
      let are : AreBytes there = take_bytes 8 (drop (at - code_base) code) (drop_bytes (at - code_base) code bytes) in
      let eight : length there ≡ 8 = eight_taken code at low fits in
      let same : little_endian word ≡ little_endian there =
      zero_difference (little_endian word) (little_endian there) (eight_small word word_bytes long) (eight_small there are eight) none in
      record {
        place = at - code_base;
        here = omega arith;
        stands = same_bytes there word are word_bytes (eight ∙ sym long) (sym same);
      }

  word_lost : (at : ℕ) → WordStands code word at → subtracted (little_endian word) (little_endian (take 8 (drop (at - code_base) code))) ≡ 0
  word_lost at w =
      let place : at - code_base ≡ w.place = let h = w.here in omega arith in
      let same : little_endian (take 8 (drop (at - code_base) code)) ≡ little_endian word = ap (λ n. little_endian (take 8 (drop n code))) place ∙ ap little_endian w.stands in
      ap (λ n. subtracted (little_endian word) n) same ∙ no_difference (little_endian word) (eight_small word word_bytes long)

  -- the flags of the comparison with 8 bytes of the code
  compared_zero : (x at : ℕ) → AreBytes code → code_base ≤ at → at + 8 ≤ code_base + length code → x ≡ little_endian word →
      ((flags_subtracted x (little_endian (take 8 (drop (at - code_base) code)))).zf ≡ true) ↔ WordStands code word at
  compared_zero x at bytes low fits is =
      let v : ℕ = little_endian (take 8 (drop (at - code_base) code)) in (
        λ z. word_found at bytes low fits (ap (λ n. subtracted n v) (sym is) ∙ eqb-true (subtracted x v) 0 z),
        λ w. eq-eqb (subtracted x v) 0 (ap (λ n. subtracted n v) is ∙ word_lost at w),
      )

-- a word stands inside the code
stands_inside : (code word : List ℕ) (place : ℕ) → length word ≡ 8 → take 8 (drop place code) ≡ word → place < length code
stands_inside code word place long e =
    let n : length (take 8 (drop place code)) ≡ 8 = ap length e ∙ long in omega (arith, n, length-take 8 (drop place code), length-drop place code)

advanced : (v : ℕ) → v < 2 ^ 32 → alu_result alu.Add v (widened (pos 8)) ≡ v + 8
unfolding alu_result
advanced v small = omega arith

-- ---- one instruction of both cores

-- what stands at a core's program counter is what takes effect
pub fetched : (m : Memory) (s : Registers) (place : ℕ) (ins : Instr) → s.pc ≡ code_base + place → instruction_at (drop place m.code) ≡ Some ins →
    core_step m s ≡ executed ins (code_base + place + length (spelling ins)) m s
unfolding core_step
fetched m s place ins here is =
    let inside : place < length m.code = inside_code m.code place ins is in
    let inside' : is_in_code (length m.code) s.pc ≡ true = and_from _ _ (le-leb code_base s.pc (omega arith)) (lt-ltb s.pc (code_base + length m.code) (omega arith)) in
    let there : s.pc - code_base ≡ place = omega arith in
    let found : instruction_in m.code s.pc ≡ Some ins = ap (λ n. instruction_at (drop n m.code)) there ∙ is in
    let P : Bool → Type 0 = λ b. cond b (after_fetch (instruction_in m.code s.pc) m s) (faults fault.Memory) ≡ executed ins (s.pc + length (spelling ins)) m s in
    subst P (sym inside') (ap (λ o. after_fetch o m s) found)
    ∙ ap (λ n. executed ins (n + length (spelling ins)) m s) here

compared : (m : Memory) (s : Registers) (at next : ℕ) → value s Gpr10 ≡ at → at < 2 ^ 32 →
    executed CmpFlat next m s
    ≡ after_comparison (cond (is_code_word m at) (Some (little_endian (take 8 (drop (at - code_base) m.code)))) None) next m s
unfolding executed
compared m s at next is small =
    let low : value s Gpr10 % 2 ^ 32 ≡ at = omega arith in
    ap (λ n. after_comparison (flat_loaded m n) next m s) low
    ∙ ap (λ o. after_comparison o next m s) (flat_code m at small)

module _ (code : LabelledCode) (two : Two) where
  -- both go on, with their memories as they were
  pub both_go_on : (s t : Registers) → s.pc ≡ t.pc → Standing code s t →
      StepsAlike code two (goes s (my_memory code.bytes two)) (goes t (your_memory code.bytes two))
  both_go_on s t counters standing = both_step s t two.common.public two.mine.segment two.yours.segment counters standing

  pub both_fetched : (s t : Registers) (place : ℕ) (ins : Instr) → s.pc ≡ code_base + place → s.pc ≡ t.pc → instruction_at (drop place code.bytes) ≡ Some ins →
      StepsAlike code two
      (executed ins (code_base + place + length (spelling ins)) (my_memory code.bytes two) s)
      (executed ins (code_base + place + length (spelling ins)) (your_memory code.bytes two) t) →
      BothStep code two s t
  both_fetched s t place ins here same is alike =
      let e = fetched (my_memory code.bytes two) s place ins here is in
      let f = fetched (your_memory code.bytes two) t place ins (sym same ∙ here) is in
      let Q : Effect → Type 0 = λ x. StepsAlike code two x (core_step (your_memory code.bytes two) t) in
      let R : Effect → Type 0 = λ y. StepsAlike code two (executed ins (code_base + place + length (spelling ins)) (my_memory code.bytes two) s) y in
      subst Q (sym e) (subst R (sym f) alike)

  -- ---- the stages of a check

  module _ (facts : Facts code) (s t : Registers) where
    pub stage_loads : AtStage code at.loads s t → BothStep code two s t
    unfolding executed spelling
    stage_loads a =
        let u = unit_of code facts at.loads s t a in
        let constant : ℕ = little_endian (inverse a.word) in
        let next : ℕ = code_base + (a.p.at + a.start) + 10 in
        both_fetched s t (a.p.at + a.start) (MovImm64 Gpr11 constant) (omega (arith, a.here)) a.inside.equal.under.counters u.check.loads
        (both_go_on (moved_to next (put Gpr11 constant s)) (moved_to next (put Gpr11 constant t)) refl
        (at_stage at.inverts (record {
          i = a.i;
          p = a.p;
          start = a.start;
          word = a.word;
          stands = a.stands;
          checks = a.checks;
          here = omega arith;
          inside = in_unit_moved (code.labels a.i) (put Gpr11 constant s) (put Gpr11 constant t) next (in_unit_eleven (code.labels a.i) s t constant constant a.inside);
          mine = value_same s Gpr11 Gpr11 constant a.inside.equal.under.mine refl;
          yours = value_same t Gpr11 Gpr11 constant a.inside.equal.under.yours refl;
          flags = λ h. absurd (true≢false (sym h));
        })))

    pub stage_inverts : AtStage code at.inverts s t → BothStep code two s t
    unfolding executed spelling
    stage_inverts a =
        let u = unit_of code facts at.inverts s t a in
        let v : ℕ = inverted (value s Gpr11) in
        let w : ℕ = inverted (value t Gpr11) in
        let next : ℕ = code_base + (a.p.at + a.start + 10) + 3 in
        both_fetched s t (a.p.at + a.start + 10) (Not Gpr11) (omega (arith, a.here)) a.inside.equal.under.counters u.check.inverts
        (both_go_on (moved_to next (put Gpr11 v s)) (moved_to next (put Gpr11 w t)) refl
        (at_stage at.compares (record {
          i = a.i;
          p = a.p;
          start = a.start;
          word = a.word;
          stands = a.stands;
          checks = a.checks;
          here = omega arith;
          inside = in_unit_moved (code.labels a.i) (put Gpr11 v s) (put Gpr11 w t) next (in_unit_eleven (code.labels a.i) s t v w a.inside);
          mine = value_same s Gpr11 Gpr11 v a.inside.equal.under.mine refl ∙ ap inverted a.mine ∙ inverse_again a.word u.bytes u.long;
          yours = value_same t Gpr11 Gpr11 w a.inside.equal.under.yours refl ∙ ap inverted a.yours ∙ inverse_again a.word u.bytes u.long;
          flags = λ h. absurd (true≢false (sym h));
        })))

    compare_steps : (a : AtStage code at.compares s t) (test : Bool) → nat_le code_base (value s Gpr10) && nat_le (value s Gpr10 + 8) (code_base + length code.bytes) ≡ test →
        (let next : ℕ = code_base + (a.p.at + a.start + 13) + 8 in
        let o : Option ℕ = cond test (Some (little_endian (take 8 (drop (value s Gpr10 - code_base) code.bytes)))) None in
        StepsAlike code two (after_comparison o next (my_memory code.bytes two) s) (after_comparison o next (your_memory code.bytes two) t))
    compare_steps a false is = same_fault fault.Memory
    compare_steps a true is =
        let u = unit_of code facts at.compares s t a in
        let v : ℕ = little_endian (take 8 (drop (value s Gpr10 - code_base) code.bytes)) in
        let next : ℕ = code_base + (a.p.at + a.start + 13) + 8 in
        let parts = and_parts (nat_le code_base (value s Gpr10)) (nat_le (value s Gpr10 + 8) (code_base + length code.bytes)) is in
        let low : code_base ≤ value s Gpr10 = leb-true code_base (value s Gpr10) parts.0 in
        let fits : value s Gpr10 + 8 ≤ code_base + length code.bytes = leb-true (value s Gpr10 + 8) (code_base + length code.bytes) parts.1 in
        let f : Flags = flags_subtracted (value s Gpr11) v in
        let g : Flags = flags_subtracted (value t Gpr11) v in
        let P : ℕ → Type 0 = λ x. (g.zf ≡ true) ↔ WordStands code.bytes a.word x in
        both_go_on (moved_to next (flagged f s)) (moved_to next (flagged g t)) refl
        (at_stage at.branches (record {
          i = a.i;
          p = a.p;
          start = a.start;
          word = a.word;
          stands = a.stands;
          checks = a.checks;
          here = omega arith;
          inside = in_unit_moved (code.labels a.i) (flagged f s) (flagged g t) next (in_unit_flagged (code.labels a.i) s t f g a.inside);
          mine = (a.mine, compared_zero code.bytes a.word u.bytes u.long (value s Gpr11) (value s Gpr10) facts.code_bytes low fits a.mine);
          yours = (a.yours, subst P a.inside.checked (compared_zero code.bytes a.word u.bytes u.long (value t Gpr11) (value s Gpr10) facts.code_bytes low fits a.yours));
          flags = λ h. ap (λ x. flags_subtracted x v) (a.mine ∙ sym a.yours);
        }))

    pub stage_compares : AtStage code at.compares s t → BothStep code two s t
    unfolding spelling
    stage_compares a =
        let u = unit_of code facts at.compares s t a in
        let next : ℕ = code_base + (a.p.at + a.start + 13) + 8 in
        let Q : Effect → Type 0 = λ x. StepsAlike code two x (executed CmpFlat next (your_memory code.bytes two) t) in
        let o : Option ℕ = cond (nat_le code_base (value s Gpr10) && nat_le (value s Gpr10 + 8) (code_base + length code.bytes))
        (Some (little_endian (take 8 (drop (value s Gpr10 - code_base) code.bytes)))) None in
        let R : Effect → Type 0 = λ y. StepsAlike code two (after_comparison o next (my_memory code.bytes two) s) y in
        both_fetched s t (a.p.at + a.start + 13) CmpFlat (omega (arith, a.here)) a.inside.equal.under.counters u.check.compares
        (subst Q (sym (compared (my_memory code.bytes two) s (value s Gpr10) next refl a.inside.small))
        (subst R (sym (compared (your_memory code.bytes two) t (value s Gpr10) next (sym a.inside.checked) a.inside.small))
        (compare_steps a _ refl)))

    -- the jump on ZF
    branch_steps : (z : Bool) (target next : ℕ) →
        (z ≡ true → AtStage code at.advances (moved_to target s) (moved_to target t)) →
        (z ≡ false → AtStage code at.traps (moved_to next s) (moved_to next t)) →
        StepsAlike code two (goes_on (cond z target next) (my_memory code.bytes two) s) (goes_on (cond z target next) (your_memory code.bytes two) t)
    branch_steps true target next taken passed = both_go_on _ _ refl (at_stage at.advances (taken refl))
    branch_steps false target next taken passed = both_go_on _ _ refl (at_stage at.traps (passed refl))

    pub stage_branches : AtStage code at.branches s t → BothStep code two s t
    unfolding executed spelling holds
    stage_branches a =
        let u = unit_of code facts at.branches s t a in
        let limit : length code.bytes ≤ 4194304 = facts.limit in
        let next : ℕ = code_base + (a.p.at + a.start + 21) + 6 in
        let inside : a.p.at + a.start + 21 < length code.bytes = inside_code code.bytes (a.p.at + a.start + 21) (Jcc E (pos 2)) u.check.branches in
        let target : target_of next (pos 2) ≡ next + 2 = omega arith in
        let same : s.flags ≡ t.flags = a.flags refl in
        let zero_same : s.flags.zf ≡ t.flags.zf = ap (λ (f : Flags). f.zf) same in
        let R : Bool → Type 0 = λ z. StepsAlike code two
        (goes_on (cond s.flags.zf (target_of next (pos 2)) next) (my_memory code.bytes two) s) (goes_on (cond z (target_of next (pos 2)) next) (your_memory code.bytes two) t) in
        both_fetched s t (a.p.at + a.start + 21) (Jcc E (pos 2)) (omega (arith, a.here)) a.inside.equal.under.counters u.check.branches
        (subst R zero_same
        (branch_steps s.flags.zf (target_of next (pos 2)) next
        (λ z. record {
          i = a.i;
          p = a.p;
          start = a.start;
          word = a.word;
          stands = a.stands;
          checks = a.checks;
          here = target ∙ (let h : next + 2 ≡ address a.p + a.start + 29 = omega arith in h);
          inside = in_unit_moved (code.labels a.i) s t (target_of next (pos 2)) a.inside;
          mine = (a.mine.0, a.mine.1.0 z);
          yours = (a.yours.0, a.yours.1.0 (sym zero_same ∙ z));
          flags = λ h. same;
        })
        (λ z. record {
          i = a.i;
          p = a.p;
          start = a.start;
          word = a.word;
          stands = a.stands;
          checks = a.checks;
          here = omega arith;
          inside = in_unit_moved (code.labels a.i) s t next a.inside;
          mine = a.mine.0;
          yours = a.yours.0;
          flags = λ h. same;
        })))

    pub stage_traps : AtStage code at.traps s t → BothStep code two s t
    unfolding executed
    stage_traps a =
        let u = unit_of code facts at.traps s t a in
        both_fetched s t (a.p.at + a.start + 27) Ud2 (omega (arith, a.here)) a.inside.equal.under.counters u.check.traps (same_fault fault.Undefined)

    pub stage_advances : AtStage code at.advances s t → BothStep code two s t
    unfolding executed spelling
    stage_advances a =
        let u = unit_of code facts at.advances s t a in
        let limit : length code.bytes ≤ 4194304 = facts.limit in
        let next : ℕ = code_base + (a.p.at + a.start + 29) + 7 in
        let v : ℕ = alu_result alu.Add (value s Gpr10) (widened (pos 8)) in
        let w : ℕ = alu_result alu.Add (value t Gpr10) (widened (pos 8)) in
        let f : Flags = alu_flags alu.Add (value s Gpr10) (widened (pos 8)) in
        let g : Flags = alu_flags alu.Add (value t Gpr10) (widened (pos 8)) in
        let same : v ≡ w = ap (λ x. alu_result alu.Add x (widened (pos 8))) a.inside.checked in
        let there : a.mine.1.place < length code.bytes = stands_inside code.bytes a.word a.mine.1.place u.long a.mine.1.stands in
        let at_word : value s Gpr10 ≡ code_base + a.mine.1.place = a.mine.1.here in
        let up : v ≡ value s Gpr10 + 8 = advanced (value s Gpr10) a.inside.small in
        let up' : w ≡ value t Gpr10 + 8 = advanced (value t Gpr10) (subst (λ x. x < 2 ^ 32) a.inside.checked a.inside.small) in
        let small : v < 2 ^ 32 = omega arith in
        let flagged_alike : InUnit (code.labels a.i) (flagged f s) (flagged g t) = in_unit_flagged (code.labels a.i) s t f g a.inside in
        both_fetched s t (a.p.at + a.start + 29) (AluImm alu.Add Gpr10 (pos 8)) (omega (arith, a.here)) a.inside.equal.under.counters u.check.advances
        (both_go_on (moved_to next (put Gpr10 v (flagged f s))) (moved_to next (put Gpr10 w (flagged g t))) refl
        (at_stage at.leaves (record {
          i = a.i;
          p = a.p;
          start = a.start;
          word = a.word;
          stands = a.stands;
          checks = a.checks;
          here = omega arith;
          inside = in_unit_moved (code.labels a.i) (put Gpr10 v (flagged f s)) (put Gpr10 w (flagged g t)) next
              (in_unit_ten (code.labels a.i) (flagged f s) (flagged g t) v w flagged_alike.equal same small);
          mine = (
            value_other (flagged f s) Gpr10 Gpr11 v eleven_ten ∙ a.mine.0,
            (value s Gpr10, value_same (flagged f s) Gpr10 Gpr10 v a.inside.equal.under.mine refl ∙ up, a.mine.1),
          );
          yours = (
            value_other (flagged g t) Gpr10 Gpr11 w eleven_ten ∙ a.yours.0,
            (value t Gpr10, value_same (flagged g t) Gpr10 Gpr10 w a.inside.equal.under.yours refl ∙ up', a.yours.1),
          );
          flags = λ h. ap (λ x. alu_flags alu.Add x (widened (pos 8))) a.inside.checked;
        })))
