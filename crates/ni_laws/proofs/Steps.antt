-- One step of two cores of an accepted code that stand alike: both go on and stand alike again, or both fault alike.
use Rattle.std.proofs.Common.{◌≡◌, ℕ, ◌+◌, ◌-◌, ◌%◌, ◌^◌, ◌<◌, Bool, true, false, List, length, take, drop, Option, Some, None, refl, sym, ◌∙◌, ap, subst, arith, ◌⊎◌, inl, inr, cond, ℤ, pos}
use Rattle.std.proofs.lemmas.Bool.{true≢false}
use Rattle.std.proofs.lemmas.Option.{same_Some, none-some}
use Rattle.cv_word.specs.Words.{AreBytes, little_endian, widened}
use Rattle.cv_word.specs.MemoryMap.{code_base, public_base, private_base, is_mapped, operand_offset}
use Rattle.cv_word.specs.Arithmetic.{subtracted}
use Rattle.cv_word.specs.declared.registers.Flags.{Flags}
use Rattle.cv_word.specs.declared.registers.Registers.{Registers}
use Rattle.x64_decode.specs.Spelling.{spelling}
use Rattle.x64_decode.specs.declared.instr.Reg.{Reg}
use Rattle.x64_decode.specs.declared.instr.Reg.TheVariants.{Rsp, Gpr10}
use Rattle.x64_decode.specs.declared.instr.Mem.{Mem}
use Rattle.x64_decode.specs.declared.instr.Seg.TheVariants.{Fs, Gs}
use Rattle.x64_decode.specs.declared.instr.AluOp.TheVariants as alu
use Rattle.x64_decode.specs.declared.instr.Instr.{Instr}
use Rattle.x64_decode.specs.declared.instr.Instr.TheVariants.{Idiv, Mov, AluImm, Load, LoadZx8, LoadSx8, LoadSx32, Store, CmpFlat, JmpR10, CallR10, Jmp, Ud2}
use Rattle.x64_decode.specs.declared.instr.Instr.TheVariants as instr
use Rattle.cv_word.specs.declared.fault.FaultKind.TheVariants as fault
use Rattle.cv_word.specs.Memory.{Memory}
use Rattle.two_segments.specs.Access.{loaded, flat_stored}
use Rattle.x64_alu.specs.CoreStep.{Effect, value, put, flagged, moved_to, alu_result, alu_flags, after_load, after_push, calls, target_of, executed, offset_of}
use Rattle.magic_words.specs.MagicWords.{call_word, return_word}
use Rattle.code_sweep.specs.declared.item.Item.{Item}
use Rattle.code_sweep.specs.declared.item.Item.TheVariants.{Call, Ret, Plain, ReturnUnit, CallUnit}
use Rattle.code_sweep.specs.Listing.{item_bytes}
use Rattle.taint_flow.specs.Label.{Label, taint, left_by, entry_label, return_label}
use Rattle.taint_flow.specs.Flow.{address, address_after, said_behind, passes_private, returns_private, has_private_address}
use Rattle.taint_flow.specs.Calls.{call_target, item_calls, callee, instruction_is_call, bits_called, bits_at}
use Rattle.conf_verify.specs.declared.rule.Rule.TheVariants.{V10, V15, V16}
use Rattle.conf_verify.specs.Rules.{is_word}
use Rattle.ni_laws.specs.Agreement.{LabelledCode, HasSixteen, EqualUnder, Equal, inside_label, AtItem, InUnit, AtRaise, AtStage, AtGate, Stage, Standing, at_item, at_raise, at_stage, at_gate, check_of, WordStands, CoreAlike, CoresAlike, Two}
use Rattle.ni_laws.specs.Agreement as at
use Rattle.ni_laws.proofs.Bytes.{four_small}
use Rattle.ni_laws.proofs.Registers.{moved, stack_put, inside, entered, returned}
use Rattle.ni_laws.proofs.Sides.{my_memory, your_memory}
use Rattle.ni_laws.proofs.Rows.{Alike, both_go, both_fault, KeepsRules, row, StoresAlike, both_kept, both_stored, stores}
use Rattle.ni_laws.proofs.Items.{Facts, item_is, kept, keeps_rules, call_at, return_at, Callee, procedure, gate, called}
use Rattle.ni_laws.proofs.Landing.{landed, landed_word, landed_behind_word}
use Rattle.ni_laws.proofs.Units.{return_parts, call_parts, unit_of, last_of, some_pair}
use Rattle.ni_laws.proofs.Checks.{StepsAlike, both_step, same_fault, BothStep, both_go_on, both_fetched, in_unit_moved, in_unit_ten, in_unit_flagged, in_unit_stack, stage_loads, stage_inverts, stage_compares, stage_branches, stage_traps, stage_advances}

-- ---- calls: the push, and where they go

some_where : (code : List ℕ) (two : Two) (test : Bool) {m n x y : Option Memory} → StoresAlike code two m n → StoresAlike code two x y →
    StoresAlike code two (cond test m x) (cond test n y)
some_where code two true a b = a
some_where code two false a b = b

pushes : (code : List ℕ) (two : Two) (at v : ℕ) →
    StoresAlike code two (flat_stored (my_memory code two) at v) (flat_stored (your_memory code two) at v)
unfolding flat_stored
pushes code two at v =
    some_where code two _ (stores code two Fs (at - public_base) 8 v v false refl (λ h. refl))
    (some_where code two _ (stores code two Gs (at - private_base) 8 v v false refl (λ h. refl)) both_kept)

-- a core behind a push and a jump
abbrev pushed_to : ℕ → Registers → Registers
pushed_to target s = moved_to target (put Rsp (subtracted (value s Rsp) 8) s)

after_pushes : (code : LabelledCode) (two : Two) (target : ℕ) (s t : Registers) {m n : Option Memory} → StoresAlike code.bytes two m n →
    Standing code (pushed_to target s) (pushed_to target t) → StepsAlike code two (after_push m target s) (after_push n target t)
after_pushes code two target s t both_kept standing = same_fault fault.Memory
after_pushes code two target s t (both_stored public mine yours) standing = both_step _ _ public mine yours refl standing

pushed : (l : Label) (s t : Registers) (target : ℕ) → Equal l s t → Equal l (pushed_to target s) (pushed_to target t)
pushed l s t target e =
    moved l (put Rsp (subtracted (value s Rsp) 8) s) (put Rsp (subtracted (value t Rsp) 8) t) target target
    (stack_put l s t (subtracted (value s Rsp) 8) (subtracted (value t Rsp) 8) (ap (λ v. subtracted v 8) e.stack) e) refl

both_calls : (code : LabelledCode) (two : Two) (target next : ℕ) (s t : Registers) → value s Rsp ≡ value t Rsp →
    Standing code (pushed_to target s) (pushed_to target t) →
    StepsAlike code two (calls target next (my_memory code.bytes two) s) (calls target next (your_memory code.bytes two) t)
both_calls code two target next s t same standing =
    let R : ℕ → Type 0 = λ v. StepsAlike code two (calls target next (my_memory code.bytes two) s)
    (after_push (flat_stored (your_memory code.bytes two) (subtracted v 8) next) target t) in
    subst R same
    (after_pushes code two target s t (pushes code.bytes two (subtracted (value s Rsp) 8) next) standing)

-- the cores at what is called: behind a call word, or at a gate
at_callee : (code : LabelledCode) → Facts code → (bits : ℕ) (s t : Registers) → Equal (entry_label bits) s t → Callee code.items bits s.pc → Standing code s t
at_callee code facts bits s t e (procedure j q stands is ends) =
    at_item (landed_word code facts s t j q (entry_label bits) stands (ap said_behind is) (sym ends) e)
at_callee code facts bits s t e (gate g is same) =
    at_gate (record {
      gate = g;
      here = is;
      equal = subst (λ (x : ℕ). Equal (entry_label x) s t) (sym same) e;
    })

-- ---- what a load from the stack gives

small_where : (test : Bool) (n v : ℕ) → n < 2 ^ 32 → cond test (Some n) None ≡ Some v → v < 2 ^ 32
small_where true n v small e = subst (λ x. x < 2 ^ 32) (same_Some n v e) small
small_where false n v small e = absurd (none-some v e)

small_load : (m : Memory) (offset v : ℕ) → AreBytes m.public → loaded m Fs offset 4 ≡ Some v → v < 2 ^ 32
unfolding loaded
small_load m offset v bytes e = small_where (is_mapped m.size offset 4) (little_endian (take 4 (drop offset m.public))) v (four_small m.public offset bytes) e

same_load : (code : List ℕ) (two : Two) (offset width : ℕ) → loaded (my_memory code two) Fs offset width ≡ loaded (your_memory code two) Fs offset width
unfolding loaded
same_load code two offset width = refl

-- ---- the kinds of items

-- a unit is of one of two kinds
kind_of : (prefix : List ℕ) (item : Item) (start : ℕ) (word : List ℕ) → check_of prefix item ≡ Some (start, word) →
    ((bit : ℕ) × (item ≡ ReturnUnit bit) × (word ≡ return_word bit prefix) × (last_of item ≡ JmpR10))
    ⊎ ((r : Reg) × (bits : ℕ) × (item ≡ CallUnit r bits) × (word ≡ call_word bits prefix) × (last_of item ≡ CallR10))
kind_of prefix (Call bits) start word e = absurd (none-some (start, word) e)
kind_of prefix (Ret bit) start word e = absurd (none-some (start, word) e)
kind_of prefix (Plain i) start word e = absurd (none-some (start, word) e)
kind_of prefix (ReturnUnit bit) start word e = inl (bit, refl, sym (some_pair 17 start (return_word bit prefix) word e).1, refl)
kind_of prefix (CallUnit r bits) start word e = inr (r, bits, refl, sym (some_pair 3 start (call_word bits prefix) word e).1, refl)

call_or_not : (ins : Instr) → ((rel : ℤ) × (ins ≡ instr.Call rel)) ⊎ (instruction_is_call ins ≡ false)
call_or_not (instr.Call rel) = inl (rel, refl)
call_or_not _ = inr refl

-- ---- an instruction

module _ (code : LabelledCode) (facts : Facts code) (two : Two) (s t : Registers) where
  steps_from : (a : AtItem code s t) (ins : Instr) {e f : Effect} → a.p.item ≡ Plain ins → KeepsRules ins (code.labels a.i) →
      Alike ins (address_after a.p) (left_by ins (code.labels a.i)) code.bytes two e f → StepsAlike code two e f
  steps_from a ins is keeps (both_go s' t' public mine yours equal lands) =
      both_step s' t' public mine yours equal.counters
      (at_item (landed code facts s' t' a.i a.p ins a.stands is lands (record { under = equal; stack = equal.registers Rsp keeps.stack })))
  steps_from a ins is keeps (both_fault kind) = same_fault kind

  plain_step : (a : AtItem code s t) (ins : Instr) → a.p.item ≡ Plain ins → instruction_is_call ins ≡ false → BothStep code two s t
  unfolding item_bytes
  plain_step a ins is calls =
      let stands = item_is code facts a.i a.p (Plain ins) a.stands is in
      let keeps = keeps_rules code facts a.i a.p ins a.stands is in
      let next : address_after a.p ≡ code_base + a.p.at + length (spelling ins) = omega (arith, stands.1) in
      let P : ℕ → Type 0 = λ n. StepsAlike code two (executed ins n (my_memory code.bytes two) s) (executed ins n (your_memory code.bytes two) t) in
      both_fetched code two s t a.p.at ins a.here a.equal.under.counters stands.0.is.3
      (subst P next (steps_from a ins is keeps
      (row code.bytes two (address_after a.p) (code.labels a.i) s t a.equal.under ins stands.0.is.4 calls keeps)))

  -- ---- a direct call

  call_step : (a : AtItem code s t) (rel : ℤ) → a.p.item ≡ Plain (instr.Call rel) → BothStep code two s t
  unfolding executed item_bytes
  call_step a rel is =
      let stands = item_is code facts a.i a.p (Plain (instr.Call rel)) a.stands is in
      let after : ℕ = address_after a.p in
      let target : ℕ = target_of after rel in
      let names : call_target a.p ≡ Some target = ap (λ item. item_calls item after) is in
      let through : callee code.items a.p ≡ bits_at code.items (call_target a.p) =
      ap (λ item. bits_called code.items item after) is ∙ ap (λ item. bits_at code.items (item_calls item after)) (sym is) in
      let c = called code.items a.i target a.p facts.calls a.stands names through in
      let keeps : passes_private (Some c.0) (code.labels a.i) ≡ false = ap (λ o. passes_private o (code.labels a.i)) (sym c.1) ∙ kept code facts a.i a.p V15 a.stands in
      let e : Equal (entry_label c.0) s t = entered c.0 (code.labels a.i) s t keeps a.equal in
      let next : after ≡ code_base + a.p.at + length (spelling (instr.Call rel)) = omega (arith, stands.1) in
      let P : ℕ → Type 0 = λ n. StepsAlike code two (executed (instr.Call rel) n (my_memory code.bytes two) s) (executed (instr.Call rel) n (your_memory code.bytes two) t) in
      both_fetched code two s t a.p.at (instr.Call rel) a.here a.equal.under.counters stands.0.is.3
      (subst P next (both_calls code two target after s t e.stack
      (at_callee code facts c.0 _ _ (pushed (entry_label c.0) s t target e) c.2)))

  -- ---- the start of a return unit: the address on the stack

  raise_steps : (a : AtItem code s t) (bit next : ℕ) (o : Option ℕ) → a.p.item ≡ ReturnUnit bit → next ≡ address a.p + 10 → ((v : ℕ) → o ≡ Some v → v < 2 ^ 32) →
      StepsAlike code two (after_load o (λ v. v) Gpr10 next (my_memory code.bytes two) s) (after_load o (λ v. v) Gpr10 next (your_memory code.bytes two) t)
  raise_steps a bit next None is at small = same_fault fault.Memory
  raise_steps a bit next (Some v) is at small =
      both_go_on code two (moved_to next (put Gpr10 v s)) (moved_to next (put Gpr10 v t)) refl
      (at_raise (record {
        i = a.i;
        p = a.p;
        bit = bit;
        stands = a.stands;
        unit = is;
        here = at;
        inside = in_unit_moved (code.labels a.i) (put Gpr10 v s) (put Gpr10 v t) next
            (in_unit_ten (code.labels a.i) s t v v (inside (code.labels a.i) s t a.equal) refl (small v refl));
      }))

  return_start : (a : AtItem code s t) (bit : ℕ) → a.p.item ≡ ReturnUnit bit → AreBytes two.common.public → BothStep code two s t
  unfolding executed spelling
  return_start a bit is bytes =
      let mem : Mem = record { seg = Fs; base = Rsp; disp = pos 0 } in
      let parts = return_parts code facts a.p.at bit (item_is code facts a.i a.p (ReturnUnit bit) a.stands is).0 in
      let next : ℕ = code_base + a.p.at + 10 in
      let offset : ℕ = offset_of s mem in
      let same : loaded (my_memory code.bytes two) Fs offset 4 ≡ loaded (your_memory code.bytes two) Fs (offset_of t mem) 4 =
      same_load code.bytes two offset 4 ∙ ap (λ v. loaded (your_memory code.bytes two) Fs (operand_offset v (pos 0)) 4) a.equal.stack in
      let R : Option ℕ → Type 0 = λ o. StepsAlike code two
      (after_load (loaded (my_memory code.bytes two) Fs offset 4) (λ v. v) Gpr10 next (my_memory code.bytes two) s) (after_load o (λ v. v) Gpr10 next (your_memory code.bytes two) t) in
      both_fetched code two s t a.p.at (Load false Gpr10 mem) a.here a.equal.under.counters parts.first
      (subst R same (raise_steps a bit next (loaded (my_memory code.bytes two) Fs offset 4) is refl
      (λ v e. small_load (my_memory code.bytes two) offset v bytes e)))

  -- ---- .. and the addition to rsp

  -- THE LAW OF AN INSTRUCTION: two cores that stand alike inside a return unit, before the addition to rsp ..
  pub raise_alike : AtRaise code s t → BothStep code two s t
  unfolding executed spelling
  raise_alike a =
      let parts = return_parts code facts a.p.at a.bit (item_is code facts a.i a.p (ReturnUnit a.bit) a.stands a.unit).0 in
      let next : ℕ = code_base + (a.p.at + 10) + 7 in
      let v : ℕ = alu_result alu.Add (value s Rsp) (widened (pos 8)) in
      let w : ℕ = alu_result alu.Add (value t Rsp) (widened (pos 8)) in
      let f : Flags = alu_flags alu.Add (value s Rsp) (widened (pos 8)) in
      let g : Flags = alu_flags alu.Add (value t Rsp) (widened (pos 8)) in
      let same : v ≡ w = ap (λ x. alu_result alu.Add x (widened (pos 8))) a.inside.equal.stack in
      both_fetched code two s t (a.p.at + 10) (AluImm alu.Add Rsp (pos 8)) (omega (arith, a.here)) a.inside.equal.under.counters parts.second
      (both_go_on code two (moved_to next (put Rsp v (flagged f s))) (moved_to next (put Rsp w (flagged g t))) refl
      (at_stage at.loads (record {
        i = a.i;
        p = a.p;
        start = 17;
        word = return_word a.bit code.prefix;
        stands = a.stands;
        checks = ap (λ item. check_of code.prefix item) a.unit;
        here = omega arith;
        inside = in_unit_moved (code.labels a.i) (put Rsp v (flagged f s)) (put Rsp w (flagged g t)) next
            (in_unit_stack (code.labels a.i) (flagged f s) (flagged g t) v w same (in_unit_flagged (code.labels a.i) s t f g a.inside));
        mine = tt;
        yours = tt;
        flags = λ h. absurd (true≢false (sym h));
      })))

  -- ---- the start of a call unit: the low half of the register

  call_start : (a : AtItem code s t) (r : Reg) (bits : ℕ) → a.p.item ≡ CallUnit r bits → BothStep code two s t
  unfolding executed spelling
  call_start a r bits is =
      let parts = call_parts code facts a.p.at r bits (item_is code facts a.i a.p (CallUnit r bits) a.stands is).0 in
      let next : ℕ = code_base + a.p.at + 3 in
      let v : ℕ = value s r % 2 ^ 32 in
      let w : ℕ = value t r % 2 ^ 32 in
      let shown : taint (code.labels a.i) r ≡ false = ap (λ item. has_private_address item (code.labels a.i)) (sym is) ∙ kept code facts a.i a.p V10 a.stands in
      let same : v ≡ w = ap (λ x. x % 2 ^ 32) (a.equal.under.registers r shown) in
      let small : v < 2 ^ 32 = omega arith in
      both_fetched code two s t a.p.at (Mov false Gpr10 r) a.here a.equal.under.counters parts.first
      (both_go_on code two (moved_to next (put Gpr10 v s)) (moved_to next (put Gpr10 w t)) refl
      (at_stage at.loads (record {
        i = a.i;
        p = a.p;
        start = 3;
        word = call_word bits code.prefix;
        stands = a.stands;
        checks = ap (λ item. check_of code.prefix item) is;
        here = omega arith;
        inside = in_unit_moved (code.labels a.i) (put Gpr10 v s) (put Gpr10 w t) next (in_unit_ten (code.labels a.i) s t v w (inside (code.labels a.i) s t a.equal) same small);
        mine = tt;
        yours = tt;
        flags = λ h. absurd (true≢false (sym h));
      })))

  -- ---- the end of a unit: behind the word that was found

  return_leaves : (a : AtStage code at.leaves s t) (bit : ℕ) → a.p.item ≡ ReturnUnit bit → a.word ≡ return_word bit code.prefix → last_of a.p.item ≡ JmpR10 → BothStep code two s t
  unfolding executed
  return_leaves a bit is word last =
      let u = unit_of code facts at.leaves s t a in
      let parts = return_parts code facts a.p.at bit (item_is code facts a.i a.p (ReturnUnit bit) a.stands is).0 in
      let w = a.mine.1.2 in
      let found = return_at code facts w.place bit (w.stands ∙ word) in
      let keeps : returns_private (ReturnUnit bit) (inside_label (code.labels a.i)) ≡ false =
      ap (λ item. returns_private item (code.labels a.i)) (sym is) ∙ kept code facts a.i a.p V16 a.stands in
      let e : Equal (return_label bit) s t = returned bit (inside_label (code.labels a.i)) s t parts.small keeps a.inside.equal in
      let goal_pc : value s Gpr10 ≡ code_base + w.place + 8 = a.mine.1.1 ∙ ap (λ n. n + 8) w.here in
      both_fetched code two s t (a.p.at + a.start + 36) JmpR10 (omega (arith, a.here)) a.inside.equal.under.counters (u.check.leaves ∙ ap (λ i. Some i) last)
      (both_go_on code two (moved_to (value s Gpr10) s) (moved_to (value t Gpr10) t) a.inside.checked
      (at_item (landed_behind_word code facts _ _ (Ret bit) w.place (return_label bit) found refl goal_pc
      (moved (return_label bit) s t (value s Gpr10) (value t Gpr10) e a.inside.checked))))

  call_leaves : (a : AtStage code at.leaves s t) (r : Reg) (bits : ℕ) → a.p.item ≡ CallUnit r bits → a.word ≡ call_word bits code.prefix → last_of a.p.item ≡ CallR10 → BothStep code two s t
  unfolding executed
  call_leaves a r bits is word last =
      let u = unit_of code facts at.leaves s t a in
      let w = a.mine.1.2 in
      let found = call_at code facts w.place bits (w.stands ∙ word) in
      let calls_it : callee code.items a.p ≡ Some bits = ap (λ item. bits_called code.items item (address_after a.p)) is in
      let keeps : passes_private (Some bits) (inside_label (code.labels a.i)) ≡ false =
      ap (λ o. passes_private o (code.labels a.i)) (sym calls_it) ∙ kept code facts a.i a.p V15 a.stands in
      let e : Equal (entry_label bits) s t = entered bits (inside_label (code.labels a.i)) s t keeps a.inside.equal in
      let target : ℕ = value s Gpr10 in
      let next : ℕ = code_base + (a.p.at + a.start + 36) + length (spelling CallR10) in
      let goal_pc : target ≡ code_base + w.place + 8 = a.mine.1.1 ∙ ap (λ n. n + 8) w.here in
      let R : ℕ → Type 0 = λ x. StepsAlike code two (calls target next (my_memory code.bytes two) s) (calls x next (your_memory code.bytes two) t) in
      both_fetched code two s t (a.p.at + a.start + 36) CallR10 (omega (arith, a.here)) a.inside.equal.under.counters (u.check.leaves ∙ ap (λ i. Some i) last)
      (subst R a.inside.checked (both_calls code two target next s t e.stack
      (at_item (landed_behind_word code facts _ _ (Call bits) w.place (entry_label bits) found refl goal_pc
      (pushed (entry_label bits) s t target e)))))

  stage_leaves : AtStage code at.leaves s t → BothStep code two s t
  stage_leaves a =
      elim (kind_of code.prefix a.p.item a.start a.word a.checks) [
        | inl k ↦ return_leaves a k.0 k.1 k.2 k.3
        | inr k ↦ call_leaves a k.0 k.1 k.2 k.3 k.4
      ]

  -- .. inside the check of a unit ..
  pub stage_alike : (stage : Stage) → AtStage code stage s t → BothStep code two s t
  stage_alike at.loads a = stage_loads code two facts s t a
  stage_alike at.inverts a = stage_inverts code two facts s t a
  stage_alike at.compares a = stage_compares code two facts s t a
  stage_alike at.branches a = stage_branches code two facts s t a
  stage_alike at.traps a = stage_traps code two facts s t a
  stage_alike at.advances a = stage_advances code two facts s t a
  stage_alike at.leaves a = stage_leaves a

  item_step : (a : AtItem code s t) → AreBytes two.common.public → (item : Item) → a.p.item ≡ item → is_word item ≡ false → BothStep code two s t
  item_step a bytes (Call bits) is no_word = absurd (true≢false no_word)
  item_step a bytes (Ret bit) is no_word = absurd (true≢false no_word)
  item_step a bytes (Plain ins) is no_word =
      elim (call_or_not ins) [
        | inl c ↦ call_step a c.0 (is ∙ ap Plain c.1)
        | inr n ↦ plain_step a ins is n
      ]
  item_step a bytes (ReturnUnit bit) is no_word = return_start a bit is bytes
  item_step a bytes (CallUnit r bits) is no_word = call_start a r bits is

  -- .. or at an item
  pub item_alike : AreBytes two.common.public → AtItem code s t → BothStep code two s t
  item_alike bytes a = item_step a bytes a.p.item refl a.no_word
