-- Two runs of an accepted code: configurations that agree still do after a step, so after a run, and show the same.
use Rattle.std.proofs.Common.{◌≡◌, ℕ, zero, suc, ◌+◌, ◌-◌, Bool, true, false, List, [], ◌∷◌, length, Option, Some, None, refl, sym, ◌∙◌, ap, subst, slice_get, slice_set, cond, map, ◌&&◌, ◌≤◌, arith}
use Rattle.std.proofs.lemmas.Bool.{true≢false}
use Rattle.cv_word.specs.Words.{AreBytes}
use Rattle.cv_word.specs.MemoryMap.{public_base, private_base, is_in_code, is_mapped}
use Rattle.cv_word.specs.Arithmetic.{subtracted}
use Rattle.cv_word.specs.declared.registers.Registers.{Registers}
use Rattle.x64_decode.specs.Spelling.{spelling}
use Rattle.x64_decode.specs.declared.instr.Reg.{Reg}
use Rattle.x64_decode.specs.declared.instr.Reg.TheVariants.{Rsp}
use Rattle.x64_decode.specs.declared.instr.Seg.{Seg}
use Rattle.x64_decode.specs.declared.instr.Seg.TheVariants.{Fs, Gs}
use Rattle.x64_decode.specs.declared.instr.Instr.{Instr}
use Rattle.x64_decode.specs.declared.instr.Instr.TheVariants.{Idiv, Load, LoadZx8, LoadSx8, LoadSx32, Store, CmpFlat, CallR10}
use Rattle.x64_decode.specs.declared.instr.Instr.TheVariants as instr
use Rattle.cv_word.specs.Memory.{Memory, is_segment_word}
use Rattle.two_segments.specs.Access.{stored, flat_stored}
use Rattle.x64_alu.specs.CoreStep.{Effect, goes, faults, value, after_division, after_load, after_store, after_comparison, after_push, executed, after_fetch, core_step, instruction_in, offset_of}
use Rattle.x64_machine.specs.declared.outcome.Outcome.{Outcome}
use Rattle.x64_machine.specs.declared.outcome.Outcome.TheVariants as outcome
use Rattle.std.specs.List.{list_all}
use Rattle.std.specs.Prelude.{pos}
use Rattle.cv_word.specs.Gates.{gate_at}
use Rattle.cv_word.specs.GateStep.{GateEffect, ends_core, exits, runs_out}
use Rattle.cv_word.specs.MemoryMap.{code_base}
use Rattle.cv_word.specs.declared.gates.Gate.{Gate}
use Rattle.x64_machine.specs.Run.{Core, Configuration, after_step, after_gate, after_core_end, outcome_of_ended, step_at, step_core, step, run, View, view, position_of}
use Rattle.ni_laws.specs.Agreement.{LabelledCode, CoreAlike, CoresAlike, Standing, at_item, at_raise, at_stage, at_gate, Common, Two, TwoAlike, config, Agree, agree}
use Rattle.ni_laws.proofs.Bytes.{spliced_bytes}
use Rattle.ni_laws.proofs.Sides.{my_memory, apart, set_apart}
use Rattle.ni_laws.proofs.Items.{Facts}
use Rattle.ni_laws.proofs.Checks.{StepsAlike, both_step, same_fault, BothStep}
use Rattle.ni_laws.proofs.GateSteps.{GatesAlike, both_return, both_stop, both_refuse, gates_step}
use Rattle.ni_laws.proofs.Steps.{item_alike, raise_alike, stage_alike}
use Rattle.x64_machine.proofs.StepLemmas.{no_gate_above}

-- ---- public memory holds bytes

abbrev LeavesBytes : Effect → Type 0
LeavesBytes (goes s m) = AreBytes m.public
LeavesBytes (faults kind) = Unit {0}

abbrev HoldsBytes : Option Memory → Type 0
HoldsBytes None = Unit {0}
HoldsBytes (Some m) = AreBytes m.public

stored_where : (test : Bool) (m : Memory) → AreBytes m.public → HoldsBytes (cond test (Some m) None)
stored_where true m bytes = bytes
stored_where false m bytes = tt

stored_bytes : (m : Memory) (seg : Seg) (offset width v : ℕ) → AreBytes m.public → HoldsBytes (stored m seg offset width v)
unfolding stored
stored_bytes m Fs offset width v bytes = stored_where (is_mapped m.size offset width) _ (spliced_bytes m.public offset width v bytes)
stored_bytes m Gs offset width v bytes = stored_where (is_mapped m.size offset width) _ bytes

either_bytes : (test : Bool) (m n : Option Memory) → HoldsBytes m → HoldsBytes n → HoldsBytes (cond test m n)
either_bytes true m n a b = a
either_bytes false m n a b = b

flat_stored_bytes : (m : Memory) (at v : ℕ) → AreBytes m.public → HoldsBytes (flat_stored m at v)
unfolding flat_stored
flat_stored_bytes m at v bytes =
    either_bytes (is_segment_word m public_base at) _ _ (stored_bytes m Fs (at - public_base) 8 v bytes)
    (either_bytes (is_segment_word m private_base at) _ _ (stored_bytes m Gs (at - private_base) 8 v bytes) tt)

after_store_bytes : (o : Option Memory) (next : ℕ) (s : Registers) → HoldsBytes o → LeavesBytes (after_store o next s)
after_store_bytes None next s h = tt
after_store_bytes (Some m) next s h = h

after_push_bytes : (o : Option Memory) (target : ℕ) (s : Registers) → HoldsBytes o → LeavesBytes (after_push o target s)
after_push_bytes None target s h = tt
after_push_bytes (Some m) target s h = h

after_load_bytes : (o : Option ℕ) (extend : ℕ → ℕ) (dst : Reg) (next : ℕ) (m : Memory) (s : Registers) → AreBytes m.public → LeavesBytes (after_load o extend dst next m s)
after_load_bytes None extend dst next m s h = tt
after_load_bytes (Some v) extend dst next m s h = h

after_comparison_bytes : (o : Option ℕ) (next : ℕ) (m : Memory) (s : Registers) → AreBytes m.public → LeavesBytes (after_comparison o next m s)
after_comparison_bytes None next m s h = tt
after_comparison_bytes (Some v) next m s h = h

after_division_bytes : (o : Option (ℕ × ℕ)) (next : ℕ) (m : Memory) (s : Registers) → AreBytes m.public → LeavesBytes (after_division o next m s)
after_division_bytes None next m s h = tt
after_division_bytes (Some q) next m s h = h

executed_bytes : (i : Instr) (next : ℕ) (m : Memory) (s : Registers) → AreBytes m.public → LeavesBytes (executed i next m s)
unfolding executed
executed_bytes (Idiv r) next m s h = after_division_bytes _ next m s h
executed_bytes (Load wide dst mem) next m s h = after_load_bytes _ _ dst next m s h
executed_bytes (LoadZx8 dst mem) next m s h = after_load_bytes _ _ dst next m s h
executed_bytes (LoadSx8 dst mem) next m s h = after_load_bytes _ _ dst next m s h
executed_bytes (LoadSx32 dst mem) next m s h = after_load_bytes _ _ dst next m s h
executed_bytes (Store width mem src) next m s h = after_store_bytes _ next s (stored_bytes m mem.seg (offset_of s mem) _ (value s src) h)
executed_bytes CmpFlat next m s h = after_comparison_bytes _ next m s h
executed_bytes CallR10 next m s h = after_push_bytes _ _ s (flat_stored_bytes m (subtracted (value s Rsp) 8) next h)
executed_bytes (instr.Call rel) next m s h = after_push_bytes _ _ s (flat_stored_bytes m (subtracted (value s Rsp) 8) next h)
executed_bytes instr.Ud2 next m s h = tt
executed_bytes _ next m s h = h

fetched_bytes : (o : Option Instr) (m : Memory) (s : Registers) → AreBytes m.public → LeavesBytes (after_fetch o m s)
fetched_bytes None m s h = tt
fetched_bytes (Some i) m s h = executed_bytes i (s.pc + length (spelling i)) m s h

where_bytes : (test : Bool) (e : Effect) → LeavesBytes e → (k : Effect) → LeavesBytes k → LeavesBytes (cond test e k)
where_bytes true e a k b = a
where_bytes false e a k b = b

step_bytes : (m : Memory) (s : Registers) → AreBytes m.public → LeavesBytes (core_step m s)
unfolding core_step
step_bytes m s h = where_bytes (is_in_code (length m.code) s.pc) _ (fetched_bytes (instruction_in m.code s.pc) m s h) _ tt

-- ---- configurations

-- the cores of one number are both there or neither is
data PairAlike (code : LabelledCode) : Option Core → Option Core → Type 0 where
  no_core : PairAlike code None None
  both_cores : (c d : Core) → CoreAlike code c d → PairAlike code (Some c) (Some d)

pair_at : (code : LabelledCode) (cs ds : List Core) (i : ℕ) → CoresAlike code cs ds → PairAlike code (slice_get cs i) (slice_get ds i)
pair_at code [] [] i a = no_core
pair_at code (c ∷ cs) (d ∷ ds) zero a = both_cores c d a.0
pair_at code (c ∷ cs) (d ∷ ds) (suc i) a = pair_at code cs ds i a.1
pair_at code [] (d ∷ ds) i a = absurd a
pair_at code (c ∷ cs) [] i a = absurd a

alike_set : (code : LabelledCode) (cs ds : List Core) (i : ℕ) (c d : Core) → CoresAlike code cs ds → CoreAlike code c d →
    CoresAlike code (slice_set cs i c) (slice_set ds i d)
alike_set code [] [] i c d a b = a
alike_set code (x ∷ cs) (y ∷ ds) zero c d a b = (b, a.1)
alike_set code (x ∷ cs) (y ∷ ds) (suc i) c d a b = (a.0, alike_set code cs ds i c d a.1 b)
alike_set code [] (y ∷ ds) i c d a b = absurd a
alike_set code (x ∷ cs) [] i c d a b = absurd a

unless : (code : LabelledCode) (size : ℕ) (a b : Bool) {x y z w : Configuration} → a ≡ b →
    Agree code size x y → (a ≡ false → Agree code size z w) → Agree code size (cond a x z) (cond b y w)
unless code size true true same ended running = ended
unless code size false false same ended running = running refl
unless code size true false same ended running = absurd (true≢false same)
unless code size false true same ended running = absurd (true≢false (sym same))

both_and : {a b c d : Bool} → a ≡ b → c ≡ d → (a && c) ≡ (b && d)
both_and e f = cc

-- whether all have ended is the same
ended_alike : (code : LabelledCode) (cs ds : List Core) → CoresAlike code cs ds →
    list_all (λ (core : Core). core.ended) cs ≡ list_all (λ (core : Core). core.ended) ds
ended_alike code [] [] a = refl
ended_alike code (c ∷ cs) (d ∷ ds) a = both_and a.0.ended (ended_alike code cs ds a.1)
ended_alike code [] (d ∷ ds) a = absurd a
ended_alike code (c ∷ cs) [] a = absurd a

ended_outcomes : (code : LabelledCode) (cs ds : List Core) → CoresAlike code cs ds →
    outcome_of_ended cs ≡ outcome_of_ended ds
ended_outcomes code cs ds a =
    ap (λ (b : Bool). cond b (outcome.Exited (pos 0)) outcome.Running) (ended_alike code cs ds a)

-- two configurations with other cores
abbrev with_cores : List Core → List Core → Two → Two
with_cores cs ds two = apart (record two.mine { cores = cs }) (record two.yours { cores = ds }) two

abbrev my_config : LabelledCode → Two → Outcome → Configuration
my_config code two o = config code two.common two.mine o

abbrev your_config : LabelledCode → Two → Outcome → Configuration
your_config code two o = config code two.common two.yours o

module _ (code : LabelledCode) (size : ℕ) (two : Two) (known : TwoAlike code size two) (o : Outcome) where
  -- they agree with any cores that are alike, and with any outcome
  cores_agree : (cs ds : List Core) (o' : Outcome) → CoresAlike code cs ds → Agree code size (my_config code (with_cores cs ds two) o') (your_config code (with_cores cs ds two) o')
  cores_agree cs ds o' cores =
      agree (with_cores cs ds two) o' (set_apart code size two (record two.mine { cores = cs }) (record two.yours { cores = ds }) known cores known.outputs)

  module _ (i : ℕ) (c d : Core) (ended : c.ended ≡ d.ended) (pcs : c.registers.pc ≡ d.registers.pc) where
    -- they agree with an outcome that tells where the cores stand
    stopped : (told : ℕ → Outcome) → Agree code size (my_config code two (told c.registers.pc)) (your_config code two (told d.registers.pc))
    stopped told =
        let P : ℕ → Type 0 = λ pc. Agree code size (my_config code two (told c.registers.pc)) (your_config code two (told pc)) in
        subst P pcs (agree two (told c.registers.pc) known)

    -- what an instruction leaves
    after_alike : (e f : Effect) → LeavesBytes e → StepsAlike code two e f →
        Agree code size (after_step e i c (my_config code two o)) (after_step f i d (your_config code two o))
    after_alike e f left (both_step s t public' mine' yours' counters standing) =
        agree _ o
        (record {
          size_is = known.size_is;
          cores = alike_set code two.mine.cores two.yours.cores i _ _ known.cores (record { ended = ended; counters = counters; standing = λ h. standing });
          public = left;
          prefix_is = known.prefix_is;
          input = known.input;
          tapes = known.tapes;
          outputs = known.outputs;
        })
    after_alike e f left (same_fault kind) = stopped (λ pc. outcome.Fault i pc kind)

    -- what a core that ends leaves
    core_end_alike : Agree code size (after_core_end i c (my_config code two o)) (after_core_end i d (your_config code two o))
    core_end_alike =
        let ended : Core → Core = λ core. record core { ended = true } in
        let cs : List Core = slice_set two.mine.cores i (ended c) in
        let ds : List Core = slice_set two.yours.cores i (ended d) in
        let a : CoresAlike code cs ds =
        alike_set code two.mine.cores two.yours.cores i (ended c) (ended d) known.cores (record { ended = refl; counters = pcs; standing = λ h. absurd (true≢false h) }) in
        let P : Outcome → Type 0 = λ x. Agree code size
        (my_config code (with_cores cs ds two) (outcome_of_ended cs)) (your_config code (with_cores cs ds two) x) in
        subst P (ended_outcomes code cs ds a) (cores_agree cs ds (outcome_of_ended cs) a)

    -- what a gate step leaves
    after_gates : (e f : GateEffect) → GatesAlike code size e f →
        Agree code size (after_gate e i c (my_config code two o)) (after_gate f i d (your_config code two o))
    after_gates e f (both_return s t later counters standing known') =
        let a = alike_set code two.mine.cores two.yours.cores i _ _ known.cores (record { ended = ended; counters = counters; standing = λ h. standing }) in
        agree _ o (set_apart code size later (record later.mine { cores = _ }) (record later.yours { cores = _ }) known' a known'.outputs)
    after_gates e f (both_stop ends_core) = core_end_alike
    after_gates e f (both_stop (exits status)) = agree two (outcome.Exited status) known
    after_gates e f (both_stop (runs_out class)) = stopped (λ pc. outcome.Tape i pc class)
    after_gates e f (both_refuse kind) = stopped (λ pc. outcome.Fault i pc kind)

    -- the gate at which the cores stand, if any, is the same
    at_gates : (g : Option Gate) → gate_at c.registers.pc ≡ g → Agree code size (step_at g i c (my_config code two o)) (step_at g i d (your_config code two o)) →
        Agree code size (step_at (gate_at c.registers.pc) i c (my_config code two o)) (step_at (gate_at d.registers.pc) i d (your_config code two o))
    at_gates g is both =
        let P : Option Gate → Type 0 = λ x. Agree code size
        (step_at x i c (my_config code two o)) (step_at (gate_at d.registers.pc) i d (your_config code two o)) in
        let Q : Option Gate → Type 0 = λ x. Agree code size
        (step_at g i c (my_config code two o)) (step_at x i d (your_config code two o)) in
        subst P (sym is) (subst Q (sym is ∙ ap (λ (n : ℕ). gate_at n) pcs) both)

    -- at an item or in a unit, which are in the code, an instruction takes effect
    in_code : code_base ≤ c.registers.pc → BothStep code two c.registers d.registers →
        Agree code size (step_at (gate_at c.registers.pc) i c (my_config code two o)) (step_at (gate_at d.registers.pc) i d (your_config code two o))
    in_code high steps =
        at_gates None (no_gate_above c.registers.pc high) (after_alike _ _ (step_bytes (my_memory code.bytes two) c.registers known.public) steps)

    -- a core of each that runs, wherever they stand
    stands_alike : Facts code → Standing code c.registers d.registers →
        Agree code size (step_at (gate_at c.registers.pc) i c (my_config code two o)) (step_at (gate_at d.registers.pc) i d (your_config code two o))
    stands_alike facts (at_item x) = in_code (omega (arith, x.here)) (item_alike code facts two c.registers d.registers known.public x)
    stands_alike facts (at_raise x) = in_code (omega (arith, x.here)) (raise_alike code facts two c.registers d.registers x)
    stands_alike facts (at_stage stage x) = in_code (omega (arith, x.here)) (stage_alike code facts two c.registers d.registers stage x)
    stands_alike facts (at_gate x) =
        at_gates (Some x.gate) x.here (after_gates _ _ (gates_step code facts size x.gate two c.registers d.registers x.equal known))

  core_steps : Facts code → (i : ℕ) (oc od : Option Core) → PairAlike code oc od →
      Agree code size (step_core oc i (my_config code two o)) (step_core od i (your_config code two o))
  core_steps facts i oc od no_core = agree two o known
  core_steps facts i oc od (both_cores c d pair) =
      unless code size c.ended d.ended pair.ended (agree two o known)
      (λ runs. stands_alike i c d pair.ended pair.counters facts (pair.standing runs))

-- THE LAW OF ONE STEP
pub step_alike : (code : LabelledCode) → Facts code → (size i : ℕ) (c d : Configuration) → Agree code size c d → Agree code size (step i c) (step i d)
unfolding step
step_alike code facts size i c d (agree two outcome.Running known) =
    core_steps code size two known outcome.Running facts i _ _ (pair_at code two.mine.cores two.yours.cores i known.cores)
step_alike code facts size i c d (agree two (outcome.Exited status) known) = agree two (outcome.Exited status) known
step_alike code facts size i c d (agree two (outcome.Fault core at kind) known) = agree two (outcome.Fault core at kind) known
step_alike code facts size i c d (agree two (outcome.Tape core at class) known) = agree two (outcome.Tape core at class) known

-- a whole run
pub run_alike : (code : LabelledCode) → Facts code → (size : ℕ) (schedule : List ℕ) (c d : Configuration) →
    Agree code size c d → Agree code size (run schedule c) (run schedule d)
run_alike code facts size [] c d a = a
run_alike code facts size (i ∷ schedule) c d a =
    run_alike code facts size schedule (step i c) (step i d) (step_alike code facts size i c d a)

-- ---- views

same_ended : (code : LabelledCode) (cs ds : List Core) → CoresAlike code cs ds → map (λ (core : Core). core.ended) cs ≡ map (λ (core : Core). core.ended) ds
same_ended code [] [] a = refl
same_ended code (c ∷ cs) (d ∷ ds) a = let x = a.0.ended in let y = same_ended code cs ds a.1 in cc
same_ended code [] (d ∷ ds) a = absurd a
same_ended code (c ∷ cs) [] a = absurd a

same_counters : (code : LabelledCode) (cs ds : List Core) → CoresAlike code cs ds → map (λ (core : Core). core.registers.pc) cs ≡ map (λ (core : Core). core.registers.pc) ds
same_counters code [] [] a = refl
same_counters code (c ∷ cs) (d ∷ ds) a = let x = a.0.counters in let y = same_counters code cs ds a.1 in cc
same_counters code [] (d ∷ ds) a = absurd a
same_counters code (c ∷ cs) [] a = absurd a

-- a view by its parts
abbrev viewed : Common → Outcome → List Bool → List ℕ → ℕ → View
viewed common o ended counters count = record {
  outcome = o;
  ended = ended;
  counters = counters;
  public = common.public;
  public_output = common.visible.public_output;
  audit = common.visible.audit;
  public_heap = common.visible.public_heap;
  private_heap = common.visible.private_heap;
  public_position = common.visible.public_position;
  private_position = common.visible.private_position;
  tape_positions = λ class. position_of (common.tapes class);
  private_output_length = count;
}

pub same_view : (code : LabelledCode) (size : ℕ) (c d : Configuration) → Agree code size c d → view c ≡ view d
same_view code size c d (agree two o known) =
    let cs : List Core = two.mine.cores in
    let ds : List Core = two.yours.cores in
    let x = same_ended code cs ds known.cores in let y = same_counters code cs ds known.cores in
    ap (λ (ended : List Bool). viewed two.common o ended (map (λ (core : Core). core.registers.pc) cs) (length two.mine.output)) x
    ∙ ap (λ (counters : List ℕ). viewed two.common o (map (λ (core : Core). core.ended) ds) counters (length two.mine.output)) y
    ∙ ap (λ (n : ℕ). viewed two.common o (map (λ (core : Core). core.ended) ds) (map (λ (core : Core). core.registers.pc) ds) n) known.outputs
