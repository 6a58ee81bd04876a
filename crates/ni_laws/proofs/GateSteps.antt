-- One gate step of two cores that stand at the same gate with equal public arguments: both go on alike, or both stop alike.
use Rattle.std.proofs.Common.{◌≡◌, ◌≢◌, ℕ, ◌+◌, ◌-◌, ◌%◌, ◌^◌, ◌<◌, ◌≤◌, Bool, true, false, ◌&&◌, List, ◌++◌, length, take, drop, Option, Some, None, refl, sym, ◌∙◌, ap, subst, arith, cond, nat_eq, ◌==◌, length-append}
use Rattle.std.specs.Prelude.{nat_le, nat_lt, not, slice_index}
use Rattle.std.specs.Int.{bit_at, w32, cast_signed}
use Rattle.std.specs.Str.{bytes_eq}
use Rattle.std.proofs.lemmas.Slice.Eq.{bytes_eq-Decides}
use Rattle.std.proofs.lemmas.Bool.{and_parts, true≢false, leb-true, eq-eqb}
use Rattle.cv_word.specs.Words.{AreBytes, little_endian, word_bytes, spliced, sum_64}
use Rattle.cv_word.specs.MemoryMap.{code_base, is_mapped}
use Rattle.cv_word.specs.Marks.{return_word}
use Rattle.cv_word.specs.Gates.{bits_of, result_bit}
use Rattle.cv_word.specs.Memory.{Memory, is_good, items_at}
use Rattle.cv_word.specs.GateStep.{Visible, World, Releasers, TapeState, Ending, ends_core, exits, runs_out, most_output, private_range, answers, ends, GateEffect, goes, stops, faults, gate_step, from_waiting, unless_refused, after_work, work, refusal, reads, writes, read_from, arguments_of, returned, rsp_of, stands_in_code, is_short, advanced, with_class, copied, next_private, after_private, audit_entry}
use Rattle.cv_word.specs.Heap.{taken_at, after_take, gives, after_give}
use Rattle.std.specs.Prelude.{unwrap_or}
use Rattle.cv_word.specs.declared.fault.FaultKind.{FaultKind}
use Rattle.cv_word.specs.declared.fault.FaultKind.TheVariants as fault
use Rattle.cv_word.specs.declared.gates.Arguments.{Arguments}
use Rattle.cv_word.specs.declared.gates.Gate.{Gate}
use Rattle.cv_word.specs.declared.gates.Gate.TheVariants as gate
use Rattle.cv_word.specs.declared.registers.Registers.{Registers}
use Rattle.cv_word.proofs.ItemLemmas.{length-items_at, items_at-bytes}
use Rattle.x64_decode.specs.Spelling.{number}
use Rattle.x64_decode.specs.declared.instr.Reg.{Reg}
use Rattle.x64_decode.specs.declared.instr.Reg.TheVariants as reg
use Rattle.code_sweep.specs.declared.item.Item.TheVariants.{Ret}
use Rattle.taint_flow.specs.Label.{Label, taint, entry_label, return_label}
use Rattle.x64_alu.specs.CoreStep.{value, put}
use Rattle.ni_laws.specs.Agreement.{LabelledCode, Equal, Standing, at_item, Common, Apart, Two, memory_of, world_of, releasers_of, TwoAlike}
use Rattle.ni_laws.proofs.Bytes.{spliced_are, take_bytes, drop_bytes}
use Rattle.ni_laws.proofs.Sides.{my_memory, your_memory, my_world, your_world, my_releasers, your_releasers, seeing, seen, apart, set_apart}
use Rattle.ni_laws.proofs.Items.{Facts, return_at}
use Rattle.ni_laws.proofs.Registers.{sixteen_put, value_same, value_other}
use Rattle.ni_laws.proofs.Landing.{landed_behind_word}

-- ---- the registers behind a gate that answers

rax_rsp : number reg.Rax ≢ number reg.Rsp
rax_rsp e = omega arith

bit_zero : (bit : ℕ) → bit < 2 → nat_eq bit 1 ≡ false → bit ≡ 0
bit_zero bit small h =
    let other : bit ≢ 1 = λ e. true≢false (sym (eq-eqb bit 1 e) ∙ h) in
    omega arith

module _ (bit : ℕ) (l : Label) (s t : Registers) (n m : ℕ) (small : bit < 2) (same : bit ≡ 0 → n ≡ m) (e : Equal l s t) where
  -- rax, where the answer is public, and rsp are equal
  back_registers : (v w : ℕ) → v ≡ w → (r : Reg) → taint (return_label bit) r ≡ false → value (put reg.Rsp v (put reg.Rax n s)) r ≡ value (put reg.Rsp w (put reg.Rax m t)) r
  unfolding return_label
  back_registers v w level reg.Rax h =
      value_other (put reg.Rax n s) reg.Rsp reg.Rax v rax_rsp ∙ value_same s reg.Rax reg.Rax n e.under.mine refl ∙ same (bit_zero bit small h)
      ∙ sym (value_other (put reg.Rax m t) reg.Rsp reg.Rax w rax_rsp ∙ value_same t reg.Rax reg.Rax m e.under.yours refl)
  back_registers v w level reg.Rsp h =
      value_same (put reg.Rax n s) reg.Rsp reg.Rsp v (sixteen_put reg.Rax n s e.under.mine) refl ∙ level
      ∙ sym (value_same (put reg.Rax m t) reg.Rsp reg.Rsp w (sixteen_put reg.Rax m t e.under.yours) refl)
  back_registers v w level _ h = absurd (true≢false h)

  back : (next : ℕ) → Equal (return_label bit) (returned n next s) (returned m next t)
  unfolding return_label
  back next =
      let v : ℕ = sum_64 (rsp_of s) 8 in
      let w : ℕ = sum_64 (rsp_of t) 8 in
      let both : (r : Reg) → taint (return_label bit) r ≡ false → value (put reg.Rsp v (put reg.Rax n s)) r ≡ value (put reg.Rsp w (put reg.Rax m t)) r =
      back_registers v w (ap (λ (x : ℕ). sum_64 x 8) e.stack) in
      record {
        under = record {
          mine = sixteen_put reg.Rsp v (put reg.Rax n s) (sixteen_put reg.Rax n s e.under.mine);
          yours = sixteen_put reg.Rsp w (put reg.Rax m t) (sixteen_put reg.Rax m t e.under.yours);
          registers = both;
          flags = λ h. absurd (true≢false h);
          counters = refl;
        };
        stack = both reg.Rsp refl;
      }

-- ---- two effects of a gate step

abbrev returns : LabelledCode → Registers → Common → Apart → GateEffect
returns code s common apart = goes s (memory_of code.bytes common apart) (world_of common apart) (releasers_of common apart)

-- what a gate does in each of two configurations
abbrev pub in_mine : LabelledCode → Two → (Memory → World → Releasers → GateEffect) → GateEffect
in_mine code two f = f (my_memory code.bytes two) (my_world two) (my_releasers two)

abbrev pub in_yours : LabelledCode → Two → (Memory → World → Releasers → GateEffect) → GateEffect
in_yours code two f = f (your_memory code.bytes two) (your_world two) (your_releasers two)

-- Two effects of a gate: both go on and the cores stand alike again, beside configurations that are alike; or both stop alike; or
-- the fault is the same.
pub data GatesAlike (code : LabelledCode) (size : ℕ) : GateEffect → GateEffect → Type 0 where
  both_return : (s t : Registers) (later : Two) → s.pc ≡ t.pc → Standing code s t → TwoAlike code size later →
      GatesAlike code size (returns code s later.common later.mine) (returns code t later.common later.yours)
  both_stop : (ending : Ending) → GatesAlike code size (stops ending) (stops ending)
  both_refuse : (kind : FaultKind) → GatesAlike code size (faults kind) (faults kind)

-- ---- a gate's work, where two cores wait at one word

-- what is so where two cores have entered a gate, and the word at which they wait was found
record Entered (code : LabelledCode) (size : ℕ) (g : Gate) (next : ℕ) (two : Two) (s t : Registers) : Type 0 where
  place : ℕ
  here : next ≡ code_base + place + 8
  stands : take 8 (drop place code.bytes) ≡ return_word (result_bit g) code.prefix
  equal : Equal (entry_label (bits_of g)) s t
  known : TwoAlike code size two

bit_small : (g : Gate) → result_bit g < 2
bit_small gate.Exit = omega arith
bit_small gate.CoreEnd = omega arith
bit_small gate.PubIn = omega arith
bit_small gate.PubOut = omega arith
bit_small gate.PrivIn = omega arith
bit_small gate.PrivOut = omega arith
bit_small gate.PrivGet = omega arith
bit_small gate.PrivPut = omega arith
bit_small gate.PubAlloc = omega arith
bit_small gate.PrivAlloc = omega arith
bit_small gate.PubFree = omega arith
bit_small gate.PrivFree = omega arith
bit_small gate.Release = omega arith

abbrev args : ℕ → ℕ → ℕ → ℕ → Arguments
args a b c d = record { first = a; second = b; third = c; fourth = d }

longer : (xs ys more rest : List ℕ) → length xs ≡ length ys → length more ≡ length rest → length (xs ++ more) ≡ length (ys ++ rest)
longer xs ys more rest e f = omega (arith, length-append xs more, length-append ys rest)

one_is_none : (n : ℕ) → n ≡ 1 → n ≡ 0 → ⊥
one_is_none n e f = omega arith

shorts : (P : Bool → Type 0) (short : Bool) → P true → P false → P short
shorts P true a b = a
shorts P false a b = b

-- ---- arguments

abbrev first_of : Registers → ℕ
first_of s = slice_index s.r 7

abbrev second_of : Registers → ℕ
second_of s = slice_index s.r 6

abbrev third_of : Registers → ℕ
third_of s = slice_index s.r 2

abbrev fourth_of : Registers → ℕ
fourth_of s = slice_index s.r 1

-- the arguments whose bits are clear are equal
first_same : (bits : ℕ) (s t : Registers) → Equal (entry_label bits) s t → nat_eq (bit_at bits 0) 1 ≡ false → first_of s ≡ first_of t
unfolding entry_label
first_same bits s t e h = e.under.registers reg.Rdi h

second_same : (bits : ℕ) (s t : Registers) → Equal (entry_label bits) s t → nat_eq (bit_at bits 1) 1 ≡ false → second_of s ≡ second_of t
unfolding entry_label
second_same bits s t e h = e.under.registers reg.Rsi h

third_same : (bits : ℕ) (s t : Registers) → Equal (entry_label bits) s t → nat_eq (bit_at bits 2) 1 ≡ false → third_of s ≡ third_of t
unfolding entry_label
third_same bits s t e h = e.under.registers reg.Rdx h

fourth_same : (bits : ℕ) (s t : Registers) → Equal (entry_label bits) s t → nat_eq (bit_at bits 3) 1 ≡ false → fourth_of s ≡ fourth_of t
unfolding entry_label
fourth_same bits s t e h = e.under.registers reg.Rcx h

along : (P : ℕ → ℕ → Type 0) {a b c d : ℕ} → a ≡ c → b ≡ d → P a b → P c d
along P {a = a} {d = d} e f h = subst (λ (x : ℕ). P x d) e (subst (λ (y : ℕ). P a y) f h)

both_ap : {A : Type 0} (f : ℕ → ℕ → A) {a b c d : ℕ} → a ≡ c → b ≡ d → f a b ≡ f c d
both_ap f {a = a} {d = d} e g = ap (λ (y : ℕ). f a y) g ∙ ap (λ (x : ℕ). f x d) e

same_bytes_are : (xs ys : List ℕ) → bytes_eq xs ys ≡ true → xs ≡ ys
same_bytes_are xs ys e = (bytes_eq-Decides xs ys).0 e

-- gates refuse alike
refusals : (g : Gate) (two : Two) (s t : Registers) → Equal (entry_label (bits_of g)) s t → length two.mine.output ≡ length two.yours.output →
    refusal two.common.size g (arguments_of s) (my_world two) (my_releasers two) ≡ refusal two.common.size g (arguments_of t) (your_world two) (your_releasers two)
unfolding refusal
refusals gate.Exit two s t e outputs = refl
refusals gate.CoreEnd two s t e outputs = refl
refusals gate.PubIn two s t e outputs =
    both_ap (λ a b. refusal two.common.size gate.PubIn (args a b 0 0) (my_world two) (my_releasers two)) (first_same 0x0c s t e refl) (second_same 0x0c s t e refl)
refusals gate.PubOut two s t e outputs =
    both_ap (λ a b. refusal two.common.size gate.PubOut (args a b 0 0) (my_world two) (my_releasers two)) (first_same 0x0c s t e refl) (second_same 0x0c s t e refl)
refusals gate.PrivIn two s t e outputs =
    both_ap (λ a b. refusal two.common.size gate.PrivIn (args a b 0 0) (my_world two) (my_releasers two)) (first_same 0x0c s t e refl) (second_same 0x0c s t e refl)
refusals gate.PrivOut two s t e outputs =
    both_ap (λ a b. refusal two.common.size gate.PrivOut (args a b 0 0) (my_world two) (my_releasers two)) (first_same 0x0c s t e refl) (second_same 0x0c s t e refl)
    ∙ ap (λ (n : ℕ). cond (not (is_good two.common.size (private_range (first_of t) (second_of t)) && true)) (Some fault.Range) (cond (nat_lt most_output (n + second_of t)) (Some fault.OutLimit) None)) outputs
refusals gate.PrivGet two s t e outputs = refl
refusals gate.PrivPut two s t e outputs =
    ap (λ (n : ℕ). cond (nat_lt most_output (n + 8)) (Some fault.OutLimit) None) outputs
refusals gate.PubAlloc two s t e outputs = refl
refusals gate.PrivAlloc two s t e outputs = refl
refusals gate.PubFree two s t e outputs = refl
refusals gate.PrivFree two s t e outputs = refl
refusals gate.Release two s t e outputs =
    both_ap (λ a b. refusal two.common.size gate.Release (args a b (third_of s) (fourth_of s)) (my_world two) (my_releasers two)) (first_same 0x00 s t e refl) (second_same 0x00 s t e refl)
    ∙ both_ap (λ c d. refusal two.common.size gate.Release (args (first_of t) (second_of t) c d) (my_world two) (my_releasers two)) (third_same 0x00 s t e refl) (fourth_same 0x00 s t e refl)

-- a tape after a release has bytes
chosen_bytes : (test : Bool) (x y : TapeState) → AreBytes x.left.bytes → AreBytes y.left.bytes → AreBytes (cond test x y).left.bytes
chosen_bytes true x y a b = a
chosen_bytes false x y a b = b

advanced_bytes : (count : ℕ) (tapes : ℕ → TapeState) (d class : ℕ) → ((class : ℕ) → AreBytes (tapes class).left.bytes) →
    AreBytes (with_class d (advanced count (tapes d)) tapes class).left.bytes
unfolding advanced
advanced_bytes count tapes d class are =
    chosen_bytes (class == d) (advanced count (tapes d)) (tapes class) (drop_bytes count (tapes d).left.bytes (are d)) (are class)

module _ (code : LabelledCode) (facts : Facts code) (size : ℕ) where
  -- ---- the work of each gate, with equal public arguments

  module _ (next : ℕ) (two : Two) (s t : Registers) where
    -- both go on behind the word, with other parts
    on_behind : (g : Gate) → Entered code size g next two s t → (n m : ℕ) → (result_bit g ≡ 0 → n ≡ m) → (later : Two) → TwoAlike code size later →
        GatesAlike code size (returns code (returned n next s) later.common later.mine) (returns code (returned m next t) later.common later.yours)
    on_behind g e n m same later known =
        both_return (returned n next s) (returned m next t) later refl
        (at_item (landed_behind_word code facts _ _ (Ret (result_bit g)) e.place (return_label (result_bit g)) (return_at code facts e.place (result_bit g) e.stands) refl
        e.here (back (result_bit g) (entry_label (bits_of g)) s t n m (bit_small g) same e.equal next))) known

    abbrev Works : Gate → Arguments → Arguments → Type 0
    Works g a b = GatesAlike code size
        (after_work (work g a (read_from (my_memory code.bytes two) (reads g a)) (my_world two) (my_releasers two)) next (writes g a) s (my_memory code.bytes two))
        (after_work (work g b (read_from (your_memory code.bytes two) (reads g b)) (your_world two) (your_releasers two)) next (writes g b) t (your_memory code.bytes two))

    -- PubIn
    reads_public : Entered code size gate.PubIn next two s t → (a b c d x y : ℕ) → Works gate.PubIn (args a b c d) (args a b x y)
    unfolding work
    reads_public e a b c d x y =
        let v : Visible = two.common.visible in
        let count : ℕ = copied b v in
        let bytes : List ℕ = items_at v.public_input v.public_position count in
        on_behind gate.PubIn e count count (λ h. refl)
        (record two { common = record two.common { public = spliced two.common.public a bytes; visible = record v { public_position = v.public_position + count } } })
        (record {
          size_is = e.known.size_is;
          cores = e.known.cores;
          public = spliced_are two.common.public bytes a e.known.public (items_at-bytes count v.public_input v.public_position e.known.input);
          prefix_is = e.known.prefix_is;
          input = e.known.input;
          tapes = e.known.tapes;
          outputs = e.known.outputs;
        })

    -- PubOut
    writes_public : Entered code size gate.PubOut next two s t → (a b c d x y : ℕ) → Works gate.PubOut (args a b c d) (args a b x y)
    unfolding work
    writes_public e a b c d x y =
        let v : Visible = record two.common.visible { public_output = two.common.visible.public_output ++ items_at two.common.public a b } in
        on_behind gate.PubOut e b b (λ h. refl) (seeing v two) (seen code size two v e.known refl refl)

    -- PrivIn
    reads_private : Entered code size gate.PrivIn next two s t → (a b c d x y : ℕ) → Works gate.PrivIn (args a b c d) (args a b x y)
    unfolding work
    reads_private e a b c d x y =
        let v : Visible = (after_private b (my_world two)).visible in
        let mine' : Apart = record two.mine { segment = spliced two.mine.segment a (next_private b (my_world two)) } in
        let yours' : Apart = record two.yours { segment = spliced two.yours.segment a (next_private b (your_world two)) } in
        on_behind gate.PrivIn e b b (λ h. refl) (apart mine' yours' (seeing v two))
        (set_apart code size (seeing v two) mine' yours' (seen code size two v e.known refl refl) e.known.cores e.known.outputs)

    -- PrivOut
    writes_private : Entered code size gate.PrivOut next two s t → (a b c d x y : ℕ) → Works gate.PrivOut (args a b c d) (args a b x y)
    unfolding work
    writes_private e a b c d x y =
        let xs : List ℕ = items_at two.mine.segment a b in
        let ys : List ℕ = items_at two.yours.segment a b in
        let mine' : Apart = record two.mine { output = two.mine.output ++ xs } in
        let yours' : Apart = record two.yours { output = two.yours.output ++ ys } in
        on_behind gate.PrivOut e b b (λ h. refl) (apart mine' yours' two)
        (set_apart code size two mine' yours' e.known e.known.cores
        (longer two.mine.output two.yours.output xs ys e.known.outputs (length-items_at two.mine.segment a b ∙ sym (length-items_at two.yours.segment a b))))

    -- PrivGet
    gets_private : Entered code size gate.PrivGet next two s t → (a b : Arguments) → Works gate.PrivGet a b
    unfolding work
    gets_private e a b =
        let v : Visible = (after_private 8 (my_world two)).visible in
        on_behind gate.PrivGet e (little_endian (next_private 8 (my_world two))) (little_endian (next_private 8 (your_world two)))
        (λ h. absurd (one_is_none 1 refl h)) (seeing v two) (seen code size two v e.known refl refl)

    -- PrivPut
    puts_private : Entered code size gate.PrivPut next two s t → (a b : Arguments) → Works gate.PrivPut a b
    unfolding work
    puts_private e a b =
        let xs : List ℕ = word_bytes 8 a.first in
        let ys : List ℕ = word_bytes 8 b.first in
        let mine' : Apart = record two.mine { output = two.mine.output ++ xs } in
        let yours' : Apart = record two.yours { output = two.yours.output ++ ys } in
        on_behind gate.PrivPut e 0 0 (λ h. refl) (apart mine' yours' two)
        (set_apart code size two mine' yours' e.known e.known.cores (longer two.mine.output two.yours.output xs ys e.known.outputs refl))

    -- PubAlloc, PrivAlloc, PubFree and PrivFree
    takes_public : Entered code size gate.PubAlloc next two s t → (n b c d x y z : ℕ) → Works gate.PubAlloc (args n b c d) (args n x y z)
    unfolding work
    takes_public e n b c d x y z =
        let v : Visible = record two.common.visible { public_heap = after_take two.common.visible.public_heap n } in
        let at : ℕ = unwrap_or (taken_at two.common.visible.public_heap n) 0 in
        on_behind gate.PubAlloc e at at (λ h. refl) (seeing v two) (seen code size two v e.known refl refl)

    takes_private : Entered code size gate.PrivAlloc next two s t → (n b c d x y z : ℕ) → Works gate.PrivAlloc (args n b c d) (args n x y z)
    unfolding work
    takes_private e n b c d x y z =
        let v : Visible = record two.common.visible { private_heap = after_take two.common.visible.private_heap n } in
        let at : ℕ = unwrap_or (taken_at two.common.visible.private_heap n) 0 in
        on_behind gate.PrivAlloc e at at (λ h. refl) (seeing v two) (seen code size two v e.known refl refl)

    gives_public : Entered code size gate.PubFree next two s t → (at b c d x y z : ℕ) → Works gate.PubFree (args at b c d) (args at x y z)
    unfolding work
    gives_public e at b c d x y z =
        let v : Visible = record two.common.visible { public_heap = after_give two.common.visible.public_heap at } in
        let answer : ℕ = cond (gives two.common.visible.public_heap at) 1 0 in
        on_behind gate.PubFree e answer answer (λ h. refl) (seeing v two) (seen code size two v e.known refl refl)

    gives_private : Entered code size gate.PrivFree next two s t → (at b c d x y z : ℕ) → Works gate.PrivFree (args at b c d) (args at x y z)
    unfolding work
    gives_private e at b c d x y z =
        let v : Visible = record two.common.visible { private_heap = after_give two.common.visible.private_heap at } in
        let answer : ℕ = cond (gives two.common.visible.private_heap at) 1 0 in
        on_behind gate.PrivFree e answer answer (λ h. refl) (seeing v two) (seen code size two v e.known refl refl)

    -- Release
    released : Entered code size gate.Release next two s t → (a b c d : ℕ) (short : Bool) → is_short c (two.common.tapes d).left ≡ short →
        Works gate.Release (args a b c d) (args a b c d)
    unfolding work
    released e a b c d short is =
        let told : List ℕ = take c (two.common.tapes d).left.bytes in
        let later : Two = record {
          common = record two.common {
            public = spliced two.common.public b told;
            visible = record two.common.visible { audit = two.common.visible.audit ++ audit_entry d c told };
            tapes = with_class d (advanced c (two.common.tapes d)) two.common.tapes;
          };
          mine = record two.mine { asked = with_class d (two.mine.asked d ++ items_at two.mine.segment a c) two.mine.asked };
          yours = record two.yours { asked = with_class d (two.yours.asked d ++ items_at two.yours.segment a c) two.yours.asked };
        } in
        let P : Bool → Type 0 = λ x. GatesAlike code size
        (after_work (cond x (ends (runs_out d)) (answers c told (my_world later) (my_releasers later))) next (writes gate.Release (args a b c d)) s (my_memory code.bytes two))
        (after_work (cond x (ends (runs_out d)) (answers c told (your_world later) (your_releasers later))) next (writes gate.Release (args a b c d)) t (your_memory code.bytes two)) in
        subst P (sym is)
        (shorts P short (both_stop (runs_out d))
        (on_behind gate.Release e c c (λ h. refl) later
        (record {
          size_is = e.known.size_is;
          cores = e.known.cores;
          public = spliced_are two.common.public told b e.known.public (take_bytes c (two.common.tapes d).left.bytes (e.known.tapes d));
          prefix_is = e.known.prefix_is;
          input = e.known.input;
          tapes = λ class. advanced_bytes c two.common.tapes d class e.known.tapes;
          outputs = e.known.outputs;
        })))

    -- the gate's work, with the arguments of the two cores
    works : (g : Gate) → Entered code size g next two s t → Works g (arguments_of s) (arguments_of t)
    unfolding work
    works gate.Exit e =
        subst (λ (x : ℕ). Works gate.Exit (arguments_of s) (args x (second_of t) (third_of t) (fourth_of t))) (first_same 0x0e s t e.equal refl)
        (both_stop (exits (cast_signed w32 (first_of s % 2 ^ 32))))
    works gate.CoreEnd e = both_stop ends_core
    works gate.PubIn e =
        along (λ a b. Works gate.PubIn (arguments_of s) (args a b (third_of t) (fourth_of t))) (first_same 0x0c s t e.equal refl) (second_same 0x0c s t e.equal refl)
        (reads_public e (first_of s) (second_of s) (third_of s) (fourth_of s) (third_of t) (fourth_of t))
    works gate.PubOut e =
        along (λ a b. Works gate.PubOut (arguments_of s) (args a b (third_of t) (fourth_of t))) (first_same 0x0c s t e.equal refl) (second_same 0x0c s t e.equal refl)
        (writes_public e (first_of s) (second_of s) (third_of s) (fourth_of s) (third_of t) (fourth_of t))
    works gate.PrivIn e =
        along (λ a b. Works gate.PrivIn (arguments_of s) (args a b (third_of t) (fourth_of t))) (first_same 0x0c s t e.equal refl) (second_same 0x0c s t e.equal refl)
        (reads_private e (first_of s) (second_of s) (third_of s) (fourth_of s) (third_of t) (fourth_of t))
    works gate.PrivOut e =
        along (λ a b. Works gate.PrivOut (arguments_of s) (args a b (third_of t) (fourth_of t))) (first_same 0x0c s t e.equal refl) (second_same 0x0c s t e.equal refl)
        (writes_private e (first_of s) (second_of s) (third_of s) (fourth_of s) (third_of t) (fourth_of t))
    works gate.PrivGet e = gets_private e (arguments_of s) (arguments_of t)
    works gate.PrivPut e = puts_private e (arguments_of s) (arguments_of t)
    works gate.PubAlloc e =
        subst (λ (x : ℕ). Works gate.PubAlloc (arguments_of s) (args x (second_of t) (third_of t) (fourth_of t))) (first_same 0x0e s t e.equal refl)
        (takes_public e (first_of s) (second_of s) (third_of s) (fourth_of s) (second_of t) (third_of t) (fourth_of t))
    works gate.PrivAlloc e =
        subst (λ (x : ℕ). Works gate.PrivAlloc (arguments_of s) (args x (second_of t) (third_of t) (fourth_of t))) (first_same 0x0e s t e.equal refl)
        (takes_private e (first_of s) (second_of s) (third_of s) (fourth_of s) (second_of t) (third_of t) (fourth_of t))
    works gate.PubFree e =
        subst (λ (x : ℕ). Works gate.PubFree (arguments_of s) (args x (second_of t) (third_of t) (fourth_of t))) (first_same 0x0e s t e.equal refl)
        (gives_public e (first_of s) (second_of s) (third_of s) (fourth_of s) (second_of t) (third_of t) (fourth_of t))
    works gate.PrivFree e =
        subst (λ (x : ℕ). Works gate.PrivFree (arguments_of s) (args x (second_of t) (third_of t) (fourth_of t))) (first_same 0x0e s t e.equal refl)
        (gives_private e (first_of s) (second_of s) (third_of s) (fourth_of s) (second_of t) (third_of t) (fourth_of t))
    works gate.Release e =
        along (λ a b. Works gate.Release (arguments_of s) (args a b (third_of t) (fourth_of t))) (first_same 0x00 s t e.equal refl) (second_same 0x00 s t e.equal refl)
        (along (λ c d. Works gate.Release (arguments_of s) (args (first_of s) (second_of s) c d)) (third_same 0x00 s t e.equal refl) (fourth_same 0x00 s t e.equal refl)
        (released e (first_of s) (second_of s) (third_of s) (fourth_of s) (is_short (third_of s) (two.common.tapes (fourth_of s)).left) refl))

    -- ---- the gate step

    after_refusals : (g : Gate) → Entered code size g next two s t → (o : Option FaultKind) →
        GatesAlike code size (in_mine code two (unless_refused o g next s)) (in_yours code two (unless_refused o g next t))
    after_refusals g e (Some kind) = both_refuse kind
    after_refusals g e None = works g e

  not_found : (test : Bool) (x y : GateEffect) → (test ≡ true → GatesAlike code size x y) → (kind : FaultKind) →
      GatesAlike code size (cond test x (faults kind)) (cond test y (faults kind))
  not_found true x y both kind = both refl
  not_found false x y both kind = both_refuse kind

  -- the word that was found stands in the code
  word_found : (at : ℕ) (word : List ℕ) (m : Memory) → stands_in_code m word at ≡ true →
      (place : ℕ) × (at ≡ code_base + place) × (take 8 (drop place m.code) ≡ word)
  unfolding stands_in_code
  word_found at word m e =
      let outer = and_parts (nat_le code_base at && nat_le (at + 8) (code_base + length m.code)) (bytes_eq (take 8 (drop (at - code_base) m.code)) word) e in
      let low : code_base ≤ at = leb-true code_base at (and_parts (nat_le code_base at) (nat_le (at + 8) (code_base + length m.code)) outer.0).0 in
      (at - code_base, omega arith, same_bytes_are _ word outer.1)

  module _ (g : Gate) (two : Two) (s t : Registers) (equal : Equal (entry_label (bits_of g)) s t) (known : TwoAlike code size two) where
    waited : (at : ℕ) → GatesAlike code size (in_mine code two (from_waiting at g s)) (in_yours code two (from_waiting at g t))
    unfolding stands_in_code
    waited at =
        not_found (stands_in_code (my_memory code.bytes two) (return_word (result_bit g) two.common.visible.prefix) at) _ _
        (λ found.
        let w = word_found at (return_word (result_bit g) two.common.visible.prefix) (my_memory code.bytes two) found in
        let e : Entered code size g (at + 8) two s t = record {
          place = w.0;
          here = ap (λ (x : ℕ). x + 8) w.1;
          stands = w.2 ∙ ap (λ (p : List ℕ). return_word (result_bit g) p) known.prefix_is;
          equal = equal;
          known = known;
        } in
        let mine : Option FaultKind = refusal two.common.size g (arguments_of s) (my_world two) (my_releasers two) in
        let P : Option FaultKind → Type 0 = λ o. GatesAlike code size
        (in_mine code two (unless_refused mine g (at + 8) s))
        (in_yours code two (unless_refused o g (at + 8) t)) in
        subst P (refusals g two s t equal known.outputs)
        (after_refusals (at + 8) two s t g e mine)) fault.GateReturn

    -- THE LAW OF A GATE STEP
    pub gates_step : GatesAlike code size (in_mine code two (gate_step g s)) (in_yours code two (gate_step g t))
    unfolding gate_step
    gates_step =
        let P : ℕ → Type 0 = λ top. GatesAlike code size
        (in_mine code two (gate_step g s))
        (cond (is_mapped two.common.size (top % 2 ^ 32) 4)
        (in_yours code two (from_waiting (little_endian (take 4 (drop (top % 2 ^ 32) two.common.public))) g t)) (faults fault.Memory)) in
        subst P equal.stack
        (not_found (is_mapped two.common.size (rsp_of s % 2 ^ 32) 4) _ _
        (λ mapped. waited (little_endian (take 4 (drop (rsp_of s % 2 ^ 32) two.common.public)))) fault.Memory)
