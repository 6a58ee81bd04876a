use Rattle.std.proofs.Common.{arith, refl, sym, ◌∙◌, subst, ◌≡◌, ℕ, List, ◌+◌, ◌-◌, ◌++◌, ◌<◌, length, get_or, vec_capacity}
use Rattle.std.proofs.lemmas.Option.{slice_get-get_or}
use Rattle.code_sweep.specs.declared.item.Item.TheVariants.{Call}
use Rattle.code_sweep.specs.declared.item.Placed.{Placed}
use Rattle.taint_flow.specs.Bits.{label_of}
use Rattle.taint_flow.specs.Label.{Label, IsAtMost}
use Rattle.taint_flow.specs.Worklist.{IsSound, state_of, state_over, waiting, all_private, work_left}
use Rattle.taint_flow.proofs.Names.{word_within}
use Rattle.taint_flow.proofs.Sound.{behind_inside, whole_popped, first_taken_off, none_waits, sound_within, sound_told, sound_after, work_after}
use Rattle.taint_flow.proofs.flow.take_turns.Goals as goal

abbrev nothing : Placed
nothing = record { at = 0; len = 0; item = Call 0 }

pub join-requires-clause-inside : goal.join-requires-clause-inside
join-requires-clause-inside g c = λ j e.
    let inside : j < length c.args.items.now =
    behind_inside c.args.items.now c.loop-i.i (get_or c.args.items.now c.loop-i.i nothing)
    (slice_get-get_or c.args.items.now c.loop-i.i nothing c.loop-i-test.true) c.requires.next j (sym c.behind_word.ensures ∙ e) in
    let len = c.loop-i.invariant.sound.whole.labels in
    omega arith

pub join-requires-clause-names : goal.join-requires-clause-names
join-requires-clause-names g c =
    subst (λ (l : Label). IsAtMost l all_private) (sym c.word_label.ensures) (word_within (get_or c.args.items.now c.loop-i.i nothing).item)

pub hand_on-requires-clause-whole : goal.hand_on-requires-clause-whole
hand_on-requires-clause-whole g c =
    let n = length c.args.items.now in
    let below = waiting c.loop-i.i (n - c.loop-i.i) in
    let rest = waiting (c.loop-i.i + 1) (n - (c.loop-i.i + 1)) in (
      rest,
      whole_popped n (state_over below c.join.new.w) c.loop-i.i (rest ++ c.join.new.w.stack.items) (vec_capacity c.join.new.w.stack)
          ((c.join.ensures.rises below).whole n c.loop-i.invariant.sound.whole)
          (first_taken_off n c.loop-i.i c.join.new.w.stack.items c.loop-i-test.true) refl,
    )

pub hand_on-requires-clause-names : goal.hand_on-requires-clause-names
hand_on-requires-clause-names g c =
    let items = c.args.items.now in
    let i = c.loop-i.i in
    let p = get_or items i nothing in
    let below = waiting i (length items - i) in
    sound_within items (i + 1) (state_over below c.join.new.w) i
    (sound_told items i p c.behind_word.result (label_of c.word_label.result.bits) (state_over below c.loop-i.w) (state_over below c.join.new.w)
    c.behind_word.ensures c.word_label.ensures (slice_get-get_or items i nothing c.loop-i-test.true)
    (c.join.ensures.rises below) c.join.ensures.takes c.join.ensures.stays c.loop-i.invariant.sound)

pub loop-i-preserved : goal.loop-i-preserved
loop-i-preserved g c =
    let items = c.args.items.now in
    let n = length items in
    let i = c.loop-i.i in
    let p = get_or items i nothing in
    let here = slice_get-get_or items i nothing c.loop-i-test.true in
    let below = waiting i (n - i) in
    let rest = waiting (i + 1) (n - (i + 1)) in
    let s = state_over below c.loop-i.w in
    let m = state_over below c.join.new.w in
    let t = state_over rest c.hand_on.new.w in
    let rises = c.join.ensures.rises below in
    let sound = sound_told items i p c.behind_word.result (label_of c.word_label.result.bits) s m c.behind_word.ensures c.word_label.ensures here
    rises c.join.ensures.takes c.join.ensures.stays c.loop-i.invariant.sound in
    let taken = first_taken_off n i c.join.new.w.stack.items c.loop-i-test.true in
    let room = vec_capacity c.join.new.w.stack in
    let fall : work_left t < work_left m = work_after m t i (rest ++ c.join.new.w.stack.items) room taken (c.hand_on.ensures.rises rest) in
    record {
      sound = sound_after items (i + 1) m t i (rest ++ c.join.new.w.stack.items) room sound taken refl (c.hand_on.ensures.rises rest) c.hand_on.ensures.handed c.hand_on.ensures.least;
      bound = omega (arith, fall, rises.work, c.hand_on.ensures.step, c.loop-i.invariant.bound);
    }

pub returns-clause-sound : goal.returns-clause-sound
returns-clause-sound g c =
    let n = length c.args.items.now in
    let all = c.loop-i-test.false in
    let end = c.loop-i.auto.i-end in
    let none = none_waits n c.loop-i.i all in
    let last : c.loop-i.i ≡ n = omega (arith, all, end) in
    subst (λ (count : ℕ). IsSound c.args.items.now count (state_of c.loop-i.w)) last
    (subst (λ (below : List ℕ). IsSound c.args.items.now c.loop-i.i (state_over below c.loop-i.w)) none c.loop-i.invariant.sound)
