use Rattle.std.proofs.Common.{arith, refl, true, [], ◌+◌, ◌<◌, length, vec_capacity}
use Rattle.taint_flow.specs.Worklist.{state_of, topped, work_left}
use Rattle.taint_flow.proofs.Stacks.{top_taken_off}
use Rattle.taint_flow.proofs.Sound.{top_inside, whole_popped, sound_within, sound_after, work_after}
use Rattle.taint_flow.proofs.flow.follow.Goals as goal

pub loop-i-init : goal.loop-i-init
loop-i-init g c = record {
  sound = c.requires.sound;
  fall = omega arith;
  bound = omega arith;
}

pub index_mut-requires : goal.index_mut-requires
index_mut-requires g c =
    let inside = top_inside (length c.args.items.now) (topped true c.loop-i.at (state_of c.loop-i.w)) c.loop-i.at c.loop-i.w.stack.items
    c.loop-i.invariant.sound.whole (top_taken_off _ _ _ refl) in
    let len = c.loop-i.invariant.sound.whole.queued in
    let ok = c.loop-i.w.queued.ok in
    omega (arith, inside, len, ok)

pub lead_on-requires-clause-whole : goal.lead_on-requires-clause-whole
lead_on-requires-clause-whole g c = (
  [],
  whole_popped (length c.args.items.now) (topped true c.loop-i.at (state_of c.loop-i.w)) c.loop-i.at c.loop-i.w.stack.items
      (vec_capacity c.loop-i.w.stack) c.loop-i.invariant.sound.whole (top_taken_off _ _ _ refl) refl,
)

pub lead_on-requires-clause-inside : goal.lead_on-requires-clause-inside
lead_on-requires-clause-inside g c =
    top_inside (length c.args.items.now) (topped true c.loop-i.at (state_of c.loop-i.w)) c.loop-i.at c.loop-i.w.stack.items
    c.loop-i.invariant.sound.whole (top_taken_off _ _ _ refl)

pub lead_on-requires-clause-names : goal.lead_on-requires-clause-names
lead_on-requires-clause-names g c =
    sound_within c.args.items.now (length c.args.items.now) (topped true c.loop-i.at (state_of c.loop-i.w)) c.loop-i.at c.loop-i.invariant.sound

pub returns-then-not-lead_on-clause-sound : goal.returns-then-not-lead_on-clause-sound
returns-then-not-lead_on-clause-sound g c =
    sound_after c.args.items.now (length c.args.items.now) (topped true c.loop-i.at (state_of c.loop-i.w)) (state_of c.lead_on.new.w) c.loop-i.at
    c.loop-i.w.stack.items (vec_capacity c.loop-i.w.stack) c.loop-i.invariant.sound (top_taken_off _ _ _ refl) refl
    (c.if-not-lead_on.ensures.rises []) c.lead_on.ensures.handed c.lead_on.ensures.least

pub returns-then-not-lead_on-clause-fall : goal.returns-then-not-lead_on-clause-fall
returns-then-not-lead_on-clause-fall g c =
    let fall : work_left (state_of c.lead_on.new.w) < work_left (topped true c.loop-i.at (state_of c.loop-i.w)) =
    work_after (topped true c.loop-i.at (state_of c.loop-i.w)) (state_of c.lead_on.new.w) c.loop-i.at c.loop-i.w.stack.items
    (vec_capacity c.loop-i.w.stack) (top_taken_off _ _ _ refl) (c.if-not-lead_on.ensures.rises []) in
    omega (arith, fall, c.loop-i.invariant.fall)

pub returns-then-not-lead_on-clause-bound : goal.returns-then-not-lead_on-clause-bound
returns-then-not-lead_on-clause-bound g c =
    let fall : work_left (state_of c.lead_on.new.w) < work_left (topped true c.loop-i.at (state_of c.loop-i.w)) =
    work_after (topped true c.loop-i.at (state_of c.loop-i.w)) (state_of c.lead_on.new.w) c.loop-i.at c.loop-i.w.stack.items
    (vec_capacity c.loop-i.w.stack) (top_taken_off _ _ _ refl) (c.if-not-lead_on.ensures.rises []) in
    omega (arith, fall, c.lead_on.ensures.step, c.loop-i.invariant.bound)

pub overflow_add-at : goal.overflow_add-at
overflow_add-at g c =
    let inside = top_inside (length c.args.items.now) (topped true c.loop-i.at (state_of c.loop-i.w)) c.loop-i.at c.loop-i.w.stack.items
    c.loop-i.invariant.sound.whole (top_taken_off _ _ _ refl) in
    omega (arith, inside, c.requires.limit)

pub loop-i-smaller : goal.loop-i-smaller
loop-i-smaller g c =
    work_after (topped true c.loop-i.at (state_of c.loop-i.w)) (topped true (c.loop-i.at + 1) (state_of c.lead_on.new.w)) c.loop-i.at
    c.loop-i.w.stack.items (vec_capacity c.loop-i.w.stack) (top_taken_off _ _ _ refl) (c.if-not-lead_on.ensures.rises [])

pub loop-i-preserved : goal.loop-i-preserved
loop-i-preserved g c =
    let s = topped true c.loop-i.at (state_of c.loop-i.w) in
    let t = topped true (c.loop-i.at + 1) (state_of c.lead_on.new.w) in
    let room = vec_capacity c.loop-i.w.stack in
    let fall : work_left t < work_left s =
    work_after s t c.loop-i.at c.loop-i.w.stack.items room (top_taken_off _ _ _ refl) (c.if-not-lead_on.ensures.rises []) in
    record {
      sound = sound_after c.args.items.now (length c.args.items.now) s t c.loop-i.at c.loop-i.w.stack.items room c.loop-i.invariant.sound
          (top_taken_off _ _ _ refl) refl (c.if-not-lead_on.ensures.rises []) c.lead_on.ensures.handed c.lead_on.ensures.least;
      fall = omega (arith, fall, c.loop-i.invariant.fall);
      bound = omega (arith, fall, c.lead_on.ensures.step, c.loop-i.invariant.bound);
    }
