use Rattle.std.proofs.Common.{arith, ◌<◌, ◌++◌, ℕ, length, vec_capacity, true, false, refl}
use Rattle.std.proofs.lemmas.List.{length-append}
use Rattle.std.specs.Int.RustNames.{bit_or}
use Rattle.taint_flow.specs.Label.{IsAtMost}
use Rattle.taint_flow.specs.Bits.{label_of, labelling_of}
use Rattle.taint_flow.specs.Worklist.{state_of, state_over, label_at}
use Rattle.taint_flow.proofs.Joins.{rises_queued, rises_pushed, takes_same, takes_joined, stays_joined, with_bits, reads_from, at_itself, queued_read, room_left}
use Rattle.taint_flow.proofs.worklist.raise.Goals as goal

pub returns-then-joined-before-clause-takes : goal.returns-then-joined-before-clause-takes
returns-then-joined-before-clause-takes c =
    at_itself c.args.j (λ (k : ℕ). IsAtMost (label_of c.args.out.bits) (label_at (state_of c.args.w.now) k))
    (takes_same (state_of c.args.w.now) c.args.j c.args.out.bits c.index.result.now c.requires.inside c.index.ensures c.if-joined-before.true)

pub returns-then-index-clause-rises : goal.returns-then-index-clause-rises
returns-then-index-clause-rises c = λ below.
    let inside : c.args.j < length c.args.w.now.queued.items = omega (arith, c.requires.whole.1.queued, c.requires.inside) in
    rises_queued (state_over below c.args.w.now) c.args.j c.index.result.now.bits c.args.out.bits
    (reads_from _ _ _ c.index.result.now c.requires.inside c.requires.whole.1.queued c.index.ensures c.requires.names c.if-joined-before.false)
    (queued_read c.args.w.now.queued.items c.args.j c.index-2.result.now true inside c.index-2.ensures c.if-index.true)

pub returns-then-index-clause-takes : goal.returns-then-index-clause-takes
returns-then-index-clause-takes c =
    at_itself c.args.j
    (λ (k : ℕ). IsAtMost (label_of c.args.out.bits)
    (labelling_of (with_bits c.args.w.now.labels.items c.args.j (bit_or c.index.result.now.bits c.args.out.bits)) k))
    (takes_joined (state_of c.args.w.now) c.args.j c.index.result.now.bits c.args.out.bits c.requires.inside)

pub returns-then-index-clause-stays : goal.returns-then-index-clause-stays
returns-then-index-clause-stays c = λ any small below.
    stays_joined (state_of c.args.w.now) c.args.j c.index.result.now.bits c.args.out.bits
    (reads_from _ _ _ c.index.result.now c.requires.inside c.requires.whole.1.queued c.index.ensures c.requires.names c.if-joined-before.false)
    any (small c.args.j refl) below

pub returns-clause-rises : goal.returns-clause-rises
returns-clause-rises c = λ below.
    let inside : c.args.j < length c.args.w.now.queued.items = omega (arith, c.requires.whole.1.queued, c.requires.inside) in
    rises_pushed (state_over below c.args.w.now) c.args.j c.index.result.now.bits c.args.out.bits _ _
    (reads_from _ _ _ c.index.result.now c.requires.inside c.requires.whole.1.queued c.index.ensures c.requires.names c.if-joined-before.false)
    (queued_read c.args.w.now.queued.items c.args.j c.index-2.result.now false inside c.index-2.ensures c.if-index.false)
    refl refl

pub returns-clause-takes : goal.returns-clause-takes
returns-clause-takes c =
    at_itself c.args.j
    (λ (k : ℕ). IsAtMost (label_of c.args.out.bits)
    (labelling_of (with_bits c.args.w.now.labels.items c.args.j (bit_or c.index.result.now.bits c.args.out.bits)) k))
    (takes_joined (state_of c.args.w.now) c.args.j c.index.result.now.bits c.args.out.bits c.requires.inside)

pub returns-clause-stays : goal.returns-clause-stays
returns-clause-stays c = λ any small below.
    stays_joined (state_of c.args.w.now) c.args.j c.index.result.now.bits c.args.out.bits
    (reads_from _ _ _ c.index.result.now c.requires.inside c.requires.whole.1.queued c.index.ensures c.requires.names c.if-joined-before.false)
    any (small c.args.j refl) below

pub returns-clause-room : goal.returns-clause-room
returns-clause-room c = λ yes.
    let inside : c.args.j < length c.args.w.now.queued.items = omega (arith, c.requires.whole.1.queued, c.requires.inside) in
    let room : length (c.requires.whole.0 ++ c.args.w.now.stack.items) < vec_capacity c.args.w.now.stack =
    room_left (length c.args.w.now.labels.items) (state_over c.requires.whole.0 c.args.w.now) c.args.j c.requires.whole.1 c.requires.inside
    (queued_read c.args.w.now.queued.items c.args.j c.index-2.result.now false inside c.index-2.ensures c.if-index.false) in
    let long = length-append c.requires.whole.0 c.args.w.now.stack.items in
    omega (arith, room, long)
