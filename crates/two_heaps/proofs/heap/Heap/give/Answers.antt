use Rattle.std.proofs.Common.{◌≡◌, ℕ, ◌<◌, inl, inr, arith, ap, ◌∙◌, sym, None, Some, subst, List, length}
use Rattle.std.proofs.lemmas.List.{get_or_default}
use Rattle.cv_word.specs.Heap.{Heap, Span, starting_below, block_at, without_block, merged}
use Rattle.two_heaps.specs.Kept.{Rises, IsSmallHeap}
use Rattle.two_heaps.proofs.Ordered.{rises_lower, below_length}
use Rattle.two_heaps.proofs.Tilings.{blocks_rise}
use Rattle.two_heaps.proofs.Steps.{Gives, gives_block, gives_is, no_block_read, same_heap}
use Rattle.two_heaps.proofs.Laws.{after_gift, after_no_gift}
use Rattle.two_heaps.proofs.heap.Heap.give.Goals as goal
use Rattle.two_heaps.proofs.heap.Heap.give.Goals.{After-remove-block, then-place-len-via-then-place-len, then-place-len-via-else-place-len+then-index-at}

pub place_of-place-requires : goal.place_of-place-requires
place_of-place-requires c =
    let is = c.self.invariant.0 in
    subst (Rises 0 0) (sym c.deref.ensures.value)
    (rises_lower 0 0 is.start c.self.inside.blocks.items (omega arith) (blocks_rise is.start is.to c.self.inside.holes.items c.self.inside.blocks.items is.is_heap.tiles))

-- the place is in the list or at its end
bounded : (i n m at : ℕ) (spans : List Span) → i ≡ length (starting_below at spans) → n ≡ m → m ≡ length spans → (i ≡ n → ⊥) → i < m
bounded i n m at spans count e g ne = let h = below_length at spans in omega arith

pub index-requires : goal.index-requires
index-requires c =
    bounded c.place_of-place.result c.len.result _ c.args.at c.self.inside.blocks.items (c.place_of-place.ensures ∙ ap (λ l. length (starting_below c.args.at l)) c.deref.ensures.value)
    c.len.ensures c.self.inside.blocks.ok.0 c.if-place-len.false

pub remove-block-requires : goal.remove-block-requires
remove-block-requires c =
    bounded c.place_of-place.result c.len.result _ c.args.at c.self.inside.blocks.items (c.place_of-place.ensures ∙ ap (λ l. length (starting_below c.args.at l)) c.deref.ensures.value)
    c.len.ensures c.self.inside.blocks.ok.0 c.if-place-len.false

-- ---- no block begins there

pub returns-then-place-len-clause-answer : goal.returns-then-place-len-clause-answer
returns-then-place-len-clause-answer c =
    let P : Heap → Type 0 = λ h. block_at h c.args.at ≡ None in
    let none = subst P c.self.view_is
    (no_block_read (record { holes = c.self.inside.holes.items; blocks = c.self.inside.blocks.items }) c.args.at c.place_of-place.result c.len.result c.self.invariant.0
    (c.place_of-place.ensures ∙ ap (λ l. length (starting_below c.args.at l)) c.deref.ensures.value) (c.len.ensures ∙ c.self.inside.blocks.ok.0)
    (elim c.then-place-len.branch [
      | then-place-len-via-then-place-len w ↦ inl w.if-place-len.true
      | then-place-len-via-else-place-len+then-index-at w ↦
          inr (w.index.result.now, w.index.ensures, λ same. w.if-index-at.true (ap (λ span. span.at) w.behind-self.view_is ∙ same))
    ])) in
    sym (gives_is c.args.self.now c.args.at None none)

pub returns-then-place-len-clause-after : goal.returns-then-place-len-clause-after
returns-then-place-len-clause-after c =
    let P : Heap → Type 0 = λ h. block_at h c.args.at ≡ None in
    let none = subst P c.self.view_is
    (no_block_read (record { holes = c.self.inside.holes.items; blocks = c.self.inside.blocks.items }) c.args.at c.place_of-place.result c.len.result c.self.invariant.0
    (c.place_of-place.ensures ∙ ap (λ l. length (starting_below c.args.at l)) c.deref.ensures.value) (c.len.ensures ∙ c.self.inside.blocks.ok.0)
    (elim c.then-place-len.branch [
      | then-place-len-via-then-place-len w ↦ inl w.if-place-len.true
      | then-place-len-via-else-place-len+then-index-at w ↦
          inr (w.index.result.now, w.index.ensures, λ same. w.if-index-at.true (ap (λ span. span.at) w.behind-self.view_is ∙ same))
    ])) in
    sym (after_no_gift c.args.self.now c.args.at none)

-- ---- a block begins there

abbrev heap : After-remove-block → Heap
heap c = record { holes = c.self.inside.holes.items; blocks = c.self.inside.blocks.items }

facts : (c : After-remove-block) → Gives (heap c) c.args.at c.place_of-place.result c.remove-block.result
facts c =
    let count = c.place_of-place.ensures ∙ ap (λ l. length (starting_below c.args.at l)) c.deref.ensures.value in
    let within = bounded c.place_of-place.result c.len.result _ c.args.at c.self.inside.blocks.items count c.len.ensures c.self.inside.blocks.ok.0 c.if-place-len.false in
    let inside : c.place_of-place.result < length c.self.inside.blocks.items = omega (arith, c.self.inside.blocks.ok.0) in
    let read = c.remove-block.ensures.value in
    let same = c.index.ensures ∙ get_or_default c.self.inside.blocks.items c.place_of-place.result c.index.result.now c.remove-block.result inside ∙ sym read in
    gives_block (heap c) c.args.at c.place_of-place.result c.remove-block.result c.self.invariant.0 count inside read
    (ap (λ span. span.at) (sym same ∙ sym c.behind-self.view_is) ∙ c.if-index-at.false)

pub join-requires-clause-may : goal.join-requires-clause-may
join-requires-clause-may c = (facts (goal.at.join-requires-clause-may c).After-remove-block).may

pub join-requires-clause-room : goal.join-requires-clause-room
join-requires-clause-room c =
    let room = (facts (goal.at.join-requires-clause-room c).After-remove-block).room in
    let holes = c.self.invariant.1.holes in
    omega arith

made : (c : After-remove-block) (holes : List Span) → holes ≡ merged c.remove-block.result c.self.inside.holes.items →
    ◌≡◌ {A = Heap} (record { holes = holes; blocks = c.remove-block.new.self.items }) (without_block (heap c) c.remove-block.result)
made c holes e = same_heap holes c.remove-block.new.self.items _ _ e (c.remove-block.ensures.items ∙ (facts c).blocks)

given : (c : After-remove-block) → block_at c.args.self.now c.args.at ≡ Some c.remove-block.result
given c = let P : Heap → Type 0 = λ h. block_at h c.args.at ≡ Some c.remove-block.result in subst P c.self.view_is (facts c).begins

pub invariant_of-self : goal.invariant_of-self
invariant_of-self c =
    let d = (goal.at.invariant_of-self c).After-remove-block in
    let same = made d c.join.new.holes.items c.join.ensures.items in
    let room = c.self.invariant.1 in
    let holes = room.holes in
    let blocks = room.blocks in (
      subst IsSmallHeap (sym same) (facts d).after,
      record { holes = omega (arith, c.join.ensures.capacity); blocks = omega (arith, c.remove-block.ensures.capacity) },
    )

pub returns-clause-answer : goal.returns-clause-answer
returns-clause-answer c = sym (gives_is c.args.self.now c.args.at (Some c.remove-block.result) (given (goal.at.returns-clause-answer c).After-remove-block))

pub returns-clause-after : goal.returns-clause-after
returns-clause-after c =
    let d = (goal.at.returns-clause-after c).After-remove-block in
    made d c.join.new.holes.items c.join.ensures.items
    ∙ ap (λ h. without_block h c.remove-block.result) c.self.view_is ∙ sym (after_gift c.args.self.now c.args.at c.remove-block.result (given d))
