use Rattle.std.proofs.Common.{◌≡◌, ℕ, ◌≤◌, ◌<◌, ◌⊎◌, arith, ap, ◌∙◌, sym, refl, None, Some, subst, List, [], ◌∷◌, ◌++◌, ◌+◌, take, drop, get_or, length}
use Rattle.std.specs.Prelude.{unwrap_or}
use Rattle.cv_word.specs.Heap.{Heap, Span, end_of, hole_for, with_block, block_size, hole_between, replaced_at}
use Rattle.std.proofs.lemmas.Option.{none-some}
use Rattle.two_heaps.specs.Kept.{IsSmallHeap, IsFirstFit}
use Rattle.two_heaps.proofs.Steps.{takes, Takes, same_heap, refused_where_none, none_where_refused}
use Rattle.two_heaps.proofs.Laws.{taken_answer, taken_refusal, after_answer, after_refusal}
use Rattle.two_heaps.proofs.heap.Heap.take.Goals as goal
use Rattle.two_heaps.proofs.heap.Heap.take.Goals.{After-index-hole, After-hole}

-- ---- no hole answers

pub returns-in_default-clause-answer : goal.returns-in_default-clause-answer
returns-in_default-clause-answer c =
    let none : hole_for c.args.self.now c.args.n ≡ None = c.in_default.ensures in
    sym (ap (λ o. unwrap_or o 0) (taken_refusal c.args.self.now c.args.n none))

pub returns-in_default-clause-refused : goal.returns-in_default-clause-refused
returns-in_default-clause-refused c =
    let none : hole_for c.args.self.now c.args.n ≡ None = c.in_default.ensures in
    (λ e. refused_where_none c.args.self.now c.args.n none, λ e. refl)

pub returns-in_default-clause-after : goal.returns-in_default-clause-after
returns-in_default-clause-after c =
    let none : hole_for c.args.self.now c.args.n ≡ None = c.in_default.ensures in
    sym (after_refusal c.args.self.now c.args.n none)

-- ---- the hole that answers

abbrev heap : After-index-hole → Heap
heap c = record { holes = c.self.inside.holes.items; blocks = c.self.inside.blocks.items }

facts : (c : After-index-hole) → Takes (heap c) c.args.n c.in-Some.place c.in-Some.size c.index-hole.result.now
facts c =
    let P : Heap → Type 0 = λ h. IsFirstFit h c.args.n c.in-Some.place c.in-Some.size in
    takes (heap c) c.args.n c.in-Some.place c.in-Some.size c.index-hole.result.now c.self.invariant.0 (subst P (sym c.self.view_is) c.in-Some.ensures) c.index-hole.ensures

begins : (c : After-hole) → c.hole.inside.at ≡ c.index-hole.result.now.at
begins c = ap (λ span. span.at) c.hole.view_is

pub cut-requires-clause-holds : goal.cut-requires-clause-holds
cut-requires-clause-holds c = (facts (goal.at.cut-requires-clause-holds c).After-index-hole).holds

pub cut-requires-clause-small : goal.cut-requires-clause-small
cut-requires-clause-small c = (facts (goal.at.cut-requires-clause-small c).After-index-hole).small

pub place_block-requires-clause-rises : goal.place_block-requires-clause-rises
place_block-requires-clause-rises c = (facts (goal.at.place_block-requires-clause-rises c).After-index-hole).rises

pub place_block-requires-clause-avoids : goal.place_block-requires-clause-avoids
place_block-requires-clause-avoids c =
    let P : ℕ → Type 0 = λ m. (k : ℕ) (d : Span) → k < length c.self.inside.blocks.items → (end_of (get_or c.self.inside.blocks.items k d) ≤ m) ⊎ (end_of (record { at = m; len = c.in-Some.size }) ≤ (get_or c.self.inside.blocks.items k d).at) in
    subst P (sym (begins c)) (facts (goal.at.place_block-requires-clause-avoids c).After-index-hole).avoids

pub place_block-requires-clause-some : goal.place_block-requires-clause-some
place_block-requires-clause-some c = (facts (goal.at.place_block-requires-clause-some c).After-index-hole).some

pub place_block-requires-clause-room : goal.place_block-requires-clause-room
place_block-requires-clause-room c =
    let few = (facts (goal.at.place_block-requires-clause-room c).After-index-hole).few in
    let room = c.self.invariant.1.blocks in
    omega (arith, c.self.inside.blocks.ok.0)

-- ---- afterwards

made : (c : After-index-hole) (holes blocks : List Span) (at : ℕ) → at ≡ c.index-hole.result.now.at →
    holes ≡ take c.in-Some.place (heap c).holes ++ (hole_between (c.index-hole.result.now.at + c.in-Some.size) (end_of c.index-hole.result.now) ++ drop (c.in-Some.place + 1) (heap c).holes) →
    blocks ≡ replaced_at at (record { at = at; len = c.in-Some.size } ∷ []) (heap c).blocks →
    ◌≡◌ {A = Heap} (record { holes = holes; blocks = blocks }) (with_block (heap c) (block_size c.args.n) c.index-hole.result.now)
made c holes blocks at e cut placed =
    let t = facts c in
    same_heap holes blocks _ _ (cut ∙ t.holes) (placed ∙ ap (λ m. replaced_at m (record { at = m; len = c.in-Some.size } ∷ []) (heap c).blocks) e ∙ t.blocks)

-- the request's hole, in the heap as it was passed
answer : (c : After-index-hole) → hole_for c.args.self.now c.args.n ≡ Some c.index-hole.result.now
answer c = let P : Heap → Type 0 = λ h. hole_for h c.args.n ≡ Some c.index-hole.result.now in subst P c.self.view_is (facts c).answers

pub invariant_of-self : goal.invariant_of-self
invariant_of-self c =
    let d = (goal.at.invariant_of-self c).After-index-hole in
    let same = made d c.cut.new.holes.items c.place_block.new.blocks.items c.hole.inside.at (ap (λ span. span.at) c.hole.view_is) c.cut.ensures.items c.place_block.ensures.items in
    let room = c.self.invariant.1 in
    let holes = room.holes in
    let blocks = room.blocks in (
      subst IsSmallHeap (sym same) (facts d).after,
      record { holes = omega (arith, c.cut.ensures.capacity); blocks = omega (arith, c.place_block.ensures.capacity) },
    )

pub returns-clause-answer : goal.returns-clause-answer
returns-clause-answer c =
    let d = (goal.at.returns-clause-answer c).After-index-hole in
    ap (λ span. span.at) c.hole.view_is ∙ sym (ap (λ o. unwrap_or o 0) (taken_answer c.args.self.now c.args.n c.index-hole.result.now (answer d)))

pub returns-clause-refused : goal.returns-clause-refused
returns-clause-refused c =
    let d = (goal.at.returns-clause-refused c).After-index-hole in
    let low = (facts d).low in
    let at = ap (λ span. span.at) c.hole.view_is in
    (λ e. absurd (omega arith), λ e. absurd (none-some c.index-hole.result.now (sym (none_where_refused c.args.self.now c.args.n e) ∙ answer d)))

pub returns-clause-kept : goal.returns-clause-kept
returns-clause-kept c =
    let low = (facts (goal.at.returns-clause-kept c).After-index-hole).low in
    let at = ap (λ span. span.at) c.hole.view_is in
    λ e. absurd (omega arith)

pub returns-clause-after : goal.returns-clause-after
returns-clause-after c =
    let d = (goal.at.returns-clause-after c).After-index-hole in
    let same = made d c.cut.new.holes.items c.place_block.new.blocks.items c.hole.inside.at (ap (λ span. span.at) c.hole.view_is) c.cut.ensures.items c.place_block.ensures.items in
    same ∙ ap (λ h. with_block h (block_size c.args.n) c.index-hole.result.now) c.self.view_is
    ∙ sym (after_answer c.args.self.now c.args.n c.index-hole.result.now (answer d))
