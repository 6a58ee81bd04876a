use Rattle.std.proofs.Common.{arith, ap, ◌∙◌, sym, List, ℕ, ◌≤◌, ◌<◌, subst, length, get_or}
use Rattle.cv_word.specs.Heap.{Span, end_of, starting_below}
use Rattle.two_heaps.specs.Kept.{Rises, IsPlace}
use Rattle.two_heaps.proofs.Ordered.{rises_closer}
use Rattle.two_heaps.proofs.Places.{join_place, join_place_behind, join_apart, free_from_low, free_to_high}
use Rattle.two_heaps.proofs.spans.join.Goals as goal

pub place_of-place-requires : goal.place_of-place-requires
place_of-place-requires c = subst (Rises 0 0) (sym c.deref.ensures.value) (rises_closer 1 0 c.args.holes.now.items c.requires.may.rises)

pub hole_before-first-requires-clause-place : goal.hole_before-first-requires-clause-place
hole_before-first-requires-clause-place c =
    let P : List Span → Type 0 = λ l. IsPlace 1 c.block.inside.at l c.place_of-place.result in
    let count = c.place_of-place.ensures ∙ ap (λ l. length (starting_below c.block.inside.at l)) c.deref.ensures.value in
    subst P (sym c.deref-2.ensures.value)
    (join_place c.args.block c.args.holes.now.items c.block.inside.at c.place_of-place.result c.requires.may (ap (λ span. span.at) c.block.view_is) count)

pub hole_before-first-requires-clause-apart : goal.hole_before-first-requires-clause-apart
hole_before-first-requires-clause-apart c =
    let P : List Span → Type 0 = λ l. (k : ℕ) (d : Span) → 0 ≤ k → k < c.place_of-place.result → end_of (get_or l k d) ≤ c.block.inside.at in
    let count = c.place_of-place.ensures ∙ ap (λ l. length (starting_below c.block.inside.at l)) c.deref.ensures.value in
    subst P (sym c.deref-2.ensures.value)
    (join_apart c.args.block c.args.holes.now.items c.block.inside.at c.place_of-place.result c.requires.may (ap (λ span. span.at) c.block.view_is) count)

pub hole_behind-last-requires-clause-place : goal.hole_behind-last-requires-clause-place
hole_behind-last-requires-clause-place c =
    let P : List Span → Type 0 = λ l. IsPlace 1 c.end.result l c.place_of-place.result in
    let count = c.place_of-place.ensures ∙ ap (λ l. length (starting_below c.block.inside.at l)) c.deref.ensures.value in
    subst P (sym c.deref-3.ensures.value)
    (join_place_behind c.args.block c.args.holes.now.items c.block.inside.at c.end.result c.place_of-place.result c.requires.may (ap (λ span. span.at) c.block.view_is) c.end.ensures count)

pub overflow_sub-hole : goal.overflow_sub-hole
overflow_sub-hole c =
    let low = free_from_low c.block.inside.at c.deref-2.result.now in
    let high = free_to_high c.end.result c.deref-3.result.now in
    let at = ap (λ span. span.at) c.block.view_is in
    omega (arith, c.hole_before-first.ensures.from, c.hole_behind-last.ensures.to, c.end.ensures)
