use Rattle.std.proofs.Common.{◌≡◌, arith, ap, ◌∙◌, sym, None, subst}
use Rattle.std.specs.Prelude.{position}
use Rattle.cv_word.specs.Heap.{Heap, hole_for}
use Rattle.two_heaps.specs.Kept.{IsFirstFit}
use Rattle.two_heaps.proofs.Tilings.{fits}
use Rattle.two_heaps.proofs.Steps.{none_for_zero, none_for_large, none_where_full, none_that_fits, first_fit_is}
use Rattle.two_heaps.proofs.heap.Heap.hole_for.Goals as goal
use Rattle.two_heaps.proofs.heap.Heap.hole_for.Goals.{then-n-eq0-via-then-n-eq0, then-n-eq0-via-else-n-eq0+then-n-gt-LARGEST_REQUEST, then-n-eq0-via-else-n-eq0+else-n-gt-LARGEST_REQUEST+then-len-ge-MOST_BLOCKS}

pub returns-then-n-eq0 : goal.returns-then-n-eq0
returns-then-n-eq0 c =
    let heap : Heap = record { holes = c.self.inside.holes.items; blocks = c.self.inside.blocks.items } in
    let P : Heap → Type 0 = λ h. hole_for h c.args.n ≡ None in
    subst P c.self.view_is
    (elim c.then-n-eq0.branch [
      | then-n-eq0-via-then-n-eq0 w ↦ none_for_zero heap c.args.n w.if-n-eq0.true
      | then-n-eq0-via-else-n-eq0+then-n-gt-LARGEST_REQUEST w ↦ none_for_large heap c.args.n c.self.invariant.0 w.if-n-gt-LARGEST_REQUEST.true
      | then-n-eq0-via-else-n-eq0+else-n-gt-LARGEST_REQUEST+then-len-ge-MOST_BLOCKS w ↦ none_where_full heap c.args.n (omega (arith, w.len.ensures, c.self.inside.blocks.ok.0, w.if-len-ge-MOST_BLOCKS.true))
    ])

pub returns-in-None : goal.returns-in-None
returns-in-None c =
    let heap : Heap = record { holes = c.self.inside.holes.items; blocks = c.self.inside.blocks.items } in
    let P : Heap → Type 0 = λ h. hole_for h c.args.n ≡ None in
    subst P c.self.view_is
    (none_that_fits heap c.args.n c.rounded_up-size.result c.rounded_up-size.ensures
    (sym (c.in-None.ensures ∙ ap (λ l. position (fits c.rounded_up-size.result) l) c.deref.ensures.value)))

pub returns-in-Some : goal.returns-in-Some
returns-in-Some c =
    let heap : Heap = record { holes = c.self.inside.holes.items; blocks = c.self.inside.blocks.items } in
    let P : Heap → Type 0 = λ h. IsFirstFit h c.args.n c.in-Some.place c.rounded_up-size.result in
    subst P c.self.view_is
    (first_fit_is heap c.args.n c.rounded_up-size.result c.in-Some.place c.if-n-eq0.false (omega (arith, c.len.ensures, c.self.inside.blocks.ok.0, c.if-len-ge-MOST_BLOCKS.false)) c.rounded_up-size.ensures
    (sym (c.in-Some.ensures ∙ ap (λ l. position (fits c.rounded_up-size.result) l) c.deref.ensures.value)))
