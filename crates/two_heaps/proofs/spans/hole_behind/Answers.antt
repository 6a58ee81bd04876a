use Rattle.std.proofs.Common.{ap, ◌∙◌, sym}
use Rattle.two_heaps.proofs.Places.{begins_here, begins_other}
use Rattle.two_heaps.proofs.spans.hole_behind.Goals as goal

pub returns-then-hole-at-clause-last : goal.returns-then-hole-at-clause-last
returns-then-hole-at-clause-last c =
    (begins_here c.args.at c.args.holes.now c.args.place c.index-holes-place.result c.requires.place c.if-place-holes.true c.index-holes-place.is
    (sym (ap (λ span. span.at) c.hole.view_is) ∙ c.if-hole-at.true)).0

pub returns-else-hole-at-clause-last : goal.returns-else-hole-at-clause-last
returns-else-hole-at-clause-last c =
    (begins_other c.args.at c.args.holes.now c.args.place c.index-holes-place.result c.requires.place c.index-holes-place.is
    (λ e. c.if-hole-at.false (ap (λ span. span.at) c.hole.view_is ∙ e))).0

pub returns-else-hole-at-clause-to : goal.returns-else-hole-at-clause-to
returns-else-hole-at-clause-to c =
    (begins_other c.args.at c.args.holes.now c.args.place c.index-holes-place.result c.requires.place c.index-holes-place.is
    (λ e. c.if-hole-at.false (ap (λ span. span.at) c.hole.view_is ∙ e))).1
