use Rattle.std.proofs.Common.{arith, ap}
use Rattle.two_heaps.proofs.Places.{cut_items}
use Rattle.two_heaps.proofs.spans.cut.Goals as goal

pub returns-else-size-hole-clause-items : goal.returns-else-size-hole-clause-items
returns-else-size-hole-clause-items c =
    let at = ap (λ span. span.at) c.hole.view_is in
    let len = ap (λ span. span.len) c.hole.view_is in
    cut_items c.args.holes.now.items c.args.place c.args.hole c.args.size c.hole.inside.at c.hole.inside.len c.requires.stands.within (omega (arith, c.requires.holds)) at len
