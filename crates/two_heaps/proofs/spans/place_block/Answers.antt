use Rattle.std.proofs.Common.{arith, ap, ◌∙◌, length}
use Rattle.std.specs.List.{insert}
use Rattle.cv_word.specs.Heap.{starting_below}
use Rattle.two_heaps.proofs.Places.{place, placed}
use Rattle.two_heaps.proofs.spans.place_block.Goals as goal

pub insert-requires-clause-within : goal.insert-requires-clause-within
insert-requires-clause-within c =
    let is = place 0 0 c.block.inside.at c.args.blocks.now.items c.requires.rises in
    let within = is.within in
    let same = ap (λ l. length (starting_below c.block.inside.at l)) c.deref.ensures.value in
    omega (arith, c.args.blocks.now.ok.0, c.place_of-place.ensures)

pub returns-clause-items : goal.returns-clause-items
returns-clause-items c =
    let count =
    c.place_of-place.ensures ∙ ap (λ l. length (starting_below c.block.inside.at l)) c.deref.ensures.value
    ∙ ap (λ n. length (starting_below n c.args.blocks.now.items)) (ap (λ span. span.at) c.block.view_is) in
    c.insert.ensures.items ∙ ap (λ n. insert c.args.blocks.now.items n c.args.block) count
    ∙ placed c.args.block c.args.blocks.now.items c.requires.rises c.requires.avoids c.requires.some
