use Rattle.std.proofs.Common.{subst, sym}
use Rattle.taint_flow.specs.Places.{NumbersItems, number_at}
use Rattle.taint_flow.proofs.Tables.{numbers_items}
use Rattle.taint_flow.proofs.places.item_numbers.Goals as goal

pub returns : goal.returns
returns c =
    subst (λ items. NumbersItems c.args.listing.now.items.items (number_at items)) (sym c.as_slice-items.ensures.value)
    (numbers_items c.args.listing.now.items.items c.requires.order.rising)
