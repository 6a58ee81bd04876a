use Rattle.std.proofs.Common.{List, ℕ, sym, subst}
use Rattle.taint_flow.specs.Places.{StandInOrder}
use Rattle.taint_flow.proofs.Chain.{order_from_listing}
use Rattle.conf_verify.proofs.verdict.check_code.Goals as goal

pub item_numbers-requires-clause-order : goal.item_numbers-requires-clause-order
item_numbers-requires-clause-order c =
    subst (λ (l : List ℕ). StandInOrder c.in_ok-listing.listing.items.items l) (sym c.in_ok-listing.ensures.code)
    (order_from_listing c.args.parts.now.prefix c.args.parts.now.code.now c.in_ok-listing.listing.items.items c.in_ok-listing.ensures.listing)
