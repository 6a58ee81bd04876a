use Rattle.std.proofs.Common.{arith, ◌≤◌, length, ap}
use Rattle.taint_flow.proofs.Tables.{count_small}
use Rattle.taint_flow.proofs.flow.label_code.Goals as goal

pub label_items-requires-clause-limit : goal.label_items-requires-clause-limit
label_items-requires-clause-limit g c =
    let few : length c.args.listing.now.items.items ≤ length c.args.listing.now.code.now = count_small _ _ c.requires.order in
    let same = ap length c.as_slice.ensures.value in
    omega (arith, few, same, c.requires.limit)
