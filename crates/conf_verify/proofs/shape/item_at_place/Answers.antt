use Rattle.taint_flow.specs.Places.{number_at}
use Rattle.conf_verify.proofs.Shapes.{no_number, found_item, only_item, past_item}
use Rattle.conf_verify.proofs.shape.item_at_place.Goals as goal

pub returns-in_default-clause-only : goal.returns-in_default-clause-only
returns-in_default-clause-only c = λ j q stands here. absurd (no_number c.args.items.now (number_at c.args.numbers.now) c.args.place c.requires c.in_default.ensures j q stands here)

pub returns-then-j-items-clause-only : goal.returns-then-j-items-clause-only
returns-then-j-items-clause-only c = λ j q stands here. absurd (past_item c.args.items.now (number_at c.args.numbers.now) c.args.place c.in-Some.j c.requires c.in-Some.ensures c.if-j-items.true)

pub returns-clause-found : goal.returns-clause-found
returns-clause-found c = found_item c.args.items.now (number_at c.args.numbers.now) c.args.place c.in-Some.j _ c.requires c.in-Some.ensures

pub returns-clause-only : goal.returns-clause-only
returns-clause-only c = only_item c.args.items.now (number_at c.args.numbers.now) c.args.place c.in-Some.j _ c.requires c.in-Some.ensures
