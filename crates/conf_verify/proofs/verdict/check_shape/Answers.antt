use Rattle.std.proofs.Common.{arith}
use Rattle.conf_verify.specs.Answer.{image_of}
use Rattle.conf_verify.proofs.Ends.{few_items}
use Rattle.taint_flow.proofs.Chain.{eight_from_listing, apart_from_listing}
use Rattle.conf_verify.proofs.verdict.check_shape.Goals as goal

pub first_bad-first-requires-clause-few : goal.first_bad-first-requires-clause-few
first_bad-first-requires-clause-few c = let few = few_items (image_of c.args.parts.now) c.args.items.now c.requires.good c.requires.listing in omega arith

pub first_bad-first-requires-clause-eight : goal.first_bad-first-requires-clause-eight
first_bad-first-requires-clause-eight c =
    eight_from_listing c.args.parts.now.prefix c.args.parts.now.code.now c.args.items.now c.requires.good.prefix_len c.requires.listing

pub first_bad-first-requires-clause-apart : goal.first_bad-first-requires-clause-apart
first_bad-first-requires-clause-apart c = apart_from_listing c.args.parts.now.prefix c.args.parts.now.code.now c.args.items.now c.requires.listing
