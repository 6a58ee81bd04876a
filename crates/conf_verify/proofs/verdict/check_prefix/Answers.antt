use Rattle.std.proofs.Common.{refl}
use Rattle.conf_verify.specs.Answer.{image_of}
use Rattle.conf_verify.specs.declared.rule.Rule.TheVariants.{V4}
use Rattle.conf_verify.proofs.Steps.{holds_five}
use Rattle.conf_verify.proofs.Ends.{refusal, prefix_at, prefix_none}
use Rattle.conf_verify.proofs.verdict.check_prefix.Goals as goal

pub returns-in-Some-clause-refused : goal.returns-in-Some-clause-refused
returns-in-Some-clause-refused c =
    refusal (image_of c.args.parts.now) c.refused.result V4 _ c.refused.ensures
    (prefix_at (image_of c.args.parts.now) c.args.items.now c.args.items.now c.in_ok-places.places.items c.as_slice.result.now c.in-Some.k c.index.result.now
    refl c.as_slice.ensures.value c.requires.good c.requires.listing c.in_ok-places.ensures c.index.ensures c.in-Some.ensures c.requires.below)

pub returns-clause-holds : goal.returns-clause-holds
returns-clause-holds c =
    holds_five (image_of c.args.parts.now) c.args.items.now c.requires.below
    (prefix_none (image_of c.args.parts.now) c.args.items.now c.args.items.now c.in_ok-places.places.items c.as_slice.result.now
    refl c.as_slice.ensures.value c.requires.good c.in_ok-places.ensures c.in-None.ensures)
