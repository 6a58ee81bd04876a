use Rattle.conf_verify.specs.Answer.{image_of}
use Rattle.taint_flow.specs.Bits.{labelling_of}
use Rattle.taint_flow.proofs.Chain.{eight_from_listing, apart_from_listing}
use Rattle.conf_verify.proofs.Steps.{next_stands}
use Rattle.conf_verify.proofs.Flows.{accepts}
use Rattle.conf_verify.proofs.Ends.{refusal, flow_at, few_items}
use Rattle.std.proofs.Common.{arith}
use Rattle.conf_verify.proofs.verdict.check_flow.Goals as goal

pub least_labels-requires-clause-limit : goal.least_labels-requires-clause-limit
least_labels-requires-clause-limit c =
    let few = few_items (image_of c.args.parts.now) c.args.items.now c.requires.good c.requires.listing in omega (arith, few)

pub least_labels-requires-clause-next : goal.least_labels-requires-clause-next
least_labels-requires-clause-next c = next_stands (image_of c.args.parts.now) c.args.items.now (λ rule place low b. c.requires.shape rule place b)

pub returns-in-Some-clause-refused : goal.returns-in-Some-clause-refused
returns-in-Some-clause-refused c =
    refusal (image_of c.args.parts.now) c.refused.result c.in-Some.rule _ c.refused.ensures
    (flow_at (image_of c.args.parts.now) c.args.items.now c.in_ok-labels.labels c.in-Some.i _ c.in-Some.rule
    c.requires.listing c.in_ok-labels.ensures.meets c.in_ok-labels.ensures.least c.requires.shape c.in-Some.ensures)

pub returns-clause-holds : goal.returns-clause-holds
returns-clause-holds c =
    accepts (image_of c.args.parts.now) c.args.items.now (labelling_of c.in_ok-labels.labels) c.requires.listing c.in_ok-labels.ensures.meets c.requires.shape
    c.in-None.ensures

pub bad_label-requires-clause-eight : goal.bad_label-requires-clause-eight
bad_label-requires-clause-eight c =
    eight_from_listing c.args.parts.now.prefix c.args.parts.now.code.now c.args.items.now c.requires.good.prefix_len c.requires.listing

pub bad_label-requires-clause-apart : goal.bad_label-requires-clause-apart
bad_label-requires-clause-apart c = apart_from_listing c.args.parts.now.prefix c.args.parts.now.code.now c.args.items.now c.requires.listing
