use Rattle.std.proofs.Common.{length}
use Rattle.conf_verify.specs.Answer.{image_of}
use Rattle.conf_verify.specs.declared.rule.Rule.TheVariants.{V9}
use Rattle.conf_verify.proofs.Chains.{chain_eight}
use Rattle.conf_verify.proofs.Ends.{refusal, entry_at, entry_none}
use Rattle.conf_verify.proofs.verdict.check_entries.Goals as goal

pub least_bad_entry-requires-clause-eight : goal.least_bad_entry-requires-clause-eight
least_bad_entry-requires-clause-eight c = λ i p.
    chain_eight c.args.parts.now.prefix c.args.parts.now.code.now c.args.items.now (length c.args.parts.now.code.now) i p c.requires.good.prefix_len c.requires.listing

pub returns-in-Some-clause-refused : goal.returns-in-Some-clause-refused
returns-in-Some-clause-refused c =
    refusal (image_of c.args.parts.now) c.refused.result V9 _ c.refused.ensures
    (entry_at (image_of c.args.parts.now) c.args.items.now c.as_slice.result.now c.in-Some.entry c.as_slice.ensures.value c.requires.listing c.in-Some.ensures c.requires.below)

pub returns-in-None-clause-holds : goal.returns-in-None-clause-holds
returns-in-None-clause-holds c =
    entry_none (image_of c.args.parts.now) c.args.items.now c.as_slice.result.now c.as_slice.ensures.value c.requires.below c.in-None.ensures
