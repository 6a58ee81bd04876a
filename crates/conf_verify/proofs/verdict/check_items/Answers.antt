use Rattle.std.proofs.Common.{ℕ, Option, subst, length}
use Rattle.conf_verify.specs.Answer.{image_of}
use Rattle.conf_verify.specs.Search.{BadBy, IsFirstBad}
use Rattle.conf_verify.proofs.Steps.{told_by_rule, holds_by_rule}
use Rattle.conf_verify.proofs.Ends.{refusal}
use Rattle.conf_verify.proofs.verdict.check_items.Goals as goal

pub returns-in-Some-clause-refused : goal.returns-in-Some-clause-refused
returns-in-Some-clause-refused c =
    refusal (image_of c.args.parts.now) c.refused.result c.args.rule _ c.refused.ensures
    (told_by_rule (image_of c.args.parts.now) c.args.items.now c.args.rule c.in-Some.i _ c.requires.rule c.requires.listing
    (subst (λ (r : Option ℕ). IsFirstBad (BadBy c.args.rule c.args.items.now) (length c.args.items.now) r) c.in-Some.is c.requires.first) c.requires.below)

pub returns-in-None-clause-holds : goal.returns-in-None-clause-holds
returns-in-None-clause-holds c =
    holds_by_rule (image_of c.args.parts.now) c.args.items.now c.args.rule c.requires.rule
    (subst (λ (r : Option ℕ). IsFirstBad (BadBy c.args.rule c.args.items.now) (length c.args.items.now) r) c.in-None.is c.requires.first) c.requires.below
