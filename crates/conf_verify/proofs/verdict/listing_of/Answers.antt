use Rattle.std.proofs.Common.{subst}
use Rattle.conf_verify.specs.Answer.{image_of}
use Rattle.conf_verify.specs.declared.rule.Rule.TheVariants.{V2}
use Rattle.code_sweep.specs.Sweep.{IsBreak}
use Rattle.code_sweep.specs.declared.sweeping.SweepError.{SweepError}
use Rattle.conf_verify.proofs.Told.{told_break}
use Rattle.conf_verify.proofs.Ends.{refusal}
use Rattle.conf_verify.proofs.verdict.listing_of.Goals as goal

pub returns-in-Err-NoItem-clause-refused : goal.returns-in-Err-NoItem-clause-refused
returns-in-Err-NoItem-clause-refused c =
    refusal (image_of c.args.parts.now) c.refused.result V2 _ c.refused.ensures (told_break (image_of c.args.parts.now) c.in-Err-NoItem.at
    (subst (λ (e : SweepError). IsBreak c.args.parts.now.prefix c.args.parts.now.code.now e) c.in-Err-NoItem.field-0-is c.in-Err-NoItem.ensures.broken))
