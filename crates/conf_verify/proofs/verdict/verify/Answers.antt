use Rattle.conf_verify.specs.Answer.{image_of}
use Rattle.conf_verify.proofs.Ends.{raise}
use Rattle.conf_verify.proofs.verdict.verify.Goals as goal

pub returns-in-Err-clause-refused : goal.returns-in-Err-clause-refused
returns-in-Err-clause-refused c = raise c.args.bytes.now (image_of c.in_ok-parts.parts) c.in-Err.error c.in_ok-parts.ensures.image c.in-Err.ensures.refused
