use Rattle.std.proofs.Common.{refl}
use Rattle.std.specs.String.{string_bytes}
use Rattle.command_line.specs.Commands.{Verify}
use Rattle.confllvm_top.specs.Plans.{line_out}
use Rattle.confllvm_top.proofs.EndingLemmas.{does_alone}
use Rattle.confllvm_top.proofs.verifying.tell_verdict.Goals as goal

pub returns-clause-does : goal.returns-clause-does
returns-clause-does g c = λ name s classes still.
    does_alone (Verify name) c.args.bytes.now c.in-Ok.told.status c.put_told.result (line_out (string_bytes c.in-Ok.told.line)) _ refl refl refl (c.in-Ok.ensures name)
    (c.put_told.ensures.ends s still)
