use Rattle.std.proofs.Common.{sym, ap}
use Rattle.command_line.specs.Words.{command_of}
use Rattle.confllvm_top.proofs.EndingLemmas.{does_as}
use Rattle.confllvm_top.proofs.command.tell.Goals as goal

pub returns-in-Run-clause-does : goal.returns-in-Run-clause-does
returns-in-Run-clause-does g c = does_as _ _ _ _ _ (sym (ap (λ x. command_of x) c.in-Run.is)) (c.tell_run.ensures.does c.in-Run.name.now)
