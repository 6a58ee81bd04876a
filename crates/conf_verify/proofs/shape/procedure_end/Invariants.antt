use Rattle.std.proofs.Common.{◌<◌}
use Rattle.conf_verify.proofs.Procedures.{NoneBetween}
use Rattle.conf_verify.proofs.shape.procedure_end.Given as goal

abbrev pub invariant-loop-j : goal.invariant-loop-j
invariant-loop-j l = record {
  above : l.start < l.j;
  none : NoneBetween l.items l.start l.j;
}
