use Rattle.std.proofs.Common.{◌≡◌, ◌-◌, ◌≤◌, length, take}
use Rattle.cv_io.specs.Output.{appended}
use Rattle.confllvm_top.specs.Streams.{EndsLine}
use Rattle.confllvm_top.proofs.telling.put_lines.Given as goal

-- all before the start of a line was put
abbrev pub invariant-loop-start : goal.invariant-loop-start
invariant-loop-start g l = record {
  inside : l.start ≤ length l.text;
  ends : EndsLine l.text l.start;
  put : g.O.Sink.held l.out ≡ appended (g.O.Sink.held l.fn.out) (take l.start l.text);
  counted : g.O.Sink.faults l.fn.out ≤ g.O.Sink.faults l.out;
}

abbrev pub decreases-loop-start : goal.decreases-loop-start
decreases-loop-start g l = length l.text - l.start
