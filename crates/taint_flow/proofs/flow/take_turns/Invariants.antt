use Rattle.std.proofs.Common.{◌+◌, ◌*◌, ◌-◌, ◌≤◌, length}
use Rattle.taint_flow.specs.Worklist.{state_over, waiting, IsSound, work_left}
use Rattle.taint_flow.proofs.flow.take_turns.Given as goal

abbrev pub invariant-loop-i : goal.invariant-loop-i
invariant-loop-i g l = record {
  sound : IsSound l.items l.i (state_over (waiting l.i (length l.items - l.i)) l.w);
  bound : l.steps + work_left (state_over (waiting l.i (length l.items - l.i)) l.w) ≤ l.initial.steps + 18 * length l.items;
}
