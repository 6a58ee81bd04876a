use Rattle.std.proofs.Common.{◌+◌, ◌≤◌, length}
use Rattle.taint_flow.specs.Worklist.{state_of, IsSound, work_left}
use Rattle.taint_flow.proofs.flow.settle.Given as goal

abbrev pub invariant-loop-i : goal.invariant-loop-i
invariant-loop-i g l = record {
  sound : IsSound l.items (length l.items) (state_of l.w);
  bound : l.steps + work_left (state_of l.w) ≤ l.initial.steps + work_left (state_of l.initial.w);
}

abbrev pub decreases-loop-i : goal.decreases-loop-i
decreases-loop-i g l = work_left (state_of l.w)
