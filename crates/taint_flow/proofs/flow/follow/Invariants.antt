use Rattle.std.proofs.Common.{◌+◌, ◌≤◌, length, true}
use Rattle.taint_flow.specs.Worklist.{state_of, topped, IsSound, work_left}
use Rattle.taint_flow.proofs.flow.follow.Given as goal

abbrev pub invariant-loop-i : goal.invariant-loop-i
invariant-loop-i g l = record {
  sound : IsSound l.items (length l.items) (topped true l.at (state_of l.w));
  fall : work_left (topped true l.at (state_of l.w)) ≤ work_left (topped true l.i (state_of l.initial.w));
  bound : l.steps + work_left (topped true l.at (state_of l.w)) ≤ l.initial.steps + work_left (topped true l.i (state_of l.initial.w));
}

abbrev pub decreases-loop-i : goal.decreases-loop-i
decreases-loop-i g l = work_left (topped true l.at (state_of l.w))
