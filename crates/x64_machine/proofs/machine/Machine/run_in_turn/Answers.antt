use Rattle.std.proofs.Common.{rules}
use Rattle.x64_machine.specs.Entries.{turns}
use Rattle.x64_machine.proofs.Runs.{next_turn}
use Rattle.x64_machine.proofs.MachineLemmas.{begins_turns, of_cores, no_turn, later_turn, last_turn}
use Rattle.x64_machine.proofs.machine.Machine.run_in_turn.Goals as goal

pub loop-turn-init : goal.loop-turn-init
loop-turn-init g c = record {
  count = search rules;
  below = search rules;
  turn = search rules;
  far = begins_turns c.len-n.result c.args.count _ c.args.self.now;
}

pub loop-turn-preserved : goal.loop-turn-preserved
loop-turn-preserved g c = record {
  count = search rules;
  below = search rules;
  turn = next_turn c.len-n.result c.loop-turn._turn c.loop-turn.core c.next_core-core.result (search rules) (search rules);
  far =
      later_turn (turns c.len-n.result 0 c.args.count) _ _ c.args.self.now c.loop-turn.self _ c.step.new.self c.loop-turn.core c.step.ensures.after
      c.len-n.result c.loop-turn._turn c.args.count (search rules) (search rules) c.loop-turn.invariant.far c.step.ensures.ended (search rules);
}

pub returns-in-Ended : goal.returns-in-Ended
returns-in-Ended g c =
    of_cores c.len-n.result _ c.args.count _ _ c.args.self.now c.step.new.self c.loop-turn.invariant.count
    (last_turn (turns c.len-n.result 0 c.args.count) _ _ c.args.self.now c.loop-turn.self _ c.step.new.self c.loop-turn.core c.step.ensures.after
    c.len-n.result c.loop-turn._turn c.args.count (search rules) (search rules) c.loop-turn.invariant.far (search rules))

pub returns : goal.returns
returns g c =
    of_cores c.len-n.result _ c.args.count _ _ c.args.self.now c.loop-turn.self c.loop-turn.invariant.count
    (no_turn (turns c.len-n.result 0 c.args.count) _ _ c.args.self.now c.loop-turn.self c.len-n.result c.loop-turn._turn c.args.count (search rules) c.loop-turn.invariant.far)
