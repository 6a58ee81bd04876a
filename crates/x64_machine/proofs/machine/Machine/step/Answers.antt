use Rattle.std.proofs.Common.{rules, ◌∙◌, [], ◌∷◌}
use Rattle.x64_machine.proofs.MachineLemmas.{as_running, with_cores, written_whole, machine_step, has_stayed, not_running}
use Rattle.x64_machine.proofs.machine.Machine.step.Goals as goal

pub returns-in-Running-clause-after : goal.returns-in-Running-clause-after
returns-in-Running-clause-after g c =
    machine_step c.args.core c.args.self.now _ c.deref_mut.result.now c.step_one-self-inside.new.cores c.self.inside.segments c.step_one-self-inside.new.segments
    c.self.inside.world c.step_one-self-inside.new.world c.step_one-self-inside.result _ _
    (as_running c.args.self.now _ _ _ _ c.self.view_is c.in-Running.is ∙ with_cores _ _ _ _ _ (search rules))
    (with_cores _ _ _ _ _ (written_whole _ c.step_one-self-inside.new.cores c.self.inside.cores.items (search rules) (search rules))) c.step_one-self-inside.ensures

pub returns-in_default : goal.returns-in_default
returns-in_default g c = record {
  after = has_stayed (c.args.core ∷ []) c.args.self.now _ (not_running _ (search rules));
  progress = search rules;
  ended = search rules;
}
