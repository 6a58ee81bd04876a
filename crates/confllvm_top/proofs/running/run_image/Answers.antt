use Rattle.std.proofs.Common.{rules, sym, ap, subst, ℕ, List}
use Rattle.cv_word.specs.Words.{AreBytes}
use Rattle.image_form.specs.Image.{Image}
use Rattle.command_line.specs.Words.{files_of}
use Rattle.confllvm_top.specs.Inputs.{loaded_with}
use Rattle.confllvm_top.proofs.RunLemmas.{ran_with}
use Rattle.confllvm_top.proofs.TapeLemmas.{same_classes}
use Rattle.confllvm_top.proofs.running.run_image.Goals as goal

pub returns-clause-runs : goal.returns-clause-runs
returns-clause-runs g c = λ bytes is.
    ran_with bytes c.args.inputs.now.schedule.items c.args.inputs.now.public.items c.args.inputs.now.private.items c.args.steps (files_of c.args.files) c.args.image.now.image
    c.parts.result.now.private.now c.in_ok-machine.machine c.run_machine-outcome.new.machine _ _ _
    is (ap (λ (i : Image). i.private) c.parts.ensures.parts) (search rules) (subst (λ (l : List ℕ). AreBytes l) c.audit.ensures c.are_bytes.ensures) (search rules)
    c.run_machine-outcome.ensures.after (λ tapes. c.schedule_of-used.ensures.entries _ (loaded_with bytes c.args.inputs.now tapes) (sym c.deref-3.ensures.value))

pub returns-clause-used : goal.returns-clause-used
returns-clause-used g c = λ bytes tapes. c.schedule_of-used.ensures.used (loaded_with bytes c.args.inputs.now tapes) (sym c.deref-3.ensures.value)

pub returns-clause-held : goal.returns-clause-held
returns-clause-held g c = same_classes _ _ _ _ c.run_machine-outcome.ensures.after.known
