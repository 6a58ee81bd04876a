use Rattle.std.proofs.Common.{arith, refl, inr, []}
use Rattle.x64_machine.proofs.GateLemmas.{no_more}
use Rattle.confllvm_top.specs.Running.{plan_of, status_of, used_of}
use Rattle.command_line.specs.Words.{files_of}
use Rattle.confllvm_top.specs.Inputs.{finding_in, loaded_with}
use Rattle.confllvm_top.proofs.PlanLemmas.{misses, plan_since, refused_run}
use Rattle.confllvm_top.proofs.RunLemmas.{by_used, not_refused, run_answer, run_served}
use Rattle.confllvm_top.proofs.running.tell_run.Goals as goal

pub returns-in-Ok-run_image-clause-does : goal.returns-in-Ok-run_image-clause-does
returns-in-Ok-run_image-clause-does g c = λ name.
    let ran = c.in-Ok-run_image.ensures.runs c.args.bytes.now c.in-Ok.ensures.image in
    let loaded = loaded_with c.args.bytes.now c.in-Ok-load_inputs.inputs ran.tapes in
    let files = files_of c.args.files in
    let finding = finding_in c.in-Ok-run_image.ran.machine ran.releasers in
    let used = used_of files c.args.steps loaded in
    inr (inr (record {
      loaded = loaded;
      image_is = refl;
      inputs = λ accepted. c.in-Ok-load_inputs.ensures.inputs c.args.bytes.now ran.tapes;
      status = status_of used finding.outcome;
      plan = plan_of files used finding;
      served = run_served name c.args.steps files loaded (status_of used finding.outcome) finding _ _ ran.released ran.runs ran.used refl;
      answer = run_answer name c.args.steps files loaded (status_of used finding.outcome) (plan_of files used finding) finding c.in-Ok.ensures.accepted
          (c.accepted_law.ensures _ (λ i. omega (arith, c.type_inv.bytes i)) c.in-Ok.ensures.accepted) ran.runs refl refl;
      ends = plan_since c.tell_ran.result (status_of used finding.outcome) (plan_of files used finding) _ _
          (g.S.Store.contents c.args.store.now) (g.S.Store.contents c.load_inputs.new.store) (g.S.Store.contents c.tell_ran.new.store)
          (g.S.Store.faults c.args.store.now) (g.S.Store.faults c.load_inputs.new.store) (g.S.Store.faults c.tell_ran.new.store)
          c.load_inputs.ensures.unchanged c.load_inputs.ensures.counted
          (by_used c.tell_ran.result c.in-Ok-run_image.ran.used used files finding _ _ _ (c.in-Ok-run_image.ensures.used c.args.bytes.now ran.tapes) (c.tell_ran.ensures.ends ran.releasers));
    }))

pub returns-in-Ok-run_image-clause-trusted_refused : goal.returns-in-Ok-run_image-clause-trusted_refused
returns-in-Ok-run_image-clause-trusted_refused g c = λ rule at is.
    absurd (not_refused c.tell_ran.result c.in-Ok-run_image.ran.used c.in-Ok-run_image.ran.machine.outcome _ _ _ _ rule at (c.tell_ran.ensures.ends (no_more [])) is)

pub returns-in-Ok-clause-does : goal.returns-in-Ok-clause-does
returns-in-Ok-clause-does g c = λ name.
    misses c.in-Err.fault c.tell_load_fault.result name c.args.steps (files_of c.args.files) c.args.bytes.now _ _
    (g.S.Store.contents c.args.store.now) (g.S.Store.contents c.load_inputs.new.store) (g.S.Store.faults c.args.store.now) (g.S.Store.faults c.load_inputs.new.store) _ _
    c.in-Ok.ensures.accepted refl c.load_inputs.ensures.unchanged refl c.in-Err.ensures.fault c.tell_load_fault.ensures.told

pub returns-in-Err-Refused-clause-does : goal.returns-in-Err-Refused-clause-does
returns-in-Err-Refused-clause-does g c = λ name.
    let verdict = rw c.in-Err-Refused.field-0-is at c.in-Err-Refused.ensures.refused in
    refused_run c.in-Err-Refused.rule c.in-Err-Refused.at c.tell_refused.result name c.args.steps (files_of c.args.files) c.args.bytes.now _ _ _ _ _ verdict
    (λ accepted. c.one_verdict.ensures.accepted c.args.bytes.now c.in-Err-Refused.rule c.in-Err-Refused.at accepted verdict) refl (c.tell_refused.ensures.ends _ _ refl refl)
