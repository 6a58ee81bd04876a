use Rattle.confllvm_top.proofs.PlanLemmas.{plan_line, plan_unsaved}
use Rattle.confllvm_top.proofs.telling.put_run.Goals as goal

pub returns-in-None-clause-ends : goal.returns-in-None-clause-ends
returns-in-None-clause-ends g c =
    plan_line c.put_line.result c.args.told.now.status _ _ (g.E.Sink.held c.args.err.now) (g.E.Sink.held c.save_all.new.err) (g.E.Sink.held c.put_line.new.err)
    (g.E.Sink.faults c.args.err.now) (g.E.Sink.faults c.save_all.new.err) (g.E.Sink.faults c.put_line.new.err) _
    c.in-Ok.ensures.all c.in-None.ensures.saves.0 c.in-None.ensures.saves.1 c.save_all.ensures.err_counted c.put_line.ensures.ends

pub returns-in-Some-clause-ends : goal.returns-in-Some-clause-ends
returns-in-Some-clause-ends g c = plan_unsaved c.in-Some.status c.args.told.now.status _ _ _ _ c.in-Ok.ensures.all c.in-Some.ensures.saves
