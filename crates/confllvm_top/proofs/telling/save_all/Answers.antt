use Rattle.command_line.specs.Words.{text_of}
use Rattle.confllvm_top.specs.Running.{saving}
use Rattle.confllvm_top.proofs.PlanLemmas.{saves_first, saves_second}
use Rattle.confllvm_top.proofs.telling.save_all.Goals as goal

pub returns-in-None-clause-saves : goal.returns-in-None-clause-saves
returns-in-None-clause-saves g c =
    saves_second c.save_named-in-None.result (text_of c.args.saves.private_name) (text_of c.args.saves.audit_name) c.args.saves.private.now c.args.saves.audit.now
    (g.S.Store.contents c.args.store.now) (g.S.Store.contents c.save_named.new.store) (g.S.Store.contents c.save_named-in-None.new.store)
    (g.S.Store.faults c.args.store.now) (g.S.Store.faults c.save_named.new.store) (g.S.Store.faults c.save_named-in-None.new.store)
    (g.E.Sink.held c.args.err.now) (g.E.Sink.held c.save_named.new.err) (g.E.Sink.held c.save_named-in-None.new.err)
    (g.E.Sink.faults c.args.err.now) (g.E.Sink.faults c.save_named.new.err) (g.E.Sink.faults c.save_named-in-None.new.err)
    c.in-None.ensures.saves c.save_named.ensures.store_counted c.save_named.ensures.err_counted c.save_named-in-None.ensures.saves

pub returns-in-Some-clause-saves : goal.returns-in-Some-clause-saves
returns-in-Some-clause-saves g c =
    saves_first c.in-Some.status (text_of c.args.saves.private_name) c.args.saves.private.now (saving (text_of c.args.saves.audit_name) c.args.saves.audit.now) _ _
    c.in-Some.ensures.saves
