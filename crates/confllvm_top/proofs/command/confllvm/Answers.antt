use Rattle.std.proofs.Common.{rules, refl, inl, inr}
use Rattle.cv_io.specs.Files.{HasFile}
use Rattle.cv_io.specs.Releasers.{Classes, classes_by}
use Rattle.command_line.specs.Commands.{name_of}
use Rattle.command_line.specs.Words.{command_of}
use Rattle.confllvm_top.specs.Endings.{Does, Outside}
use Rattle.confllvm_top.specs.Outsides.{outside}
use Rattle.confllvm_top.proofs.EndingLemmas.{cut_off-failed, ended-answered, ended-checked, ended-cut_off, ended-exact, ended-ran_out, ended-store_fault, ended-told, ended-unsaved, has_named, lacks_named, tells_class}
use Rattle.confllvm_top.proofs.OneAnswer.{by_image, ended-trust_fault}
use Rattle.confllvm_top.proofs.PlanLemmas.{does_since}
use Rattle.confllvm_top.proofs.command.confllvm.Given.{Over}
use Rattle.confllvm_top.proofs.command.confllvm.Goals as goal

abbrev classes_before : (g : Over) (c : goal.After-drop-bytes g) → Classes
classes_before g c = classes_by (λ z. (goal.Trusted-dyn g (z.vtable, z.value)).known z.value) c.args.trusted.now.items

abbrev classes_after : (g : Over) (c : goal.After-drop-bytes g) → Classes
classes_after g c = classes_by (λ z. (goal.Trusted-dyn g (z.vtable, z.value)).known z.value) c.tell.new.trusted.items

abbrev outside_of : (g : Over) (c : goal.After-drop-bytes g) → Outside
outside_of g c =
    outside g.S.Store.contents g.S.Store.faults g.O.Sink.held g.O.Sink.faults g.E.Sink.held g.E.Sink.faults c.args.store.now c.tell.new.store c.args.out.now c.tell.new.out
    c.args.err.now c.tell.new.err (classes_before g c) (classes_after g c)

-- what the command was done with, and what it did
has : (g : Over) (c : goal.After-drop-bytes g) → HasFile (g.S.Store.contents c.args.store.now) (name_of (command_of c.in-Ok.command)) c.deref.result.now
has g c = has_named (g.S.Store.contents c.args.store.now) c.name-name.result.now _ c.deref.result.now c.in-Ok-load.bytes.items c.name-name.ensures c.deref.ensures.value c.in-Ok-load.ensures.found

does : (g : Over) (c : goal.After-drop-bytes g) → Does c.tell.result (command_of c.in-Ok.command) c.deref.result.now (outside_of g c)
does g c =
    does_since c.tell.result (command_of c.in-Ok.command) c.deref.result.now _ _
    (g.S.Store.contents c.args.store.now) (g.S.Store.contents c.load.new.self) (g.S.Store.contents c.tell.new.store)
    (g.S.Store.faults c.args.store.now) (g.S.Store.faults c.load.new.self) (g.S.Store.faults c.tell.new.store)
    _ _ c.load.ensures.unchanged c.load.ensures.counted c.tell.ensures.does

pub returns-in-Ok-load-clause-checked : goal.returns-in-Ok-load-clause-checked
returns-in-Ok-load-clause-checked g c =
    ended-checked _ (outside_of g c) (command_of c.in-Ok.command) c.deref.result.now c.tell.result c.in-Ok.ensures.said (has g c) c.one_command.ensures (does g c)

pub returns-in-Ok-load-clause-told : goal.returns-in-Ok-load-clause-told
returns-in-Ok-load-clause-told g c =
    ended-told _ (outside_of g c) (command_of c.in-Ok.command) c.deref.result.now c.tell.result c.in-Ok.ensures.said (has g c) (does g c)

pub returns-in-Ok-load-clause-answered : goal.returns-in-Ok-load-clause-answered
returns-in-Ok-load-clause-answered g c =
    ended-answered _ (outside_of g c) (command_of c.in-Ok.command) c.deref.result.now c.tell.result c.in-Ok.ensures.said (has g c) by_image c.one_command.ensures (does g c)

pub returns-in-Ok-load-clause-exact : goal.returns-in-Ok-load-clause-exact
returns-in-Ok-load-clause-exact g c =
    ended-exact _ (outside_of g c) (command_of c.in-Ok.command) c.deref.result.now c.tell.result c.in-Ok.ensures.said (has g c) by_image c.one_command.ensures c.one_answer.ensures (does g c)

pub returns-in-Ok-load-clause-store_fault : goal.returns-in-Ok-load-clause-store_fault
returns-in-Ok-load-clause-store_fault g c =
    ended-store_fault _ (outside_of g c) (command_of c.in-Ok.command) c.deref.result.now c.tell.result c.in-Ok.ensures.said (has g c) (does g c)

pub returns-in-Ok-load-clause-sink_fault : goal.returns-in-Ok-load-clause-sink_fault
returns-in-Ok-load-clause-sink_fault g c =
    λ fault. cut_off-failed _ (outside_of g c) (ended-cut_off _ (outside_of g c) (command_of c.in-Ok.command) c.deref.result.now c.tell.result c.in-Ok.ensures.said (has g c) (does g c) fault)

pub returns-in-Ok-load-clause-trust_fault : goal.returns-in-Ok-load-clause-trust_fault
returns-in-Ok-load-clause-trust_fault g c = λ class is.
    ended-trust_fault _ (outside_of g c) c.tell.result class is
    (ended-told _ (outside_of g c) (command_of c.in-Ok.command) c.deref.result.now c.tell.result c.in-Ok.ensures.said (has g c) (does g c) (tells_class class c.tell.result is))

pub returns-in-Ok-load-clause-cut_off : goal.returns-in-Ok-load-clause-cut_off
returns-in-Ok-load-clause-cut_off g c =
    ended-cut_off _ (outside_of g c) (command_of c.in-Ok.command) c.deref.result.now c.tell.result c.in-Ok.ensures.said (has g c) (does g c)

pub returns-in-Ok-load-clause-unsaved : goal.returns-in-Ok-load-clause-unsaved
returns-in-Ok-load-clause-unsaved g c =
    ended-unsaved _ (outside_of g c) (command_of c.in-Ok.command) c.deref.result.now c.tell.result c.in-Ok.ensures.said (has g c) (does g c)

pub returns-in-Ok-load-clause-ran_out : goal.returns-in-Ok-load-clause-ran_out
returns-in-Ok-load-clause-ran_out g c =
    ended-ran_out _ (outside_of g c) (command_of c.in-Ok.command) c.deref.result.now c.tell.result c.in-Ok.ensures.said (has g c) (does g c)

pub returns-in-Err-NoMemory-load-clause-ran_out : goal.returns-in-Err-NoMemory-load-clause-ran_out
returns-in-Err-NoMemory-load-clause-ran_out g c = λ none. inl (record {
  quiet = record { out = refl; store = c.load.ensures.unchanged };
  unasked = refl;
  tells = c.tell_no_memory-in-Err-NoMemory-load.ensures.line;
})

pub returns-in-Err-Missing-clause-store_fault : goal.returns-in-Err-Missing-clause-store_fault
returns-in-Err-Missing-clause-store_fault g c = λ fault.
    inr (lacks_named _ _ (command_of c.in-Ok.command) c.name-name.result.now c.in-Ok.ensures.said c.name-name.ensures (search rules))

pub returns-in-Err-Missing-clause-unsaved : goal.returns-in-Err-Missing-clause-unsaved
returns-in-Err-Missing-clause-unsaved g c = λ fault. inl (record {
  command = command_of c.in-Ok.command;
  said = c.in-Ok.ensures.said;
  failed = record {
    quiet = record { out = refl; store = c.load.ensures.unchanged };
    unasked = refl;
    name = c.name-name.result.now;
    loads = inl c.name-name.ensures;
    tells = c.tell_store_fault.ensures.line fault;
  };
})

pub returns-in-Err-Missing-clause-ran_out : goal.returns-in-Err-Missing-clause-ran_out
returns-in-Err-Missing-clause-ran_out g c = λ none. inl (record {
  quiet = record { out = refl; store = c.load.ensures.unchanged };
  unasked = refl;
  tells = c.tell_store_fault.ensures.no_memory none;
})

pub returns-in-Err-Failed-clause-unsaved : goal.returns-in-Err-Failed-clause-unsaved
returns-in-Err-Failed-clause-unsaved g c = λ fault. inl (record {
  command = command_of c.in-Ok.command;
  said = c.in-Ok.ensures.said;
  failed = record {
    quiet = record { out = refl; store = c.load.ensures.unchanged };
    unasked = refl;
    name = c.name-name.result.now;
    loads = inl c.name-name.ensures;
    tells = c.tell_store_fault-in-Err-Failed.ensures.line fault;
  };
})

pub returns-in-Err-Failed-clause-ran_out : goal.returns-in-Err-Failed-clause-ran_out
returns-in-Err-Failed-clause-ran_out g c = λ none. inl (record {
  quiet = record { out = refl; store = c.load.ensures.unchanged };
  unasked = refl;
  tells = c.tell_store_fault-in-Err-Failed.ensures.no_memory none;
})
