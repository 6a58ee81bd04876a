use Rattle.std.proofs.Common.{ap}
use Rattle.cv_io.proofs.FilesOf.{files_of-set, files_of-push}
use Rattle.cv_io.proofs.memory_store.set_file.Goals as goal

pub returns-in-Some-clause-set : goal.returns-in-Some-clause-set
returns-in-Some-clause-set c =
    files_of-set c.args.files.now.items c.deref.result.now c.args.name.now c.args.bytes.now c.in-Some.place c.index_mut.result.now _
    c.deref.ensures.value c.in-Some.ensures (ap (λ file. file.name) c.index_mut.ensures.value) c.in_ok-bytes.ensures.items

pub returns-in_ok-push-in-None-clause-set : goal.returns-in_ok-push-in-None-clause-set
returns-in_ok-push-in-None-clause-set c =
    rw c.in_ok-push-in-None.ensures.items
    (files_of-push c.args.files.now.items c.deref.result.now c.args.name.now c.args.bytes.now _
    c.deref.ensures.value c.in-None.ensures c.in_ok-name-in-None.ensures.ok c.in_ok-bytes.ensures.items)
