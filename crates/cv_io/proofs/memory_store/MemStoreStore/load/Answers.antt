use Rattle.std.proofs.Common.{sym, ap, ◌∙◌, Err}
use Rattle.cv_io.proofs.FilesOf.{files_of-same, HasFile-told}
use Rattle.cv_io.proofs.memory_store.MemStoreStore.load.Goals as goal

pub returns-in-Ok-clause-found : goal.returns-in-Ok-clause-found
returns-in-Ok-clause-found c =
    HasFile-told _ _ _ _ (files_of-same _ _ _ c.deref.ensures.value c.begin_call.ensures.files) c.in-Ok.ensures.found

pub returns-in-Err-Missing-clause-missing : goal.returns-in-Err-Missing-clause-missing
returns-in-Err-Missing-clause-missing c = λ _.
    ap (λ files. files c.args.name.now) (sym (files_of-same _ _ _ c.deref.ensures.value c.begin_call.ensures.files))
    ∙ c.in-Err-Missing.ensures.missing (ap Err c.in-Err-Missing.field-0-is)
