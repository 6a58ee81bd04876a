use Rattle.std.proofs.Common.{sym, ap, ◌∙◌, Some}
use Rattle.cv_io.proofs.FilesOf.{files_of-at_place, files_of-nowhere}
use Rattle.cv_io.proofs.memory_store.bytes_of.Goals as goal

pub returns-in-Some : goal.returns-in-Some
returns-in-Some c =
    ap Some c.deref.ensures.value
    ∙ sym (files_of-at_place c.args.files.now c.args.name.now c.in-Some.place c.index-files-place.result c.in-Some.ensures)

pub returns-in-None : goal.returns-in-None
returns-in-None c = sym (files_of-nowhere c.args.files.now c.args.name.now c.in-None.ensures)
