use Rattle.x64_decode.proofs.Laws.{reads, spelled}
use Rattle.x64_decode.proofs.law.table_law.Goals as goal

pub returns-clause-reads : goal.returns-clause-reads
returns-clause-reads c = reads

pub returns-clause-spelled : goal.returns-clause-spelled
returns-clause-spelled c = spelled
