use Rattle.x64_encode.proofs.RoundTrip.{read_back, no_row, written_again}
use Rattle.x64_encode.proofs.encoding.encode.Goals as goal

pub returns-clause-read_back : goal.returns-clause-read_back
returns-clause-read_back c = λ h. read_back _ _ c.row.ensures.bytes (c.row.ensures.proper h)

pub returns-clause-no_row : goal.returns-clause-no_row
returns-clause-no_row c = no_row _ _ c.row.ensures.bytes

pub returns-clause-written_again : goal.returns-clause-written_again
returns-clause-written_again c = written_again _ _ c.row.ensures.bytes
