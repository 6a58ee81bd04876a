use Rattle.std.proofs.Common.{arith}
use Rattle.two_segments.proofs.Ranges.{no_items, sliced}
use Rattle.two_segments.proofs.segments.bytes_at.Goals as goal

pub returns-then-len-eq0 : goal.returns-then-len-eq0
returns-then-len-eq0 c = no_items c.args.bytes.now c.args.at c.args.len (omega arith)

pub returns : goal.returns
returns c = sliced c.args.bytes.now c.args.at c.args.len (omega arith)
