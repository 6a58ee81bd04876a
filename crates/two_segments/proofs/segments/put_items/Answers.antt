use Rattle.std.proofs.Common.{arith}
use Rattle.two_segments.proofs.Ranges.{spliced_none}
use Rattle.two_segments.proofs.segments.put_items.Goals as goal

pub returns-else-len-gt0 : goal.returns-else-len-gt0
returns-else-len-gt0 c = spliced_none c.args.out.now c.args.source.now c.args.at c.args.from c.args.len (omega arith)
