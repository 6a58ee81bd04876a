use Rattle.std.proofs.Common.{arith}
use Rattle.two_heaps.proofs.Places.{written}
use Rattle.two_heaps.proofs.spans.replace.Goals as goal

pub returns-else-last-first-eq2-clause-items : goal.returns-else-last-first-eq2-clause-items
returns-else-last-first-eq2-clause-items c =
    written c.args.spans.now.items c.args.first c.args.last c.args.span (omega (arith, c.args.spans.now.ok.0)) (omega arith)
