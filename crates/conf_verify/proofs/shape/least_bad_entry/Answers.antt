use Rattle.std.proofs.Common.{arith}
use Rattle.conf_verify.proofs.Entries.{least_next, least_all}
use Rattle.conf_verify.proofs.shape.least_bad_entry.Goals as goal

pub loop-k-preserved : goal.loop-k-preserved
loop-k-preserved c =
    least_next c.args.entries.now c.args.items.now c.loop-k.k c.loop-k.least c.least_of-least.result c.follows_call_word-follows.result c.loop-k.invariant
    c.least_of-least.ensures c.follows_call_word-follows.ensures.yes c.follows_call_word-follows.ensures.no

pub returns : goal.returns
returns c = least_all c.args.entries.now c.args.items.now c.loop-k.k c.loop-k.least (omega arith) c.loop-k.invariant
