use Rattle.c_types.proofs.ByteLemmas.{bytes_next, bytes_end}
use Rattle.c_types.proofs.globals.word_bytes.Goals as goal

pub loop-i-preserved : goal.loop-i-preserved
loop-i-preserved c =
    bytes_next c.loop-i.bytes.items _ c.args.count c.loop-i.i c.loop-i.rest _ c.loop-i-test.true c.in_ok-push.ensures.items c.loop-i.invariant

pub returns : goal.returns
returns c = bytes_end c.loop-i.bytes.items c.args.count c.loop-i.i c.loop-i.rest _ c.loop-i-test.false c.loop-i.invariant
