use Rattle.std.proofs.Common.{arith}
use Rattle.cv_io.proofs.Xored.{xored-more, xored-all}
use Rattle.cv_io.proofs.memory_releaser.xor_into.Goals as goal

pub loop-i-preserved : goal.loop-i-preserved
loop-i-preserved c =
    xored-more c.args.from.now c.args.pad.now c.loop-i.to c.loop-i.i (omega arith) c.requires.enough (omega arith) c.loop-i.invariant

pub returns : goal.returns
returns c =
    xored-all c.args.from.now c.args.pad.now c.loop-i.to c.loop-i.i (omega arith) c.requires.enough (omega arith) c.loop-i.invariant
