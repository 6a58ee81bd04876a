use Rattle.std.proofs.Common.{arith}
use Rattle.qual_rules.proofs.Counts.{levels_of, one_part}
use Rattle.qual_rules.proofs.Equations.{lengths_differ}
use Rattle.qual_rules.proofs.levels.+shapes.Goals as goal

pub are_of_one_shape-returns-then-one-other : goal.are_of_one_shape-returns-then-one-other
are_of_one_shape-returns-then-one-other t c = lengths_differ c.args.one.now c.args.other.now c.if-one-other.true

pub are_of_one_shape-have_one_shape-requires : goal.are_of_one_shape-have_one_shape-requires
are_of_one_shape-have_one_shape-requires t c =
    let part = one_part levels_of c.args.one.now c.loop-i.i c.index-one-i.result c.loop-i-test.true c.index-one-i.is in
    (omega (arith, c.decreases), tt)
