use Rattle.qual_rules.proofs.Appends.{finished}
use Rattle.qual_rules.proofs.Arguments.{passed_over}
use Rattle.qual_rules.proofs.expressions.push_passed_all.Goals as goal

pub returns-else-i-types : goal.returns-else-i-types
returns-else-i-types c =
    finished c.loop-i.out.items _ _ c.loop-i.invariant (passed_over c.args.all.now c.args.types.now c.loop-i.i c.if-i-types.false)
