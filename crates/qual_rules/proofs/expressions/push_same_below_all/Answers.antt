use Rattle.std.proofs.Common.{map, drop, ◌+◌}
use Rattle.qual_rules.specs.Flows.{same_below_all, flow_of}
use Rattle.qual_rules.proofs.Appends.{finished, one_more}
use Rattle.qual_rules.proofs.Arguments.{same_over, same_put}
use Rattle.qual_rules.proofs.expressions.push_same_below_all.Goals as goal

pub loop-i-preserved : goal.loop-i-preserved
loop-i-preserved c =
    one_more c.loop-i.out.items _ _ (same_below_all (map flow_of (drop (c.loop-i.i + 1) c.args.args.now)) (drop (c.loop-i.i + 1) c.args.types.now)) c.push_same_below.new.out.items _
    c.loop-i.invariant c.in_ok-push_same_below.ensures
    (same_put c.args.args.now c.args.types.now c.loop-i.i c.index-args-i.result c.index-types-i.result c.loop-i-test.true c.if-i-types.true c.index-args-i.is c.index-types-i.is)

pub returns-else-i-types : goal.returns-else-i-types
returns-else-i-types c =
    finished c.loop-i.out.items _ _ c.loop-i.invariant (same_over c.args.args.now c.args.types.now c.loop-i.i c.if-i-types.false)
