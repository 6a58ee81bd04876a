use Rattle.std.proofs.Common.{arith, sym, below_more}
use Rattle.qual_solve.specs.declared.search.TheConstants.{UNREACHED}
use Rattle.qual_solve.proofs.Numbered.{fallback}
use Rattle.qual_solve.proofs.Forced.{reached_closing, not_closing, not_reached}
use Rattle.qual_solve.proofs.solver.first_broken.Goals as goal
use Rattle.qual_solve.proofs.solver.first_broken.Goals.{else-is_closing-via-then-is_closing+else-distances-node-lt-UNREACHED, else-is_closing-via-else-is_closing}

pub loop-number-init : goal.loop-number-init
loop-number-init c = λ number below broken. omega arith

pub returns-then-distances-node-lt-UNREACHED : goal.returns-then-distances-node-lt-UNREACHED
returns-then-distances-node-lt-UNREACHED c = (
  reached_closing c.args.list.now UNREACHED c.args.distances.now c.loop-number.number c.node.result c.loop-number-test.true fallback
      (sym c.if-is_closing.ensures) c.node.ensures c.if-distances-node-lt-UNREACHED.true,
  c.loop-number.invariant,
)

pub loop-number-preserved : goal.loop-number-preserved
loop-number-preserved c =
    below_more _ _ c.loop-number.invariant
    (elim c.else-is_closing.branch [
      | else-is_closing-via-then-is_closing+else-distances-node-lt-UNREACHED w ↦
          not_reached c.args.list.now UNREACHED c.args.distances.now c.loop-number.number w.node.result c.loop-number-test.true fallback
          w.node.ensures w.if-distances-node-lt-UNREACHED.false
      | else-is_closing-via-else-is_closing w ↦
          not_closing c.args.list.now UNREACHED c.args.distances.now c.loop-number.number c.loop-number-test.true fallback (sym w.if-is_closing.ensures)
    ])
