use Rattle.std.proofs.Common.{◌-◌, arith}
use Rattle.confllvm_top.proofs.LineLemmas.{next_front, next_line}
use Rattle.confllvm_top.proofs.EndingLemmas.{risen_since}
use Rattle.confllvm_top.proofs.telling.put_lines.Goals as goal

pub loop-start-preserved : goal.loop-start-preserved
loop-start-preserved g c = record {
  inside = c.line_end-end.ensures.inside;
  ends = c.line_end-end.ensures.ends;
  put = next_line c.args.text.now c.loop-start.start c.line_end-end.result _ _ _ (omega (arith, c.line_end-end.ensures.more)) c.loop-start.invariant.put c.in-Ok.ensures.all;
  counted = omega (arith, c.loop-start.invariant.counted, c.put.ensures.counted);
}

pub returns-in-Err-clause-front : goal.returns-in-Err-clause-front
returns-in-Err-clause-front g c = λ e. (
  next_front c.args.text.now c.loop-start.start (c.line_end-end.result - c.loop-start.start) _ _ _ c.loop-start.invariant.put (c.in-Err.ensures.front e),
  risen_since _ _ _ c.loop-start.invariant.counted (c.in-Err.ensures.failed e),
)
