use Rattle.std.proofs.Common.{arith}
use Rattle.type_shapes.proofs.TypeLemmas.{same_all-length, same_step, same_stop, same_end}
use Rattle.type_shapes.proofs.types.+same.Goals as goal

pub same_all-returns-then-a-b : goal.same_all-returns-then-a-b
same_all-returns-then-a-b t c = same_all-length _ _ _ c.if-a-b.true

pub same_all-loop-i-preserved : goal.same_all-loop-i-preserved
same_all-loop-i-preserved t c = record {
  all = same_step _ _ _ c.loop-i.i c.index-a-i.result c.index-b-i.result _ (omega arith) (omega (arith, c.loop-i.invariant.lengths))
      c.index-a-i.is c.index-b-i.is c.if-not-same_type.ensures c.loop-i.invariant.all;
  lengths = c.loop-i.invariant.lengths;
}

pub same_all-returns-then-not-same_type : goal.same_all-returns-then-not-same_type
same_all-returns-then-not-same_type t c =
    same_stop _ _ _ c.loop-i.i c.index-a-i.result c.index-b-i.result _ (omega arith) (omega (arith, c.loop-i.invariant.lengths))
    c.index-a-i.is c.index-b-i.is c.if-not-same_type.ensures c.loop-i.invariant.all

pub same_all-returns : goal.same_all-returns
same_all-returns t c =
    same_end _ _ _ c.loop-i.i _ (omega arith) (omega (arith, c.loop-i.invariant.lengths)) c.loop-i.invariant.all
