use Rattle.std.proofs.Common.{arith}
use Rattle.std.proofs.lemmas.Grind.{common_steps}
use Rattle.name_scopes.proofs.Latest.{last_is_found, fewer_indexed}
use Rattle.name_scopes.proofs.scopes.Scope.forget.Goals as goal

pub put_back-requires : goal.put_back-requires
put_back-requires c = last_is_found _ _ _ _ c.index-last.ensures (omega arith) c.loop-self.invariant.0

pub loop-self-preserved : goal.loop-self-preserved
loop-self-preserved c =
    (rw c.truncate.ensures.items (fewer_indexed _ _ _ _ _ c.index-last.ensures (omega arith) c.loop-self.invariant.0 c.put_back.ensures), grind (arith, common_steps))
