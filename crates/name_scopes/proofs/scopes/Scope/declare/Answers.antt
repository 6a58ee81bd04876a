use Rattle.std.proofs.Common.{arith, sym}
use Rattle.name_scopes.proofs.Latest.{more_indexed}
use Rattle.name_scopes.proofs.scopes.Scope.declare.Goals as goal

pub invariant_of-self-2 : goal.invariant_of-self-2
invariant_of-self-2 c =
    let insert = c.in_ok-insert.ensures.updates.0 in
    let reserve = c.reserve.ensures.entries.2 in
    rw c.in_ok-push.ensures.items (more_indexed _ _ _ c.len-at.result _ (omega arith) c.self.invariant (λ name. rw (sym (reserve name)) (insert name)) (rw c.self.view_is c.latest-hides.ensures))
