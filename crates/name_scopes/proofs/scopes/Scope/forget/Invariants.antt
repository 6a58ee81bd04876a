use Rattle.std.proofs.Common.{◌≡◌, nat_eq, take, vec_len}
use Rattle.std.specs.HashMap as hash
use Rattle.name_scopes.specs.Latest.{entries_of, IsIndexed}
use Rattle.name_scopes.proofs.scopes.Scope.forget.Given as goal

abbrev pub invariant-loop-self : goal.invariant-loop-self
invariant-loop-self l =
    IsIndexed l.self-inside.declared.items (hash.get nat_eq l.self-inside.latest)
    × (take l.start (entries_of l.self-inside.declared.items) ≡ take l.start l.fn.self)

abbrev pub decreases-loop-self : goal.decreases-loop-self
decreases-loop-self l = vec_len l.self-inside.declared
