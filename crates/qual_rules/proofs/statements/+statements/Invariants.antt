use Rattle.std.proofs.Common.{◌≡◌, ◌+◌, ◌*◌, ◌++◌, map, take, sum}
use Rattle.std.specs.List.{flat_map}
use Rattle.qual_rules.specs.Rules.{statement_constraints}
use Rattle.qual_rules.proofs.Counts.{statements_of}
use Rattle.qual_rules.proofs.statements.+statements.Given as goal

abbrev pub decreases-statement : goal.decreases-statement
decreases-statement l = 2 * statements_of l.s.now

abbrev pub decreases-statements : goal.decreases-statements
decreases-statements l = 2 * sum (map statements_of l.items.now) + 1

abbrev pub invariant-statements-loop-item : goal.invariant-statements-loop-item
invariant-statements-loop-item l =
    l.out.items ≡ l.initial.out.items ++ flat_map (λ s. statement_constraints s l.ret) (take l.item-index l.items)
