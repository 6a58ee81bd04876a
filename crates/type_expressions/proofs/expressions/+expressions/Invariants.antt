use Rattle.std.proofs.Common.{◌≡◌, ◌+◌, ◌*◌, drop, map, fold, sum}
use Rattle.type_rules.specs.Expressions as def
use Rattle.type_expressions.proofs.Measures.{parts_in}
use Rattle.type_expressions.proofs.expressions.+expressions.Given as goal

abbrev pub decreases-type_of : goal.decreases-type_of
decreases-type_of l = 5 * parts_in l.e.now

abbrev pub decreases-argument : goal.decreases-argument
decreases-argument l = 5 * parts_in l.arg.now + 1

abbrev pub decreases-arguments : goal.decreases-arguments
decreases-arguments l = 5 * sum (map parts_in l.args.now) + 2

abbrev pub decreases-call : goal.decreases-call
decreases-call l = 5 * sum (map parts_in l.args.now) + 3

abbrev pub decreases-called : goal.decreases-called
decreases-called l = 5 * (parts_in l.callee.now + sum (map parts_in l.args.now)) + 4

abbrev pub decreases-prefixed : goal.decreases-prefixed
decreases-prefixed l = 5 * parts_in l.operand.now + 1

abbrev pub decreases-converted : goal.decreases-converted
decreases-converted l = 5 * parts_in l.operand.now + 1

abbrev pub decreases-infix : goal.decreases-infix
decreases-infix l = 5 * (parts_in l.left.now + parts_in l.right.now) + 1

abbrev pub decreases-chosen : goal.decreases-chosen
decreases-chosen l = 5 * (parts_in l.on.now + parts_in l.first.now + parts_in l.second.now) + 1

abbrev pub decreases-assigned : goal.decreases-assigned
decreases-assigned l = 5 * (parts_in l.to.now + parts_in l.from.now) + 1

abbrev pub decreases-element : goal.decreases-element
decreases-element l = 5 * (parts_in l.of.now + parts_in l.at.now) + 1

abbrev pub decreases-member_of : goal.decreases-member_of
decreases-member_of l = 5 * parts_in l.of.now + 1

abbrev pub decreases-member_behind : goal.decreases-member_behind
decreases-member_behind l = 5 * parts_in l.of.now + 1

abbrev pub invariant-arguments-loop-i : goal.invariant-arguments-loop-i
invariant-arguments-loop-i l =
    fold (def.next_argument l.known l.types) (record { done = l.i; nodes = l.nodes; whole = l.whole; notes = l.notes }) (map def.type_of (drop l.i l.args))
    ≡ def.arguments l.known l.types (map def.type_of l.args) l.initial.notes
