use Rattle.std.proofs.Common.{[], ◌∷◌, ◌+◌, ◌-◌, ◌*◌, ◌≤◌, length}
use Rattle.c_parser.specs.declared.spot.TheConstants.{NESTING}
use Rattle.c_grammar.specs.Grammar as form
use Rattle.c_grammar.specs.Grammar.{N}
use Rattle.c_parser.specs.Operators.{operands_between}
use Rattle.c_parser.specs.Parts.{Moves, Turns}
use Rattle.c_parser.specs.Paths.{Path}
use Rattle.c_grammar.specs.Steps.{Arguments, OfExpression}
use Rattle.c_parser.proofs.expressions.+expressions.Given as goal

abbrev pub decreases-after_unary : goal.decreases-after_unary
decreases-after_unary l = 16 * (length l.words.now - l.spot.at) + 9

abbrev pub decreases-arguments : goal.decreases-arguments
decreases-arguments l = 16 * (length l.words.now - l.spot.at) + 10

abbrev pub decreases-assign : goal.decreases-assign
decreases-assign l = 16 * (length l.words.now - l.spot.at) + 8

abbrev pub decreases-assigned : goal.decreases-assigned
decreases-assigned l = 16 * (length l.words.now - l.spot.at) + 0

abbrev pub decreases-bracket : goal.decreases-bracket
decreases-bracket l = 16 * (length l.words.now - l.spot.at) + 0

abbrev pub decreases-call : goal.decreases-call
decreases-call l = 16 * (length l.words.now - l.spot.at) + 0

abbrev pub decreases-cast : goal.decreases-cast
decreases-cast l = 16 * (length l.words.now - l.spot.at) + 6

abbrev pub decreases-choice : goal.decreases-choice
decreases-choice l = 16 * (length l.words.now - l.spot.at) + 0

abbrev pub decreases-conditional : goal.decreases-conditional
decreases-conditional l = 16 * (length l.words.now - l.spot.at) + 7

abbrev pub decreases-expression : goal.decreases-expression
decreases-expression l = 16 * (length l.words.now - l.spot.at) + 9

abbrev pub decreases-index : goal.decreases-index
decreases-index l = 16 * (length l.words.now - l.spot.at) + 0

abbrev pub decreases-infix : goal.decreases-infix
decreases-infix l = 16 * (length l.words.now - l.spot.at) + 2

abbrev pub decreases-operand : goal.decreases-operand
decreases-operand l = 16 * (length l.words.now - l.spot.at) + 7

abbrev pub decreases-operands : goal.decreases-operands
decreases-operands l = 16 * (length l.words.now - l.spot.at) + 3

abbrev pub decreases-postfix : goal.decreases-postfix
decreases-postfix l = 16 * (length l.words.now - l.spot.at) + 4

abbrev pub decreases-prefixed : goal.decreases-prefixed
decreases-prefixed l = 16 * (length l.words.now - l.spot.at) + 0

abbrev pub decreases-primary : goal.decreases-primary
decreases-primary l = 16 * (length l.words.now - l.spot.at) + 1

abbrev pub decreases-rest : goal.decreases-rest
decreases-rest l = 16 * (length l.words.now - l.spot.at) + 8

abbrev pub decreases-suffix : goal.decreases-suffix
decreases-suffix l = 16 * (length l.words.now - l.spot.at) + 2

abbrev pub decreases-suffixes : goal.decreases-suffixes
decreases-suffixes l = 16 * (length l.words.now - l.spot.at) + 3

abbrev pub decreases-typed : goal.decreases-typed
decreases-typed l = 16 * (length l.words.now - l.spot.at) + 0

abbrev pub decreases-unary : goal.decreases-unary
decreases-unary l = 16 * (length l.words.now - l.spot.at) + 5

abbrev pub invariant-arguments-loop-alloc : goal.invariant-arguments-loop-alloc
invariant-arguments-loop-alloc l = record {
  path : Path NESTING l.words l.fn.spot (N form.Arguments ∷ []) l.here (N form.MoreArguments ∷ []) (Arguments l.arguments ∷ []);
  moves : Moves l.words l.fn.spot l.here;
}

abbrev pub decreases-arguments-loop-alloc : goal.decreases-arguments-loop-alloc
decreases-arguments-loop-alloc l = length l.words - l.here.at

abbrev pub invariant-operands-loop-operator : goal.invariant-operands-loop-operator
invariant-operands-loop-operator l = record {
  turned : Turns l.words l.fn.spot (operands_between 0 l.fn.bound) (OfExpression l.fn.left) l.here (operands_between l.passed l.fn.bound) (OfExpression l.whole);
  low : l.passed ≤ l.fn.bound;
}

abbrev pub decreases-operands-loop-operator : goal.decreases-operands-loop-operator
decreases-operands-loop-operator l = length l.words - l.here.at

abbrev pub invariant-suffixes-loop-alloc : goal.invariant-suffixes-loop-alloc
invariant-suffixes-loop-alloc l =
    Turns l.words l.fn.spot (λ back. N form.Suffixes ∷ back) (OfExpression l.fn.left) l.here (λ back. N form.Suffixes ∷ back) (OfExpression l.whole)

abbrev pub decreases-suffixes-loop-alloc : goal.decreases-suffixes-loop-alloc
decreases-suffixes-loop-alloc l = length l.words - l.here.at
