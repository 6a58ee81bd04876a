use Rattle.std.proofs.Common.{[], ◌∷◌, ◌≡◌, ◌+◌, ◌-◌, ◌≤◌, length}
use Rattle.c_parser.specs.declared.spot.TheConstants.{NESTING}
use Rattle.c_grammar.specs.Grammar.{N, M, Pointer, MoreStars, ForgetStars}
use Rattle.c_parser.specs.Paths.{Path}
use Rattle.c_grammar.specs.Steps.{Stars}
use Rattle.c_parser.proofs.types.pointer.Given as goal

abbrev pub invariant-loop-here : goal.invariant-loop-here
invariant-loop-here l = record {
  path : Path NESTING l.words l.fn.spot (N Pointer ∷ []) l.here (N MoreStars ∷ M ForgetStars ∷ []) (Stars l.stars ∷ []);
  on : l.fn.spot.at ≤ l.here.at;
  within : l.here.at ≤ length l.words;
  depth : l.here.depth ≡ l.fn.spot.depth;
  ended : l.here.ended ≡ l.fn.spot.ended;
  few : l.here.stars ≤ NESTING + 1;
}

abbrev pub decreases-loop-here : goal.decreases-loop-here
decreases-loop-here l = length l.words - l.here.at
