use Rattle.std.proofs.Common.{[], ◌∷◌, ◌≡◌, ◌+◌, ◌-◌, ◌*◌, ◌≤◌, length}
use Rattle.c_parser.specs.declared.spot.TheConstants.{NESTING}
use Rattle.c_grammar.specs.Grammar.{N, M, ParameterTypes, MoreTypes, Out}
use Rattle.c_parser.specs.Paths.{Path}
use Rattle.c_grammar.specs.Steps.{Types}
use Rattle.c_parser.proofs.type_names.+type_names.Given as goal

abbrev pub decreases-perhaps_pointer : goal.decreases-perhaps_pointer
decreases-perhaps_pointer l = 4 * (length l.words.now - l.spot.at)

abbrev pub decreases-type_name : goal.decreases-type_name
decreases-type_name l = 4 * (length l.words.now - l.spot.at) + 1

abbrev pub decreases-parameter_types : goal.decreases-parameter_types
decreases-parameter_types l = 4 * (length l.words.now - l.spot.at) + 2

abbrev pub invariant-parameter_types-loop-alloc : goal.invariant-parameter_types-loop-alloc
invariant-parameter_types-loop-alloc l = record {
  path : Path NESTING l.words l.fn.spot (N ParameterTypes ∷ []) l.here (N MoreTypes ∷ M Out ∷ []) (Types l.types ∷ []);
  on : l.fn.spot.at ≤ l.here.at;
  within : l.here.at ≤ length l.words;
  depth : l.here.depth ≡ l.fn.spot.depth + 1;
  ended : l.here.ended ≡ l.fn.spot.ended;
  stars : l.here.stars ≡ 0;
}

abbrev pub decreases-parameter_types-loop-alloc : goal.decreases-parameter_types-loop-alloc
decreases-parameter_types-loop-alloc l = length l.words - l.here.at
