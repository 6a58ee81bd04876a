use Rattle.std.proofs.Common.{[], ◌∷◌, ◌≡◌, ◌-◌, length}
use Rattle.c_parser.specs.declared.spot.TheConstants.{NESTING}
use Rattle.c_grammar.specs.Grammar as form
use Rattle.c_grammar.specs.Grammar.{N}
use Rattle.c_parser.specs.Parts.{Moves, first_spot}
use Rattle.c_parser.specs.Paths.{Path}
use Rattle.c_grammar.specs.Steps.{Items}
use Rattle.c_parser.proofs.program.items_of.Given as goal

abbrev pub invariant-loop-alloc : goal.invariant-loop-alloc
invariant-loop-alloc l = record {
  path : Path NESTING l.words first_spot (N form.Program ∷ []) l.here (N form.Tops ∷ []) (Items l.items ∷ []);
  moves : Moves l.words first_spot l.here;
  none_ended : l.here.ended ≡ 0;
}

abbrev pub decreases-loop-alloc : goal.decreases-loop-alloc
decreases-loop-alloc l = length l.words - l.here.at
