use Rattle.std.proofs.Common.{[], ◌∷◌, ◌≡◌, ◌+◌, ◌-◌, ◌*◌, ◌<◌, length}
use Rattle.c_grammar.specs.declared.words.Terminal.TheVariants as terminal
use Rattle.c_parser.specs.declared.spot.TheConstants.{NESTING}
use Rattle.c_grammar.specs.Grammar as form
use Rattle.c_grammar.specs.Grammar.{N, T, B}
use Rattle.c_parser.specs.Parts.{Moves}
use Rattle.c_parser.specs.Paths.{Path}
use Rattle.c_grammar.specs.Steps.{BlockItems, MakeBlock, Place}
use Rattle.c_parser.proofs.statements.+statements.Given as goal

abbrev pub decreases-block : goal.decreases-block
decreases-block l = 8 * (length l.words.now - l.spot.at) + 1

abbrev pub decreases-block_item : goal.decreases-block_item
decreases-block_item l = 8 * (length l.words.now - l.spot.at) + 4

abbrev pub decreases-branching : goal.decreases-branching
decreases-branching l = 8 * (length l.words.now - l.spot.at) + 0

abbrev pub decreases-do_loop : goal.decreases-do_loop
decreases-do_loop l = 8 * (length l.words.now - l.spot.at) + 0

abbrev pub decreases-for_loop : goal.decreases-for_loop
decreases-for_loop l = 8 * (length l.words.now - l.spot.at) + 0

abbrev pub decreases-kind : goal.decreases-kind
decreases-kind l = 8 * (length l.words.now - l.spot.at) + 2

abbrev pub decreases-statement : goal.decreases-statement
decreases-statement l = 8 * (length l.words.now - l.spot.at) + 3

abbrev pub decreases-while_loop : goal.decreases-while_loop
decreases-while_loop l = 8 * (length l.words.now - l.spot.at) + 0

abbrev pub invariant-block-loop-alloc : goal.invariant-block-loop-alloc
invariant-block-loop-alloc l = record {
  path : Path NESTING l.words l.fn.spot (N form.Block ∷ []) l.here (N form.BlockItems ∷ T terminal.CloseBrace ∷ B MakeBlock ∷ []) (BlockItems l.items ∷ Place l.place ∷ []);
  moves : Moves l.words l.fn.spot l.here;
  none_ended : l.here.ended ≡ 0;
  on : l.fn.spot.at < l.here.at;
}

abbrev pub decreases-block-loop-alloc : goal.decreases-block-loop-alloc
decreases-block-loop-alloc l = length l.words - l.here.at
