use Rattle.std.proofs.Common.{◌∷◌, ◌≡◌, ◌-◌, length}
use Rattle.c_grammar.specs.Grammar as form
use Rattle.c_grammar.specs.Grammar.{N, B}
use Rattle.c_parser.specs.Parts.{Turns}
use Rattle.c_grammar.specs.Steps.{Members, OfMember, First}
use Rattle.c_parser.proofs.structures.more_members.Given as goal

abbrev pub invariant-loop-alloc : goal.invariant-loop-alloc
invariant-loop-alloc l = record {
  turned : Turns l.words l.fn.spot (λ back. B First ∷ N form.Members ∷ back) (OfMember l.fn.first) l.here (λ back. N form.Members ∷ back) (Members l.members);
  none_ended : l.here.ended ≡ 0;
}

abbrev pub decreases-loop-alloc : goal.decreases-loop-alloc
decreases-loop-alloc l = length l.words - l.here.at
