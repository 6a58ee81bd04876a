use Rattle.std.proofs.Common.{[], ◌∷◌, drop, true, false, refl, sym, ◌∙◌, lit<}
use Rattle.c_grammar.specs.Grammar as form
use Rattle.c_grammar.specs.Grammar.{AfterUnary, B, CountOperator, Here, In, L, Left, M, N, Out, T, Symbol, operand, prefix}
use Rattle.c_grammar.specs.Steps.{First, OfMember}
use Rattle.c_parser.proofs.StructureLemmas.{members_number}
use Rattle.c_parser.proofs.Chains.{stays, by_rule, read, made, stops_at, halts_so, moved_then}
use Rattle.c_parser.proofs.structures.more_members.Goals as goal

pub loop-alloc-init : goal.loop-alloc-init
loop-alloc-init c = record {
  turned = record {
    turns = λ start all left values p. rw (c.in_ok-push.ensures.ok, c.new-members.ensures) (made (λ built. refl) p);
    moves = stays c.requires.shallow.ended c.requires.ready.within;
  };
  none_ended = c.requires.none_ended;
}

pub returns-in_err-next-clause-refused : goal.returns-in_err-next-clause-refused
returns-in_err-next-clause-refused c =
    halts_so c.args.words.now c.args.spot (λ back. B First ∷ N form.Members ∷ back) (OfMember c.args.first) c.from_residual-in_err-next.result c.in_err-next.field-0.0 c.from_residual-in_err-next.ensures.1 (λ start all left values p.
    let p1 = by_rule form.Members 0 (members_number (drop c.loop-alloc.here.at c.args.words.now) true (sym c.begins_type.ensures ∙ c.loop-alloc-test.true)) (lit< tt) (c.loop-alloc.invariant.turned.turns start all left values p) in
    stops_at (N form.Member ∷ []) _ c.in_err-next.field-0.0 p1 c.in_err-next.ensures.refused)

pub loop-alloc-preserved : goal.loop-alloc-preserved
loop-alloc-preserved c = record {
  turned = record {
    turns = λ start all left values p.
        let p1 = by_rule form.Members 0 (members_number (drop c.loop-alloc.here.at c.args.words.now) true (sym c.begins_type.ensures ∙ c.loop-alloc-test.true)) (lit< tt) (c.loop-alloc.invariant.turned.turns start all left values p) in
        rw c.in_ok-push-2.ensures.ok (made (λ built. refl) (read c.in_ok-next.ensures.read.leads p1));
    moves = moved_then c.loop-alloc.invariant.turned.moves c.in_ok-next.ensures.read.moves;
  };
  none_ended = c.in_ok-next.ensures.none_ended;
}

pub returns-clause-read : goal.returns-clause-read
returns-clause-read c = record {
  turns = λ start all left values p. by_rule form.Members 1 (members_number (drop c.loop-alloc.here.at c.args.words.now) false (sym c.begins_type.ensures ∙ c.loop-alloc-test.false)) (lit< tt) (c.loop-alloc.invariant.turned.turns start all left values p);
  moves = c.loop-alloc.invariant.turned.moves;
}
