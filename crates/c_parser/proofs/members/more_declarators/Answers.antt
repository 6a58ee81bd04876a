use Rattle.std.proofs.Common.{[], ◌∷◌, drop, true, false, refl, sym, ap, ◌∙◌, lit<}
use Rattle.c_grammar.specs.declared.words.Terminal.TheVariants as terminal
use Rattle.c_grammar.specs.Grammar as form
use Rattle.c_grammar.specs.Grammar.{AfterUnary, B, CountOperator, Here, In, L, Left, M, N, Out, T, Symbol, operand, prefix}
use Rattle.c_parser.specs.Parts.{Moves}
use Rattle.c_grammar.specs.Steps.{First, OfDeclarator}
use Rattle.c_parser.proofs.NumberLemmas.{number_else}
use Rattle.c_parser.proofs.Chains.{stays, by_rule, read, made, stops_at, halts_so, moved_by_one, moved_by_form, moved_then}
use Rattle.c_parser.proofs.members.more_declarators.Goals as goal

pub loop-alloc-init : goal.loop-alloc-init
loop-alloc-init c = record {
  turned = record {
    turns = λ start all left values p. rw (c.in_ok-push.ensures.ok, c.new-declarators.ensures) (made (λ built. refl) p);
    moves = stays c.requires.shallow.ended c.requires.ready.within;
  };
  none_ended = c.requires.none_ended;
}

pub returns-in_err-one-clause-refused : goal.returns-in_err-one-clause-refused
returns-in_err-one-clause-refused c =
    halts_so c.args.words.now c.args.spot (λ back. B First ∷ N form.MoreDeclarators ∷ back) (OfDeclarator c.args.first) c.from_residual-in_err-one.result c.in_err-one.field-0.0 c.from_residual-in_err-one.ensures.1 (λ start all left values p.
    let p1 = by_rule form.MoreDeclarators 0 (number_else form.MoreDeclarators terminal.Comma (λ w ws. refl) refl (drop c.loop-alloc.here.at c.args.words.now) true (sym c.next_is.ensures ∙ c.loop-alloc-test.true)) (lit< tt) (c.loop-alloc.invariant.turned.turns start all left values p) in
    stops_at (T terminal.Comma ∷ []) _ c.in_err-one.field-0.0 p1 c.in_err-one.ensures.no_token)

pub returns-in_err-next-clause-refused : goal.returns-in_err-next-clause-refused
returns-in_err-next-clause-refused c =
    halts_so c.args.words.now c.args.spot (λ back. B First ∷ N form.MoreDeclarators ∷ back) (OfDeclarator c.args.first) c.from_residual-in_err-next.result c.in_err-next.field-0.0 c.from_residual-in_err-next.ensures.1 (λ start all left values p.
    let p1 = read c.in_ok-one.ensures.token (by_rule form.MoreDeclarators 0 (number_else form.MoreDeclarators terminal.Comma (λ w ws. refl) refl (drop c.loop-alloc.here.at c.args.words.now) true (sym c.next_is.ensures ∙ c.loop-alloc-test.true)) (lit< tt) (c.loop-alloc.invariant.turned.turns start all left values p)) in
    stops_at (N form.Declarator ∷ []) _ c.in_err-next.field-0.0 p1 c.in_err-next.ensures.refused)

pub loop-alloc-preserved : goal.loop-alloc-preserved
loop-alloc-preserved c =
    let known = c.loop-alloc.invariant.turned.moves in
    let after : Moves c.args.words.now c.args.spot c.in_ok-one.one = moved_then known (moved_by_one c.in_ok-one.ensures.place c.in_ok-one.ensures.more known.ended) in
    record {
      turned = record {
        turns = λ start all left values p.
            let p1 = read c.in_ok-one.ensures.token (by_rule form.MoreDeclarators 0 (number_else form.MoreDeclarators terminal.Comma (λ w ws. refl) refl (drop c.loop-alloc.here.at c.args.words.now) true (sym c.next_is.ensures ∙ c.loop-alloc-test.true)) (lit< tt) (c.loop-alloc.invariant.turned.turns start all left values p)) in
            rw c.in_ok-push-2.ensures.ok (made (λ built. refl) (read c.in_ok-next.ensures.read.leads p1));
        moves = moved_then after (moved_by_form c.in_ok-next.ensures.read after.ended);
      };
      none_ended = ap (λ s. s.ended) c.in_ok-next.ensures.read.same ∙ ap (λ s. s.ended) c.in_ok-one.ensures.place ∙ c.loop-alloc.invariant.none_ended;
    }

pub returns-clause-read : goal.returns-clause-read
returns-clause-read c = record {
  turns = λ start all left values p. by_rule form.MoreDeclarators 1 (number_else form.MoreDeclarators terminal.Comma (λ w ws. refl) refl (drop c.loop-alloc.here.at c.args.words.now) false (sym c.next_is.ensures ∙ c.loop-alloc-test.false)) (lit< tt) (c.loop-alloc.invariant.turned.turns start all left values p);
  moves = c.loop-alloc.invariant.turned.moves;
}
