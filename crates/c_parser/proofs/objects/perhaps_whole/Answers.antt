use Rattle.std.proofs.Common.{[], ◌∷◌, drop, true, false, refl, sym, ◌∙◌, lit<}
use Rattle.c_grammar.specs.Grammar as form
use Rattle.c_grammar.specs.Grammar.{AfterUnary, B, CountOperator, Here, In, L, Left, M, N, Out, T, Symbol, operand, prefix}
use Rattle.c_parser.specs.Parts.{Moves}
use Rattle.c_parser.proofs.ObjectLemmas.{perhaps_whole_number}
use Rattle.c_parser.proofs.Chains.{stays, starts, by_rule, read, made, exits}
use Rattle.c_parser.proofs.objects.perhaps_whole.Goals as goal

pub returns-in_err-value-clause-refused : goal.returns-in_err-value-clause-refused
returns-in_err-value-clause-refused c =
    let p1 = by_rule form.PerhapsWhole 0 (perhaps_whole_number (drop c.args.spot.at c.args.words.now) true (sym c.begins_expression.ensures ∙ c.if-not-begins_expression.false)) (lit< tt) (starts c.args.words.now c.args.spot (N form.PerhapsWhole ∷ [])) in
    exits (N form.Whole ∷ []) _ c.from_residual.result c.in_err-value.field-0.0 c.from_residual.ensures.1 p1 c.in_err-value.ensures.refused

pub returns-clause-read : goal.returns-clause-read
returns-clause-read c =
    let p1 = by_rule form.PerhapsWhole 0 (perhaps_whole_number (drop c.args.spot.at c.args.words.now) true (sym c.begins_expression.ensures ∙ c.if-not-begins_expression.false)) (lit< tt) (starts c.args.words.now c.args.spot (N form.PerhapsWhole ∷ [])) in
    let p2 = read c.in_ok-value.ensures.read.leads p1 in
    let m2 : Moves c.args.words.now c.args.spot c.in_ok-value.one = c.in_ok-value.ensures.read.moves in
    record { leads = rw c.in_ok-value-2.ensures (made (λ built. refl) p2); moves = m2 }

pub returns-then-not-begins_expression-clause-read : goal.returns-then-not-begins_expression-clause-read
returns-then-not-begins_expression-clause-read c = record {
  leads = made (λ built. refl) (by_rule form.PerhapsWhole 1 (perhaps_whole_number (drop c.args.spot.at c.args.words.now) false (sym c.begins_expression.ensures ∙ c.if-not-begins_expression.true)) (lit< tt) (starts c.args.words.now c.args.spot (N form.PerhapsWhole ∷ [])));
  moves = stays c.requires.shallow.ended c.requires.ready.within;
}
