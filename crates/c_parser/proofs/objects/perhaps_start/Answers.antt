use Rattle.std.proofs.Common.{[], ◌∷◌, drop, true, false, refl, sym, ◌∙◌, lit<}
use Rattle.c_grammar.specs.declared.words.Terminal.TheVariants as terminal
use Rattle.c_grammar.specs.Grammar as form
use Rattle.c_grammar.specs.Grammar.{AfterUnary, B, CountOperator, Here, In, L, Left, M, N, Out, T, Symbol, operand, prefix}
use Rattle.c_parser.specs.Parts.{Moves}
use Rattle.c_parser.proofs.NumberLemmas.{number_else}
use Rattle.c_parser.proofs.Chains.{stays, starts, by_rule, read, made, exits, moved_by_one, moved_then}
use Rattle.c_parser.proofs.objects.perhaps_start.Goals as goal

pub returns-in_err-one-clause-refused : goal.returns-in_err-one-clause-refused
returns-in_err-one-clause-refused c =
    let p1 = by_rule form.PerhapsStart 0 (number_else form.PerhapsStart terminal.Equals (λ w ws. refl) refl (drop c.args.spot.at c.args.words.now) true (sym c.next_is.ensures ∙ c.if-not-next_is.false)) (lit< tt) (starts c.args.words.now c.args.spot (N form.PerhapsStart ∷ [])) in
    exits (T terminal.Equals ∷ []) _ c.from_residual.result c.in_err-one.field-0.0 c.from_residual.ensures.1 p1 c.in_err-one.ensures.no_token

pub returns-in_err-value-clause-refused : goal.returns-in_err-value-clause-refused
returns-in_err-value-clause-refused c =
    let p1 = by_rule form.PerhapsStart 0 (number_else form.PerhapsStart terminal.Equals (λ w ws. refl) refl (drop c.args.spot.at c.args.words.now) true (sym c.next_is.ensures ∙ c.if-not-next_is.false)) (lit< tt) (starts c.args.words.now c.args.spot (N form.PerhapsStart ∷ [])) in
    let p2 = read c.in_ok-one.ensures.token p1 in
    let m2 : Moves c.args.words.now c.args.spot c.in_ok-one.one = moved_by_one c.in_ok-one.ensures.place c.in_ok-one.ensures.more (c.requires.shallow.ended) in
    exits (N form.Whole ∷ []) _ c.from_residual-in_err-value.result c.in_err-value.field-0.0 c.from_residual-in_err-value.ensures.1 p2 c.in_err-value.ensures.refused

pub returns-clause-read : goal.returns-clause-read
returns-clause-read c =
    let p1 = by_rule form.PerhapsStart 0 (number_else form.PerhapsStart terminal.Equals (λ w ws. refl) refl (drop c.args.spot.at c.args.words.now) true (sym c.next_is.ensures ∙ c.if-not-next_is.false)) (lit< tt) (starts c.args.words.now c.args.spot (N form.PerhapsStart ∷ [])) in
    let p2 = read c.in_ok-one.ensures.token p1 in
    let m2 : Moves c.args.words.now c.args.spot c.in_ok-one.one = moved_by_one c.in_ok-one.ensures.place c.in_ok-one.ensures.more (c.requires.shallow.ended) in
    let p3 = read c.in_ok-value.ensures.read.leads p2 in
    let m3 : Moves c.args.words.now c.args.spot c.in_ok-value.two = moved_then m2 (c.in_ok-value.ensures.read.moves) in
    record { leads = rw c.in_ok-value-2.ensures (made (λ built. refl) p3); moves = m3 }

pub returns-then-not-next_is-clause-read : goal.returns-then-not-next_is-clause-read
returns-then-not-next_is-clause-read c = record {
  leads = made (λ built. refl) (by_rule form.PerhapsStart 1 (number_else form.PerhapsStart terminal.Equals (λ w ws. refl) refl (drop c.args.spot.at c.args.words.now) false (sym c.next_is.ensures ∙ c.if-not-next_is.true)) (lit< tt) (starts c.args.words.now c.args.spot (N form.PerhapsStart ∷ [])));
  moves = stays c.requires.shallow.ended c.requires.ready.within;
}
