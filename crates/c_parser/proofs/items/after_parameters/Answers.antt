use Rattle.std.proofs.Common.{[], ◌∷◌, drop, refl, sym, ◌∙◌, lit<}
use Rattle.c_grammar.specs.declared.words.Terminal.TheVariants as terminal
use Rattle.c_grammar.specs.Grammar as form
use Rattle.c_grammar.specs.Grammar.{AfterUnary, AfterName, AfterObject, AfterParameters, AfterStars, B, CountOperator, Here, In, L, Left, M, N, Out, T, Symbol, operand, prefix}
use Rattle.c_parser.specs.Parts.{Moves}
use Rattle.c_grammar.specs.Steps.{OfSpecifier, Stars, Leaf, Parameters}
use Rattle.c_parser.proofs.NumberLemmas.{number_at}
use Rattle.c_parser.proofs.ItemLemmas.{no_body_number}
use Rattle.c_parser.proofs.Chains.{by_rule, read, made, entered, leaves, stops_at, fails_so, moved_by_one, moved_inside}
use Rattle.c_parser.proofs.items.after_parameters.Goals as goal

pub returns-in_err-one-clause-refused : goal.returns-in_err-one-clause-refused
returns-in_err-one-clause-refused c =
    fails_so c.args.words.now c.args.spot (λ back. N (Left AfterParameters) ∷ back) (Parameters c.args.header.parameters ∷ Leaf c.args.header.place c.args.header.name ∷ Stars c.args.header.stars ∷ OfSpecifier c.args.header.specifier ∷ []) c.from_residual.result c.in_err-one.field-0.0 c.from_residual.ensures.1 (λ start all left values p.
    let p1 = by_rule (Left AfterParameters) 0 (no_body_number (drop c.args.spot.at c.args.words.now) (sym c.next_is.ensures ∙ c.if-not-next_is.true)) (lit< tt) p in
    stops_at (T terminal.Semicolon ∷ []) _ c.in_err-one.field-0.0 p1 c.in_err-one.ensures.no_token)

pub returns-then-not-next_is-clause-read : goal.returns-then-not-next_is-clause-read
returns-then-not-next_is-clause-read c =
    let m2 : Moves c.args.words.now c.args.spot c.in_ok-one.one = moved_by_one c.in_ok-one.ensures.place c.in_ok-one.ensures.more (c.requires.shallow.ended) in
    record {
      grows = λ start all left values p.
          let p1 = by_rule (Left AfterParameters) 0 (no_body_number (drop c.args.spot.at c.args.words.now) (sym c.next_is.ensures ∙ c.if-not-next_is.true)) (lit< tt) p in
          let p2 = read c.in_ok-one.ensures.token p1 in
          made (λ built. refl) p2;
      moves = m2;
    }

pub returns-in_err-body-clause-refused : goal.returns-in_err-body-clause-refused
returns-in_err-body-clause-refused c =
    fails_so c.args.words.now c.args.spot (λ back. N (Left AfterParameters) ∷ back) (Parameters c.args.header.parameters ∷ Leaf c.args.header.place c.args.header.name ∷ Stars c.args.header.stars ∷ OfSpecifier c.args.header.specifier ∷ []) c.from_residual-in_err-body.result c.in_err-body.field-0.0 c.from_residual-in_err-body.ensures.1 (λ start all left values p.
    let p13 = by_rule (Left AfterParameters) 1 (number_at (Left AfterParameters) terminal.OpenBrace (λ w ws. refl) (drop c.args.spot.at c.args.words.now) (sym c.next_is.ensures ∙ c.if-not-next_is.false)) (lit< tt) p in
    let p14 = entered p13 in
    stops_at (N form.Block ∷ []) _ c.in_err-body.field-0.0 p14 c.in_err-body.ensures.refused)

pub returns-clause-read : goal.returns-clause-read
returns-clause-read c =
    record {
      grows = λ start all left values p.
          let p13 = by_rule (Left AfterParameters) 1 (number_at (Left AfterParameters) terminal.OpenBrace (λ w ws. refl) (drop c.args.spot.at c.args.words.now) (sym c.next_is.ensures ∙ c.if-not-next_is.false)) (lit< tt) p in
          let p14 = entered p13 in
          let p15 = read c.in_ok-body.ensures.read.leads p14 in
          let p16 = leaves c.args.spot.depth c.in_ok-body.ensures.read.moves.depth p15 in
          made (λ built. refl) p16;
      moves = moved_inside c.in_ok-body.ensures.read.moves;
    }
