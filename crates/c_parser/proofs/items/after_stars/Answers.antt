use Rattle.std.proofs.Common.{[], ◌∷◌, drop, refl, sym, ◌∙◌, lit<}
use Rattle.c_grammar.specs.declared.words.Terminal.TheVariants as terminal
use Rattle.c_grammar.specs.Grammar.{AfterObject, AfterStars, L, Left, N}
use Rattle.c_parser.specs.Parts.{Moves}
use Rattle.c_grammar.specs.Steps.{OfSpecifier, Stars}
use Rattle.c_parser.proofs.NumberLemmas.{number_at}
use Rattle.c_parser.proofs.ItemLemmas.{name_number}
use Rattle.c_parser.proofs.Chains.{by_rule, read, stops_at, fails_so, moved_by_one, moved_then}
use Rattle.c_parser.proofs.items.after_stars.Goals as goal

pub returns-in_err-declarator-clause-refused : goal.returns-in_err-declarator-clause-refused
returns-in_err-declarator-clause-refused c =
    fails_so c.args.words.now c.args.spot (λ back. N (Left AfterStars) ∷ back) (Stars c.args.stars ∷ OfSpecifier c.args.specifier ∷ []) c.from_residual.result c.in_err-declarator.field-0.0 c.from_residual.ensures.1 (λ start all left values p.
    let p1 = by_rule (Left AfterStars) 1 (number_at (Left AfterStars) terminal.Open (λ w ws. refl) (drop c.args.spot.at c.args.words.now) (sym c.next_is.ensures ∙ c.if-next_is.true)) (lit< tt) p in
    c.in_err-declarator.ensures.refused.fails _ _ (N (Left AfterObject) ∷ left) _ p1)

pub returns-in_err-object-clause-refused : goal.returns-in_err-object-clause-refused
returns-in_err-object-clause-refused c =
    fails_so c.args.words.now c.args.spot (λ back. N (Left AfterStars) ∷ back) (Stars c.args.stars ∷ OfSpecifier c.args.specifier ∷ []) c.from_residual-in_err-object.result c.in_err-object.field-0.0 c.from_residual-in_err-object.ensures.1 (λ start all left values p.
    let p1 = by_rule (Left AfterStars) 1 (number_at (Left AfterStars) terminal.Open (λ w ws. refl) (drop c.args.spot.at c.args.words.now) (sym c.next_is.ensures ∙ c.if-next_is.true)) (lit< tt) p in
    let p2 = c.in_ok-declarator.ensures.read.grows _ _ (N (Left AfterObject) ∷ left) _ p1 in
    let m2 : Moves c.args.words.now c.args.spot c.in_ok-declarator.one = c.in_ok-declarator.ensures.read.moves in
    c.in_err-object.ensures.refused.fails _ _ left _ p2)

pub returns-then-next_is-clause-read : goal.returns-then-next_is-clause-read
returns-then-next_is-clause-read c =
    let m2 : Moves c.args.words.now c.args.spot c.in_ok-declarator.one = c.in_ok-declarator.ensures.read.moves in
    let m3 : Moves c.args.words.now c.args.spot c.in_ok-object.two = moved_then m2 (c.in_ok-object.ensures.read.moves) in
    record {
      grows = λ start all left values p.
          let p1 = by_rule (Left AfterStars) 1 (number_at (Left AfterStars) terminal.Open (λ w ws. refl) (drop c.args.spot.at c.args.words.now) (sym c.next_is.ensures ∙ c.if-next_is.true)) (lit< tt) p in
          let p2 = c.in_ok-declarator.ensures.read.grows _ _ (N (Left AfterObject) ∷ left) _ p1 in
          let p3 = c.in_ok-object.ensures.read.grows _ _ left _ p2 in
          p3;
      moves = m3;
    }

pub returns-in_err-word-clause-refused : goal.returns-in_err-word-clause-refused
returns-in_err-word-clause-refused c =
    fails_so c.args.words.now c.args.spot (λ back. N (Left AfterStars) ∷ back) (Stars c.args.stars ∷ OfSpecifier c.args.specifier ∷ []) c.from_residual-in_err-word.result c.in_err-word.field-0.0 c.from_residual-in_err-word.ensures.1 (λ start all left values p.
    let p14 = by_rule (Left AfterStars) 0 (name_number (drop c.args.spot.at c.args.words.now) (sym c.next_is.ensures ∙ c.if-next_is.false)) (lit< tt) p in
    stops_at (L terminal.Name ∷ []) _ c.in_err-word.field-0.0 p14 c.in_err-word.ensures.no_leaf)

pub returns-in_err-item-clause-refused : goal.returns-in_err-item-clause-refused
returns-in_err-item-clause-refused c =
    fails_so c.args.words.now c.args.spot (λ back. N (Left AfterStars) ∷ back) (Stars c.args.stars ∷ OfSpecifier c.args.specifier ∷ []) c.from_residual-in_err-item.result c.in_err-item.field-0.0 c.from_residual-in_err-item.ensures.1 (λ start all left values p.
    let p14 = by_rule (Left AfterStars) 0 (name_number (drop c.args.spot.at c.args.words.now) (sym c.next_is.ensures ∙ c.if-next_is.false)) (lit< tt) p in
    let p15 = read c.in_ok-word.ensures.leaf p14 in
    let m15 : Moves c.args.words.now c.args.spot c.in_ok-word.three = moved_by_one c.in_ok-word.ensures.place c.in_ok-word.ensures.more (c.requires.shallow.ended) in
    c.in_err-item.ensures.refused.fails _ _ left _ p15)

pub returns-clause-read : goal.returns-clause-read
returns-clause-read c =
    let m15 : Moves c.args.words.now c.args.spot c.in_ok-word.three = moved_by_one c.in_ok-word.ensures.place c.in_ok-word.ensures.more (c.requires.shallow.ended) in
    let m16 : Moves c.args.words.now c.args.spot c.in_ok-item.four = moved_then m15 (c.in_ok-item.ensures.read.moves) in
    record {
      grows = λ start all left values p.
          let p14 = by_rule (Left AfterStars) 0 (name_number (drop c.args.spot.at c.args.words.now) (sym c.next_is.ensures ∙ c.if-next_is.false)) (lit< tt) p in
          let p15 = read c.in_ok-word.ensures.leaf p14 in
          let p16 = c.in_ok-item.ensures.read.grows _ _ left _ p15 in
          p16;
      moves = m16;
    }
