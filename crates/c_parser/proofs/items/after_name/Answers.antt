use Rattle.std.proofs.Common.{[], ◌∷◌, drop, refl, sym, ◌∙◌, lit<}
use Rattle.c_grammar.specs.declared.words.Terminal.TheVariants as terminal
use Rattle.c_grammar.specs.Grammar as form
use Rattle.c_grammar.specs.Grammar.{AfterUnary, AfterName, AfterObject, AfterParameters, AfterStars, B, CountOperator, Here, In, L, Left, M, N, Out, T, Symbol, operand, prefix}
use Rattle.c_parser.specs.Parts.{Moves}
use Rattle.c_grammar.specs.Steps.{OfSpecifier, Stars, Leaf, OfDeclarator}
use Rattle.c_parser.proofs.ItemLemmas.{plain_number, called_number}
use Rattle.c_parser.proofs.Chains.{by_rule, read, made, stops_at, fails_so, moved_by_one, moved_by_form, moved_then}
use Rattle.c_parser.proofs.items.after_name.Goals as goal

pub returns-in_err-shape-clause-refused : goal.returns-in_err-shape-clause-refused
returns-in_err-shape-clause-refused c =
    fails_so c.args.words.now c.args.spot (λ back. N (Left AfterName) ∷ back) (Leaf c.args.place c.args.name ∷ Stars c.args.stars ∷ OfSpecifier c.args.specifier ∷ []) c.from_residual.result c.in_err-shape.field-0.0 c.from_residual.ensures.1 (λ start all left values p.
    let p1 = by_rule (Left AfterName) 1 (plain_number (drop c.args.spot.at c.args.words.now) (sym c.object_next.ensures ∙ c.if-object_next.true)) (lit< tt) p in
    stops_at (N form.PerhapsLength ∷ []) _ c.in_err-shape.field-0.0 p1 c.in_err-shape.ensures.refused)

pub returns-in_err-object-clause-refused : goal.returns-in_err-object-clause-refused
returns-in_err-object-clause-refused c =
    fails_so c.args.words.now c.args.spot (λ back. N (Left AfterName) ∷ back) (Leaf c.args.place c.args.name ∷ Stars c.args.stars ∷ OfSpecifier c.args.specifier ∷ []) c.from_residual-in_err-object.result c.in_err-object.field-0.0 c.from_residual-in_err-object.ensures.1 (λ start all left values p.
    let p1 = by_rule (Left AfterName) 1 (plain_number (drop c.args.spot.at c.args.words.now) (sym c.object_next.ensures ∙ c.if-object_next.true)) (lit< tt) p in
    let p2 = read c.in_ok-shape.ensures.read.leads p1 in
    let m2 : Moves c.args.words.now c.args.spot c.in_ok-shape.five = moved_by_form c.in_ok-shape.ensures.read (c.requires.shallow.ended) in
    let p3 = made {built_new = OfDeclarator (record { name = c.args.name; place = c.args.place; stars = c.args.stars; shape = c.in_ok-shape.shape }) ∷ OfSpecifier c.args.specifier ∷ values} (λ built. refl) p2 in
    c.in_err-object.ensures.refused.fails _ _ left _ p3)

pub returns-then-object_next-clause-read : goal.returns-then-object_next-clause-read
returns-then-object_next-clause-read c =
    let m2 : Moves c.args.words.now c.args.spot c.in_ok-shape.five = moved_by_form c.in_ok-shape.ensures.read (c.requires.shallow.ended) in
    let m4 : Moves c.args.words.now c.args.spot c.in_ok-object.six = moved_then m2 (c.in_ok-object.ensures.read.moves) in
    record {
      grows = λ start all left values p.
          let p1 = by_rule (Left AfterName) 1 (plain_number (drop c.args.spot.at c.args.words.now) (sym c.object_next.ensures ∙ c.if-object_next.true)) (lit< tt) p in
          let p2 = read c.in_ok-shape.ensures.read.leads p1 in
          let p3 = made {built_new = OfDeclarator (record { name = c.args.name; place = c.args.place; stars = c.args.stars; shape = c.in_ok-shape.shape }) ∷ OfSpecifier c.args.specifier ∷ values} (λ built. refl) p2 in
          let p4 = c.in_ok-object.ensures.read.grows _ _ left _ p3 in
          p4;
      moves = m4;
    }

pub returns-in_err-one-clause-refused : goal.returns-in_err-one-clause-refused
returns-in_err-one-clause-refused c =
    fails_so c.args.words.now c.args.spot (λ back. N (Left AfterName) ∷ back) (Leaf c.args.place c.args.name ∷ Stars c.args.stars ∷ OfSpecifier c.args.specifier ∷ []) c.from_residual-in_err-one.result c.in_err-one.field-0.0 c.from_residual-in_err-one.ensures.1 (λ start all left values p.
    let p15 = by_rule (Left AfterName) 0 (called_number (drop c.args.spot.at c.args.words.now) (sym c.object_next.ensures ∙ c.if-object_next.false)) (lit< tt) p in
    stops_at (T terminal.Open ∷ []) _ c.in_err-one.field-0.0 p15 c.in_err-one.ensures.no_token)

pub returns-in_err-parameters-clause-refused : goal.returns-in_err-parameters-clause-refused
returns-in_err-parameters-clause-refused c =
    fails_so c.args.words.now c.args.spot (λ back. N (Left AfterName) ∷ back) (Leaf c.args.place c.args.name ∷ Stars c.args.stars ∷ OfSpecifier c.args.specifier ∷ []) c.from_residual-in_err-parameters.result c.in_err-parameters.field-0.0 c.from_residual-in_err-parameters.ensures.1 (λ start all left values p.
    let p15 = by_rule (Left AfterName) 0 (called_number (drop c.args.spot.at c.args.words.now) (sym c.object_next.ensures ∙ c.if-object_next.false)) (lit< tt) p in
    let p16 = read c.in_ok-one.ensures.token p15 in
    let m16 : Moves c.args.words.now c.args.spot c.in_ok-one.one = moved_by_one c.in_ok-one.ensures.place c.in_ok-one.ensures.more (c.requires.shallow.ended) in
    stops_at (N form.Parameters ∷ []) _ c.in_err-parameters.field-0.0 p16 c.in_err-parameters.ensures.refused)

pub returns-in_err-three-clause-refused : goal.returns-in_err-three-clause-refused
returns-in_err-three-clause-refused c =
    fails_so c.args.words.now c.args.spot (λ back. N (Left AfterName) ∷ back) (Leaf c.args.place c.args.name ∷ Stars c.args.stars ∷ OfSpecifier c.args.specifier ∷ []) c.from_residual-in_err-three.result c.in_err-three.field-0.0 c.from_residual-in_err-three.ensures.1 (λ start all left values p.
    let p15 = by_rule (Left AfterName) 0 (called_number (drop c.args.spot.at c.args.words.now) (sym c.object_next.ensures ∙ c.if-object_next.false)) (lit< tt) p in
    let p16 = read c.in_ok-one.ensures.token p15 in
    let m16 : Moves c.args.words.now c.args.spot c.in_ok-one.one = moved_by_one c.in_ok-one.ensures.place c.in_ok-one.ensures.more (c.requires.shallow.ended) in
    let p17 = read c.in_ok-parameters.ensures.read.leads p16 in
    let m17 : Moves c.args.words.now c.args.spot c.in_ok-parameters.two = moved_then m16 (c.in_ok-parameters.ensures.read.moves) in
    stops_at (T terminal.Close ∷ []) _ c.in_err-three.field-0.0 p17 c.in_err-three.ensures.no_token)

pub returns-in_err-item-clause-refused : goal.returns-in_err-item-clause-refused
returns-in_err-item-clause-refused c =
    fails_so c.args.words.now c.args.spot (λ back. N (Left AfterName) ∷ back) (Leaf c.args.place c.args.name ∷ Stars c.args.stars ∷ OfSpecifier c.args.specifier ∷ []) c.from_residual-in_err-item.result c.in_err-item.field-0.0 c.from_residual-in_err-item.ensures.1 (λ start all left values p.
    let p15 = by_rule (Left AfterName) 0 (called_number (drop c.args.spot.at c.args.words.now) (sym c.object_next.ensures ∙ c.if-object_next.false)) (lit< tt) p in
    let p16 = read c.in_ok-one.ensures.token p15 in
    let m16 : Moves c.args.words.now c.args.spot c.in_ok-one.one = moved_by_one c.in_ok-one.ensures.place c.in_ok-one.ensures.more (c.requires.shallow.ended) in
    let p17 = read c.in_ok-parameters.ensures.read.leads p16 in
    let m17 : Moves c.args.words.now c.args.spot c.in_ok-parameters.two = moved_then m16 (c.in_ok-parameters.ensures.read.moves) in
    let p18 = read c.in_ok-three.ensures.token p17 in
    let m18 : Moves c.args.words.now c.args.spot c.in_ok-three.three = moved_then m17 (moved_by_one c.in_ok-three.ensures.place c.in_ok-three.ensures.more (m17.ended)) in
    c.in_err-item.ensures.refused.fails _ _ left _ p18)

pub returns-clause-read : goal.returns-clause-read
returns-clause-read c =
    let m16 : Moves c.args.words.now c.args.spot c.in_ok-one.one = moved_by_one c.in_ok-one.ensures.place c.in_ok-one.ensures.more (c.requires.shallow.ended) in
    let m17 : Moves c.args.words.now c.args.spot c.in_ok-parameters.two = moved_then m16 (c.in_ok-parameters.ensures.read.moves) in
    let m18 : Moves c.args.words.now c.args.spot c.in_ok-three.three = moved_then m17 (moved_by_one c.in_ok-three.ensures.place c.in_ok-three.ensures.more (m17.ended)) in
    let m19 : Moves c.args.words.now c.args.spot c.in_ok-item.four = moved_then m18 (c.in_ok-item.ensures.read.moves) in
    record {
      grows = λ start all left values p.
          let p15 = by_rule (Left AfterName) 0 (called_number (drop c.args.spot.at c.args.words.now) (sym c.object_next.ensures ∙ c.if-object_next.false)) (lit< tt) p in
          let p16 = read c.in_ok-one.ensures.token p15 in
          let p17 = read c.in_ok-parameters.ensures.read.leads p16 in
          let p18 = read c.in_ok-three.ensures.token p17 in
          let p19 = c.in_ok-item.ensures.read.grows _ _ left _ p18 in
          p19;
      moves = m19;
    }
