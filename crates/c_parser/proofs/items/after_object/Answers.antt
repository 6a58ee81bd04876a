use Rattle.std.proofs.Common.{[], ◌∷◌, drop, refl, lit<}
use Rattle.c_grammar.specs.declared.words.Terminal.TheVariants as terminal
use Rattle.c_grammar.specs.Grammar as form
use Rattle.c_grammar.specs.Grammar.{AfterUnary, AfterName, AfterObject, AfterParameters, AfterStars, B, CountOperator, Here, In, L, Left, M, N, Out, T, Symbol, operand, prefix}
use Rattle.c_parser.specs.Parts.{Moves}
use Rattle.c_grammar.specs.Steps.{OfInitialised, MakeObject, OfDeclaration, OfSpecifier, OfDeclarator, MakeDeclaration}
use Rattle.c_parser.proofs.ItemLemmas.{object_number}
use Rattle.c_parser.proofs.Chains.{by_rule, read, made, stops_at, fails_so, moved_by_one, moved_then}
use Rattle.c_parser.proofs.items.after_object.Goals as goal

pub returns-in_err-start-clause-refused : goal.returns-in_err-start-clause-refused
returns-in_err-start-clause-refused c =
    fails_so c.args.words.now c.args.spot (λ back. N (Left AfterObject) ∷ back) (OfDeclarator c.args.declarator ∷ OfSpecifier c.args.specifier ∷ []) c.from_residual.result c.in_err-start.field-0.0 c.from_residual.ensures.1 (λ start all left values p.
    let p1 = by_rule (Left AfterObject) 0 (object_number (drop c.args.spot.at c.args.words.now)) (lit< tt) p in
    stops_at (N form.PerhapsStart ∷ []) _ c.in_err-start.field-0.0 p1 c.in_err-start.ensures.refused)

pub returns-in_err-declarators-clause-refused : goal.returns-in_err-declarators-clause-refused
returns-in_err-declarators-clause-refused c =
    fails_so c.args.words.now c.args.spot (λ back. N (Left AfterObject) ∷ back) (OfDeclarator c.args.declarator ∷ OfSpecifier c.args.specifier ∷ []) c.from_residual-in_err-declarators.result c.in_err-declarators.field-0.0 c.from_residual-in_err-declarators.ensures.1 (λ start all left values p.
    let p1 = by_rule (Left AfterObject) 0 (object_number (drop c.args.spot.at c.args.words.now)) (lit< tt) p in
    let p2 = read c.in_ok-start.ensures.read.leads p1 in
    let m2 : Moves c.args.words.now c.args.spot c.in_ok-start.one = c.in_ok-start.ensures.read.moves in
    let p3 = made {built_new = OfInitialised (record { declarator = c.args.declarator; start = c.in_ok-start.start }) ∷ OfSpecifier c.args.specifier ∷ values} (λ built. refl) p2 in
    c.in_err-declarators.ensures.refused.halts _ _ (T terminal.Semicolon ∷ B MakeDeclaration ∷ B MakeObject ∷ left) _ p3)

pub returns-in_err-three-clause-refused : goal.returns-in_err-three-clause-refused
returns-in_err-three-clause-refused c =
    fails_so c.args.words.now c.args.spot (λ back. N (Left AfterObject) ∷ back) (OfDeclarator c.args.declarator ∷ OfSpecifier c.args.specifier ∷ []) c.from_residual-in_err-three.result c.in_err-three.field-0.0 c.from_residual-in_err-three.ensures.1 (λ start all left values p.
    let p1 = by_rule (Left AfterObject) 0 (object_number (drop c.args.spot.at c.args.words.now)) (lit< tt) p in
    let p2 = read c.in_ok-start.ensures.read.leads p1 in
    let m2 : Moves c.args.words.now c.args.spot c.in_ok-start.one = c.in_ok-start.ensures.read.moves in
    let p3 = made {built_new = OfInitialised (record { declarator = c.args.declarator; start = c.in_ok-start.start }) ∷ OfSpecifier c.args.specifier ∷ values} (λ built. refl) p2 in
    let p4 = c.in_ok-declarators.ensures.read.turns _ _ (T terminal.Semicolon ∷ B MakeDeclaration ∷ B MakeObject ∷ left) _ p3 in
    let m4 : Moves c.args.words.now c.args.spot c.in_ok-declarators.two = moved_then m2 (c.in_ok-declarators.ensures.read.moves) in
    stops_at (T terminal.Semicolon ∷ []) _ c.in_err-three.field-0.0 p4 c.in_err-three.ensures.no_token)

pub returns-clause-read : goal.returns-clause-read
returns-clause-read c =
    let m2 : Moves c.args.words.now c.args.spot c.in_ok-start.one = c.in_ok-start.ensures.read.moves in
    let m4 : Moves c.args.words.now c.args.spot c.in_ok-declarators.two = moved_then m2 (c.in_ok-declarators.ensures.read.moves) in
    let m5 : Moves c.args.words.now c.args.spot c.in_ok-three.three = moved_then m4 (moved_by_one c.in_ok-three.ensures.place c.in_ok-three.ensures.more (m4.ended)) in
    record {
      grows = λ start all left values p.
          let p1 = by_rule (Left AfterObject) 0 (object_number (drop c.args.spot.at c.args.words.now)) (lit< tt) p in
          let p2 = read c.in_ok-start.ensures.read.leads p1 in
          let p3 = made {built_new = OfInitialised (record { declarator = c.args.declarator; start = c.in_ok-start.start }) ∷ OfSpecifier c.args.specifier ∷ values} (λ built. refl) p2 in
          let p4 = c.in_ok-declarators.ensures.read.turns _ _ (T terminal.Semicolon ∷ B MakeDeclaration ∷ B MakeObject ∷ left) _ p3 in
          let p5 = read c.in_ok-three.ensures.token p4 in
          let p6 = made {built_new = OfDeclaration (record { specifier = c.args.specifier; declarators = c.in_ok-declarators.declarators }) ∷ values} (λ built. refl) p5 in
          made (λ built. refl) p6;
      moves = m5;
    }
