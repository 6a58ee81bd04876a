use Rattle.std.proofs.Common.{[], ◌∷◌, refl}
use Rattle.c_grammar.specs.declared.words.Terminal.TheVariants as terminal
use Rattle.c_grammar.specs.Grammar as form
use Rattle.c_grammar.specs.Grammar.{AfterUnary, AfterName, AfterObject, AfterParameters, AfterStars, B, CountOperator, Here, In, L, Left, M, N, Out, T, Symbol, operand, prefix}
use Rattle.c_parser.specs.Parts.{Moves}
use Rattle.c_grammar.specs.Steps.{MakePointer, Stars}
use Rattle.c_parser.proofs.Chains.{read, made, stops_at, fails_so, moved_by_one, moved_by_form, moved_then}
use Rattle.c_parser.proofs.items.function_pointer.Goals as goal

pub returns-in_err-one-clause-refused : goal.returns-in_err-one-clause-refused
returns-in_err-one-clause-refused c =
    fails_so c.args.words.now c.args.spot (λ back. T terminal.Open ∷ T terminal.Star ∷ N form.PerhapsPrivate ∷ L terminal.Name ∷ T terminal.Close ∷ T terminal.Open ∷ N form.ParameterTypes ∷ T terminal.Close ∷ B MakePointer ∷ back) (Stars c.args.stars ∷ []) c.from_residual.result c.in_err-one.field-0.0 c.from_residual.ensures.1 (λ start all left values p.
    stops_at (T terminal.Open ∷ []) _ c.in_err-one.field-0.0 p c.in_err-one.ensures.no_token)

pub returns-in_err-two-clause-refused : goal.returns-in_err-two-clause-refused
returns-in_err-two-clause-refused c =
    fails_so c.args.words.now c.args.spot (λ back. T terminal.Open ∷ T terminal.Star ∷ N form.PerhapsPrivate ∷ L terminal.Name ∷ T terminal.Close ∷ T terminal.Open ∷ N form.ParameterTypes ∷ T terminal.Close ∷ B MakePointer ∷ back) (Stars c.args.stars ∷ []) c.from_residual-in_err-two.result c.in_err-two.field-0.0 c.from_residual-in_err-two.ensures.1 (λ start all left values p.
    let p1 = read c.in_ok-one.ensures.token p in
    let m1 : Moves c.args.words.now c.args.spot c.in_ok-one.one = moved_by_one c.in_ok-one.ensures.place c.in_ok-one.ensures.more (c.requires.shallow.ended) in
    stops_at (T terminal.Star ∷ []) _ c.in_err-two.field-0.0 p1 c.in_err-two.ensures.no_token)

pub returns-in_err-is_private-clause-refused : goal.returns-in_err-is_private-clause-refused
returns-in_err-is_private-clause-refused c =
    fails_so c.args.words.now c.args.spot (λ back. T terminal.Open ∷ T terminal.Star ∷ N form.PerhapsPrivate ∷ L terminal.Name ∷ T terminal.Close ∷ T terminal.Open ∷ N form.ParameterTypes ∷ T terminal.Close ∷ B MakePointer ∷ back) (Stars c.args.stars ∷ []) c.from_residual-in_err-is_private.result c.in_err-is_private.field-0.0 c.from_residual-in_err-is_private.ensures.1 (λ start all left values p.
    let p1 = read c.in_ok-one.ensures.token p in
    let m1 : Moves c.args.words.now c.args.spot c.in_ok-one.one = moved_by_one c.in_ok-one.ensures.place c.in_ok-one.ensures.more (c.requires.shallow.ended) in
    let p2 = read c.in_ok-two.ensures.token p1 in
    let m2 : Moves c.args.words.now c.args.spot c.in_ok-two.two = moved_then m1 (moved_by_one c.in_ok-two.ensures.place c.in_ok-two.ensures.more (m1.ended)) in
    stops_at (N form.PerhapsPrivate ∷ []) _ c.in_err-is_private.field-0.0 p2 c.in_err-is_private.ensures.refused)

pub returns-in_err-word-clause-refused : goal.returns-in_err-word-clause-refused
returns-in_err-word-clause-refused c =
    fails_so c.args.words.now c.args.spot (λ back. T terminal.Open ∷ T terminal.Star ∷ N form.PerhapsPrivate ∷ L terminal.Name ∷ T terminal.Close ∷ T terminal.Open ∷ N form.ParameterTypes ∷ T terminal.Close ∷ B MakePointer ∷ back) (Stars c.args.stars ∷ []) c.from_residual-in_err-word.result c.in_err-word.field-0.0 c.from_residual-in_err-word.ensures.1 (λ start all left values p.
    let p1 = read c.in_ok-one.ensures.token p in
    let m1 : Moves c.args.words.now c.args.spot c.in_ok-one.one = moved_by_one c.in_ok-one.ensures.place c.in_ok-one.ensures.more (c.requires.shallow.ended) in
    let p2 = read c.in_ok-two.ensures.token p1 in
    let m2 : Moves c.args.words.now c.args.spot c.in_ok-two.two = moved_then m1 (moved_by_one c.in_ok-two.ensures.place c.in_ok-two.ensures.more (m1.ended)) in
    let p3 = read c.in_ok-is_private.ensures.read.leads p2 in
    let m3 : Moves c.args.words.now c.args.spot c.in_ok-is_private.three = moved_then m2 (moved_by_form c.in_ok-is_private.ensures.read (m2.ended)) in
    stops_at (L terminal.Name ∷ []) _ c.in_err-word.field-0.0 p3 c.in_err-word.ensures.no_leaf)

pub returns-in_err-five-clause-refused : goal.returns-in_err-five-clause-refused
returns-in_err-five-clause-refused c =
    fails_so c.args.words.now c.args.spot (λ back. T terminal.Open ∷ T terminal.Star ∷ N form.PerhapsPrivate ∷ L terminal.Name ∷ T terminal.Close ∷ T terminal.Open ∷ N form.ParameterTypes ∷ T terminal.Close ∷ B MakePointer ∷ back) (Stars c.args.stars ∷ []) c.from_residual-in_err-five.result c.in_err-five.field-0.0 c.from_residual-in_err-five.ensures.1 (λ start all left values p.
    let p1 = read c.in_ok-one.ensures.token p in
    let m1 : Moves c.args.words.now c.args.spot c.in_ok-one.one = moved_by_one c.in_ok-one.ensures.place c.in_ok-one.ensures.more (c.requires.shallow.ended) in
    let p2 = read c.in_ok-two.ensures.token p1 in
    let m2 : Moves c.args.words.now c.args.spot c.in_ok-two.two = moved_then m1 (moved_by_one c.in_ok-two.ensures.place c.in_ok-two.ensures.more (m1.ended)) in
    let p3 = read c.in_ok-is_private.ensures.read.leads p2 in
    let m3 : Moves c.args.words.now c.args.spot c.in_ok-is_private.three = moved_then m2 (moved_by_form c.in_ok-is_private.ensures.read (m2.ended)) in
    let p4 = read c.in_ok-word.ensures.leaf p3 in
    let m4 : Moves c.args.words.now c.args.spot c.in_ok-word.four = moved_then m3 (moved_by_one c.in_ok-word.ensures.place c.in_ok-word.ensures.more (m3.ended)) in
    stops_at (T terminal.Close ∷ []) _ c.in_err-five.field-0.0 p4 c.in_err-five.ensures.no_token)

pub returns-in_err-six-clause-refused : goal.returns-in_err-six-clause-refused
returns-in_err-six-clause-refused c =
    fails_so c.args.words.now c.args.spot (λ back. T terminal.Open ∷ T terminal.Star ∷ N form.PerhapsPrivate ∷ L terminal.Name ∷ T terminal.Close ∷ T terminal.Open ∷ N form.ParameterTypes ∷ T terminal.Close ∷ B MakePointer ∷ back) (Stars c.args.stars ∷ []) c.from_residual-in_err-six.result c.in_err-six.field-0.0 c.from_residual-in_err-six.ensures.1 (λ start all left values p.
    let p1 = read c.in_ok-one.ensures.token p in
    let m1 : Moves c.args.words.now c.args.spot c.in_ok-one.one = moved_by_one c.in_ok-one.ensures.place c.in_ok-one.ensures.more (c.requires.shallow.ended) in
    let p2 = read c.in_ok-two.ensures.token p1 in
    let m2 : Moves c.args.words.now c.args.spot c.in_ok-two.two = moved_then m1 (moved_by_one c.in_ok-two.ensures.place c.in_ok-two.ensures.more (m1.ended)) in
    let p3 = read c.in_ok-is_private.ensures.read.leads p2 in
    let m3 : Moves c.args.words.now c.args.spot c.in_ok-is_private.three = moved_then m2 (moved_by_form c.in_ok-is_private.ensures.read (m2.ended)) in
    let p4 = read c.in_ok-word.ensures.leaf p3 in
    let m4 : Moves c.args.words.now c.args.spot c.in_ok-word.four = moved_then m3 (moved_by_one c.in_ok-word.ensures.place c.in_ok-word.ensures.more (m3.ended)) in
    let p5 = read c.in_ok-five.ensures.token p4 in
    let m5 : Moves c.args.words.now c.args.spot c.in_ok-five.five = moved_then m4 (moved_by_one c.in_ok-five.ensures.place c.in_ok-five.ensures.more (m4.ended)) in
    stops_at (T terminal.Open ∷ []) _ c.in_err-six.field-0.0 p5 c.in_err-six.ensures.no_token)

pub returns-in_err-parameters-clause-refused : goal.returns-in_err-parameters-clause-refused
returns-in_err-parameters-clause-refused c =
    fails_so c.args.words.now c.args.spot (λ back. T terminal.Open ∷ T terminal.Star ∷ N form.PerhapsPrivate ∷ L terminal.Name ∷ T terminal.Close ∷ T terminal.Open ∷ N form.ParameterTypes ∷ T terminal.Close ∷ B MakePointer ∷ back) (Stars c.args.stars ∷ []) c.from_residual-in_err-parameters.result c.in_err-parameters.field-0.0 c.from_residual-in_err-parameters.ensures.1 (λ start all left values p.
    let p1 = read c.in_ok-one.ensures.token p in
    let m1 : Moves c.args.words.now c.args.spot c.in_ok-one.one = moved_by_one c.in_ok-one.ensures.place c.in_ok-one.ensures.more (c.requires.shallow.ended) in
    let p2 = read c.in_ok-two.ensures.token p1 in
    let m2 : Moves c.args.words.now c.args.spot c.in_ok-two.two = moved_then m1 (moved_by_one c.in_ok-two.ensures.place c.in_ok-two.ensures.more (m1.ended)) in
    let p3 = read c.in_ok-is_private.ensures.read.leads p2 in
    let m3 : Moves c.args.words.now c.args.spot c.in_ok-is_private.three = moved_then m2 (moved_by_form c.in_ok-is_private.ensures.read (m2.ended)) in
    let p4 = read c.in_ok-word.ensures.leaf p3 in
    let m4 : Moves c.args.words.now c.args.spot c.in_ok-word.four = moved_then m3 (moved_by_one c.in_ok-word.ensures.place c.in_ok-word.ensures.more (m3.ended)) in
    let p5 = read c.in_ok-five.ensures.token p4 in
    let m5 : Moves c.args.words.now c.args.spot c.in_ok-five.five = moved_then m4 (moved_by_one c.in_ok-five.ensures.place c.in_ok-five.ensures.more (m4.ended)) in
    let p6 = read c.in_ok-six.ensures.token p5 in
    let m6 : Moves c.args.words.now c.args.spot c.in_ok-six.six = moved_then m5 (moved_by_one c.in_ok-six.ensures.place c.in_ok-six.ensures.more (m5.ended)) in
    stops_at (N form.ParameterTypes ∷ []) _ c.in_err-parameters.field-0.0 p6 c.in_err-parameters.ensures.refused)

pub returns-in_err-eight-clause-refused : goal.returns-in_err-eight-clause-refused
returns-in_err-eight-clause-refused c =
    fails_so c.args.words.now c.args.spot (λ back. T terminal.Open ∷ T terminal.Star ∷ N form.PerhapsPrivate ∷ L terminal.Name ∷ T terminal.Close ∷ T terminal.Open ∷ N form.ParameterTypes ∷ T terminal.Close ∷ B MakePointer ∷ back) (Stars c.args.stars ∷ []) c.from_residual-in_err-eight.result c.in_err-eight.field-0.0 c.from_residual-in_err-eight.ensures.1 (λ start all left values p.
    let p1 = read c.in_ok-one.ensures.token p in
    let m1 : Moves c.args.words.now c.args.spot c.in_ok-one.one = moved_by_one c.in_ok-one.ensures.place c.in_ok-one.ensures.more (c.requires.shallow.ended) in
    let p2 = read c.in_ok-two.ensures.token p1 in
    let m2 : Moves c.args.words.now c.args.spot c.in_ok-two.two = moved_then m1 (moved_by_one c.in_ok-two.ensures.place c.in_ok-two.ensures.more (m1.ended)) in
    let p3 = read c.in_ok-is_private.ensures.read.leads p2 in
    let m3 : Moves c.args.words.now c.args.spot c.in_ok-is_private.three = moved_then m2 (moved_by_form c.in_ok-is_private.ensures.read (m2.ended)) in
    let p4 = read c.in_ok-word.ensures.leaf p3 in
    let m4 : Moves c.args.words.now c.args.spot c.in_ok-word.four = moved_then m3 (moved_by_one c.in_ok-word.ensures.place c.in_ok-word.ensures.more (m3.ended)) in
    let p5 = read c.in_ok-five.ensures.token p4 in
    let m5 : Moves c.args.words.now c.args.spot c.in_ok-five.five = moved_then m4 (moved_by_one c.in_ok-five.ensures.place c.in_ok-five.ensures.more (m4.ended)) in
    let p6 = read c.in_ok-six.ensures.token p5 in
    let m6 : Moves c.args.words.now c.args.spot c.in_ok-six.six = moved_then m5 (moved_by_one c.in_ok-six.ensures.place c.in_ok-six.ensures.more (m5.ended)) in
    let p7 = read c.in_ok-parameters.ensures.read.leads p6 in
    let m7 : Moves c.args.words.now c.args.spot c.in_ok-parameters.seven = moved_then m6 (moved_by_form c.in_ok-parameters.ensures.read (m6.ended)) in
    stops_at (T terminal.Close ∷ []) _ c.in_err-eight.field-0.0 p7 c.in_err-eight.ensures.no_token)

pub returns-clause-read : goal.returns-clause-read
returns-clause-read c =
    let m1 : Moves c.args.words.now c.args.spot c.in_ok-one.one = moved_by_one c.in_ok-one.ensures.place c.in_ok-one.ensures.more (c.requires.shallow.ended) in
    let m2 : Moves c.args.words.now c.args.spot c.in_ok-two.two = moved_then m1 (moved_by_one c.in_ok-two.ensures.place c.in_ok-two.ensures.more (m1.ended)) in
    let m3 : Moves c.args.words.now c.args.spot c.in_ok-is_private.three = moved_then m2 (moved_by_form c.in_ok-is_private.ensures.read (m2.ended)) in
    let m4 : Moves c.args.words.now c.args.spot c.in_ok-word.four = moved_then m3 (moved_by_one c.in_ok-word.ensures.place c.in_ok-word.ensures.more (m3.ended)) in
    let m5 : Moves c.args.words.now c.args.spot c.in_ok-five.five = moved_then m4 (moved_by_one c.in_ok-five.ensures.place c.in_ok-five.ensures.more (m4.ended)) in
    let m6 : Moves c.args.words.now c.args.spot c.in_ok-six.six = moved_then m5 (moved_by_one c.in_ok-six.ensures.place c.in_ok-six.ensures.more (m5.ended)) in
    let m7 : Moves c.args.words.now c.args.spot c.in_ok-parameters.seven = moved_then m6 (moved_by_form c.in_ok-parameters.ensures.read (m6.ended)) in
    let m8 : Moves c.args.words.now c.args.spot c.in_ok-eight.eight = moved_then m7 (moved_by_one c.in_ok-eight.ensures.place c.in_ok-eight.ensures.more (m7.ended)) in
    record {
      grows = λ start all left values p.
          let p1 = read c.in_ok-one.ensures.token p in
          let p2 = read c.in_ok-two.ensures.token p1 in
          let p3 = read c.in_ok-is_private.ensures.read.leads p2 in
          let p4 = read c.in_ok-word.ensures.leaf p3 in
          let p5 = read c.in_ok-five.ensures.token p4 in
          let p6 = read c.in_ok-six.ensures.token p5 in
          let p7 = read c.in_ok-parameters.ensures.read.leads p6 in
          let p8 = read c.in_ok-eight.ensures.token p7 in
          made (λ built. refl) p8;
      moves = m8;
    }
