use Rattle.std.proofs.Common.{◌+◌, [], ◌∷◌, refl, ap, arith}
use Rattle.c_grammar.specs.declared.words.Terminal.TheVariants as terminal
use Rattle.c_grammar.specs.Grammar.{B, CountOperator, L, M, T}
use Rattle.c_parser.specs.Parts.{Moves}
use Rattle.c_grammar.specs.Steps.{MakeDot, OfExpression}
use Rattle.c_parser.proofs.Chains.{read, made, counted, stops_at, halts_so, moved_by_one, moved_then, moved_counted}
use Rattle.c_parser.proofs.expressions.member.Goals as goal

pub returns-in_err-one-clause-refused : goal.returns-in_err-one-clause-refused
returns-in_err-one-clause-refused c =
    halts_so c.args.words.now c.args.spot (λ back. T terminal.Dot ∷ L terminal.Name ∷ M CountOperator ∷ B MakeDot ∷ back) (OfExpression c.args.left) c.from_residual.result c.in_err-one.field-0.0 c.from_residual.ensures.1 (λ start all left values p.
    stops_at (T terminal.Dot ∷ []) _ c.in_err-one.field-0.0 p c.in_err-one.ensures.no_token)

pub returns-in_err-word-clause-refused : goal.returns-in_err-word-clause-refused
returns-in_err-word-clause-refused c =
    halts_so c.args.words.now c.args.spot (λ back. T terminal.Dot ∷ L terminal.Name ∷ M CountOperator ∷ B MakeDot ∷ back) (OfExpression c.args.left) c.from_residual-in_err-word.result c.in_err-word.field-0.0 c.from_residual-in_err-word.ensures.1 (λ start all left values p.
    let p1 = read c.in_ok-one.ensures.token p in
    let m1 : Moves c.args.words.now c.args.spot c.in_ok-one.one = moved_by_one c.in_ok-one.ensures.place c.in_ok-one.ensures.more (c.requires.shallow.ended) in
    stops_at (L terminal.Name ∷ []) _ c.in_err-word.field-0.0 p1 c.in_err-word.ensures.no_leaf)

pub returns-clause-read : goal.returns-clause-read
returns-clause-read c =
    let m1 : Moves c.args.words.now c.args.spot c.in_ok-one.one = moved_by_one c.in_ok-one.ensures.place c.in_ok-one.ensures.more (c.requires.shallow.ended) in
    let m2 : Moves c.args.words.now c.args.spot c.in_ok-word.two = moved_then m1 (moved_by_one c.in_ok-word.ensures.place c.in_ok-word.ensures.more (m1.ended)) in
    let m3 : Moves c.args.words.now c.args.spot (record c.in_ok-word.two { ended = c.in_ok-word.two.ended + 1 }) = moved_counted (omega (arith, c.in_ok-word.ensures.nesting, ap (λ s. s.ended) c.in_ok-word.ensures.place)) m2 in
    record {
      turns = λ start all left values p.
          let p1 = read c.in_ok-one.ensures.token p in
          let p2 = read c.in_ok-word.ensures.leaf p1 in
          let p3 = counted p2 in
          rw (c.at_place.ensures, c.in_ok-of.ensures) (made (λ built. refl) p3);
      moves = m3;
    }
