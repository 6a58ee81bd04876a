use Rattle.std.proofs.Common.{◌+◌, [], ◌∷◌, drop, true, false, refl, sym, ap, subst, ◌∙◌, arith, lit<}
use Rattle.std.proofs.lemmas.Bool.{cond-true, cond-false}
use Rattle.c_grammar.specs.declared.words.Terminal.TheVariants as terminal
use Rattle.c_parser.specs.declared.spot.TheConstants.{NESTING}
use Rattle.c_parser.specs.declared.errors.ParseError.{ParseError}
use Rattle.c_grammar.specs.Grammar as form
use Rattle.c_grammar.specs.Grammar.{AfterUnary, B, CountOperator, Here, In, L, Left, M, N, Out, T, Symbol, operand, prefix}
use Rattle.c_parser.specs.Operators.{level_at, operands_between}
use Rattle.c_parser.specs.Parts.{Moves}
use Rattle.c_parser.specs.Paths.{Breaks}
use Rattle.c_grammar.specs.Steps.{MakeAssign, MakeBracket, MakeCall, MakeChoice, MakeIndex, MakeInfix, MakeSizeof, OfExpression}
use Rattle.c_grammar.specs.Ways.{typed_operand}
use Rattle.c_parser.proofs.NumberLemmas.{number_at, number_else}
use Rattle.c_parser.proofs.OperatorLemmas.{arguments_number, arrow_next, no_suffix, postfix_next, no_unary_stop, after_number, postfix_number, expression_number, conditional_number, prefix_path}
use Rattle.c_parser.proofs.LevelLemmas.{down, conditional_down, to_operator, no_operator}
use Rattle.c_parser.proofs.Chains.{halts_memory, stays, turns_not, turns_then, deeper, starts, by_rule, read, made, entered, leaves, counted, exits, exits_so, stops_at, halts_so, moved_by_one, moved_by_form, moved_then, moved_counted, moved_inside}
use Rattle.c_parser.proofs.expressions.+expressions.Goals as goal

pub bracket-returns-in_err-place-clause-refused : goal.bracket-returns-in_err-place-clause-refused
bracket-returns-in_err-place-clause-refused t c =
    let p1 = starts c.args.words.now c.args.spot (Here ∷ T terminal.Open ∷ N form.Expression ∷ T terminal.Close ∷ B MakeBracket ∷ []) in
    exits (Here ∷ T terminal.Open ∷ []) _ c.from_residual.result c.in_err-place.field-0.0 c.from_residual.ensures.1 p1 c.in_err-place.ensures.refused

pub bracket-returns-in_err-inner-clause-refused : goal.bracket-returns-in_err-inner-clause-refused
bracket-returns-in_err-inner-clause-refused t c =
    let p1 = starts c.args.words.now c.args.spot (Here ∷ T terminal.Open ∷ N form.Expression ∷ T terminal.Close ∷ B MakeBracket ∷ []) in
    let p2 = read c.in_ok-place.ensures.read p1 in
    let m2 : Moves c.args.words.now c.args.spot c.in_ok-place.one = moved_by_one c.in_ok-place.ensures.place c.in_ok-place.ensures.more (c.requires.shallow.ended) in
    exits (N form.Expression ∷ []) _ c.from_residual-in_err-inner.result c.in_err-inner.field-0.0 c.from_residual-in_err-inner.ensures.1 p2 c.in_err-inner.ensures.refused

pub bracket-returns-in_err-three-clause-refused : goal.bracket-returns-in_err-three-clause-refused
bracket-returns-in_err-three-clause-refused t c =
    let p1 = starts c.args.words.now c.args.spot (Here ∷ T terminal.Open ∷ N form.Expression ∷ T terminal.Close ∷ B MakeBracket ∷ []) in
    let p2 = read c.in_ok-place.ensures.read p1 in
    let m2 : Moves c.args.words.now c.args.spot c.in_ok-place.one = moved_by_one c.in_ok-place.ensures.place c.in_ok-place.ensures.more (c.requires.shallow.ended) in
    let p3 = read c.in_ok-inner.ensures.read.leads p2 in
    let m3 : Moves c.args.words.now c.args.spot c.in_ok-inner.two = moved_then m2 (c.in_ok-inner.ensures.read.moves) in
    exits (T terminal.Close ∷ []) _ c.from_residual-in_err-three.result c.in_err-three.field-0.0 c.from_residual-in_err-three.ensures.1 p3 c.in_err-three.ensures.no_token

pub bracket-returns-clause-read : goal.bracket-returns-clause-read
bracket-returns-clause-read t c =
    let p1 = starts c.args.words.now c.args.spot (Here ∷ T terminal.Open ∷ N form.Expression ∷ T terminal.Close ∷ B MakeBracket ∷ []) in
    let p2 = read c.in_ok-place.ensures.read p1 in
    let m2 : Moves c.args.words.now c.args.spot c.in_ok-place.one = moved_by_one c.in_ok-place.ensures.place c.in_ok-place.ensures.more (c.requires.shallow.ended) in
    let p3 = read c.in_ok-inner.ensures.read.leads p2 in
    let m3 : Moves c.args.words.now c.args.spot c.in_ok-inner.two = moved_then m2 (c.in_ok-inner.ensures.read.moves) in
    let p4 = read c.in_ok-three.ensures.token p3 in
    let m4 : Moves c.args.words.now c.args.spot c.in_ok-three.three = moved_then m3 (moved_by_one c.in_ok-three.ensures.place c.in_ok-three.ensures.more (m3.ended)) in
    record { leads = rw (c.at_place.ensures, c.in_ok-whole.ensures) (made (λ built. refl) p4); moves = m4 }

pub primary-returns-in_err-inner-clause-refused : goal.primary-returns-in_err-inner-clause-refused
primary-returns-in_err-inner-clause-refused t c =
    let p1 = by_rule form.Primary 4 (number_at form.Primary terminal.Open (λ w ws. refl) (drop c.args.spot.at c.args.words.now) (sym c.next_is.ensures ∙ c.if-next_is.true)) (lit< tt) (starts c.args.words.now c.args.spot (N form.Primary ∷ [])) in
    exits (Here ∷ T terminal.Open ∷ N form.Expression ∷ T terminal.Close ∷ B MakeBracket ∷ []) _ c.from_residual.result c.in_err-inner.field-0.0 c.from_residual.ensures.1 p1 c.in_err-inner.ensures.refused

pub primary-returns-then-next_is-clause-read : goal.primary-returns-then-next_is-clause-read
primary-returns-then-next_is-clause-read t c =
    let p1 = by_rule form.Primary 4 (number_at form.Primary terminal.Open (λ w ws. refl) (drop c.args.spot.at c.args.words.now) (sym c.next_is.ensures ∙ c.if-next_is.true)) (lit< tt) (starts c.args.words.now c.args.spot (N form.Primary ∷ [])) in
    let p2 = read c.in_ok-inner.ensures.read.leads p1 in
    let m2 : Moves c.args.words.now c.args.spot c.in_ok-inner.one = c.in_ok-inner.ensures.read.moves in
    record { leads = p2; moves = m2 }

pub primary-returns-in_err-value-clause-refused : goal.primary-returns-in_err-value-clause-refused
primary-returns-in_err-value-clause-refused t c =
    let p13 = starts c.args.words.now c.args.spot (N form.Primary ∷ []) in
    exits (N form.Primary ∷ []) _ c.from_residual-in_err-value.result c.in_err-value.field-0.0 c.from_residual-in_err-value.ensures.1 p13 c.in_err-value.ensures.refused

pub primary-returns-clause-read : goal.primary-returns-clause-read
primary-returns-clause-read t c =
    let p13 = starts c.args.words.now c.args.spot (N form.Primary ∷ []) in
    let p14 = read c.in_ok-value.ensures.read.leads p13 in
    let m14 : Moves c.args.words.now c.args.spot c.in_ok-value.two = c.in_ok-value.ensures.read.moves in
    record { leads = p14; moves = m14 }

pub index-returns-in_err-one-clause-refused : goal.index-returns-in_err-one-clause-refused
index-returns-in_err-one-clause-refused t c =
    halts_so c.args.words.now c.args.spot (λ back. T terminal.OpenBracket ∷ N form.Expression ∷ T terminal.CloseBracket ∷ M CountOperator ∷ B MakeIndex ∷ back) (OfExpression c.args.left) c.from_residual.result c.in_err-one.field-0.0 c.from_residual.ensures.1 (λ start all left values p.
    stops_at (T terminal.OpenBracket ∷ []) _ c.in_err-one.field-0.0 p c.in_err-one.ensures.no_token)

pub index-returns-in_err-inner-clause-refused : goal.index-returns-in_err-inner-clause-refused
index-returns-in_err-inner-clause-refused t c =
    halts_so c.args.words.now c.args.spot (λ back. T terminal.OpenBracket ∷ N form.Expression ∷ T terminal.CloseBracket ∷ M CountOperator ∷ B MakeIndex ∷ back) (OfExpression c.args.left) c.from_residual-in_err-inner.result c.in_err-inner.field-0.0 c.from_residual-in_err-inner.ensures.1 (λ start all left values p.
    let p1 = read c.in_ok-one.ensures.token p in
    let m1 : Moves c.args.words.now c.args.spot c.in_ok-one.one = moved_by_one c.in_ok-one.ensures.place c.in_ok-one.ensures.more (c.requires.shallow.ended) in
    stops_at (N form.Expression ∷ []) _ c.in_err-inner.field-0.0 p1 c.in_err-inner.ensures.refused)

pub index-returns-in_err-three-clause-refused : goal.index-returns-in_err-three-clause-refused
index-returns-in_err-three-clause-refused t c =
    halts_so c.args.words.now c.args.spot (λ back. T terminal.OpenBracket ∷ N form.Expression ∷ T terminal.CloseBracket ∷ M CountOperator ∷ B MakeIndex ∷ back) (OfExpression c.args.left) c.from_residual-in_err-three.result c.in_err-three.field-0.0 c.from_residual-in_err-three.ensures.1 (λ start all left values p.
    let p1 = read c.in_ok-one.ensures.token p in
    let m1 : Moves c.args.words.now c.args.spot c.in_ok-one.one = moved_by_one c.in_ok-one.ensures.place c.in_ok-one.ensures.more (c.requires.shallow.ended) in
    let p2 = read c.in_ok-inner.ensures.read.leads p1 in
    let m2 : Moves c.args.words.now c.args.spot c.in_ok-inner.two = moved_then m1 (c.in_ok-inner.ensures.read.moves) in
    stops_at (T terminal.CloseBracket ∷ []) _ c.in_err-three.field-0.0 p2 c.in_err-three.ensures.no_token)

pub index-returns-clause-read : goal.index-returns-clause-read
index-returns-clause-read t c =
    let m1 : Moves c.args.words.now c.args.spot c.in_ok-one.one = moved_by_one c.in_ok-one.ensures.place c.in_ok-one.ensures.more (c.requires.shallow.ended) in
    let m2 : Moves c.args.words.now c.args.spot c.in_ok-inner.two = moved_then m1 (c.in_ok-inner.ensures.read.moves) in
    let m3 : Moves c.args.words.now c.args.spot c.in_ok-three.three = moved_then m2 (moved_by_one c.in_ok-three.ensures.place c.in_ok-three.ensures.more (m2.ended)) in
    let m4 : Moves c.args.words.now c.args.spot (record c.in_ok-three.three { ended = c.in_ok-three.three.ended + 1 }) = moved_counted (omega (arith, c.in_ok-three.ensures.nesting, ap (λ s. s.ended) c.in_ok-three.ensures.place)) m3 in
    record {
      turns = λ start all left values p.
          let p1 = read c.in_ok-one.ensures.token p in
          let p2 = read c.in_ok-inner.ensures.read.leads p1 in
          let p3 = read c.in_ok-three.ensures.token p2 in
          let p4 = counted p3 in
          rw (c.at_place.ensures, c.in_ok-of.ensures, c.in_ok-at.ensures) (made (λ built. refl) p4);
      moves = m4;
    }

pub call-returns-in_err-one-clause-refused : goal.call-returns-in_err-one-clause-refused
call-returns-in_err-one-clause-refused t c =
    halts_so c.args.words.now c.args.spot (λ back. T terminal.Open ∷ N form.Arguments ∷ T terminal.Close ∷ M CountOperator ∷ B MakeCall ∷ back) (OfExpression c.args.left) c.from_residual.result c.in_err-one.field-0.0 c.from_residual.ensures.1 (λ start all left values p.
    stops_at (T terminal.Open ∷ []) _ c.in_err-one.field-0.0 p c.in_err-one.ensures.no_token)

pub call-returns-in_err-arguments-clause-refused : goal.call-returns-in_err-arguments-clause-refused
call-returns-in_err-arguments-clause-refused t c =
    halts_so c.args.words.now c.args.spot (λ back. T terminal.Open ∷ N form.Arguments ∷ T terminal.Close ∷ M CountOperator ∷ B MakeCall ∷ back) (OfExpression c.args.left) c.from_residual-in_err-arguments.result c.in_err-arguments.field-0.0 c.from_residual-in_err-arguments.ensures.1 (λ start all left values p.
    let p1 = read c.in_ok-one.ensures.token p in
    let m1 : Moves c.args.words.now c.args.spot c.in_ok-one.one = moved_by_one c.in_ok-one.ensures.place c.in_ok-one.ensures.more (c.requires.shallow.ended) in
    stops_at (N form.Arguments ∷ []) _ c.in_err-arguments.field-0.0 p1 c.in_err-arguments.ensures.refused)

pub call-returns-in_err-three-clause-refused : goal.call-returns-in_err-three-clause-refused
call-returns-in_err-three-clause-refused t c =
    halts_so c.args.words.now c.args.spot (λ back. T terminal.Open ∷ N form.Arguments ∷ T terminal.Close ∷ M CountOperator ∷ B MakeCall ∷ back) (OfExpression c.args.left) c.from_residual-in_err-three.result c.in_err-three.field-0.0 c.from_residual-in_err-three.ensures.1 (λ start all left values p.
    let p1 = read c.in_ok-one.ensures.token p in
    let m1 : Moves c.args.words.now c.args.spot c.in_ok-one.one = moved_by_one c.in_ok-one.ensures.place c.in_ok-one.ensures.more (c.requires.shallow.ended) in
    let p2 = read c.in_ok-arguments.ensures.read.leads p1 in
    let m2 : Moves c.args.words.now c.args.spot c.in_ok-arguments.two = moved_then m1 (c.in_ok-arguments.ensures.read.moves) in
    stops_at (T terminal.Close ∷ []) _ c.in_err-three.field-0.0 p2 c.in_err-three.ensures.no_token)

pub call-returns-clause-read : goal.call-returns-clause-read
call-returns-clause-read t c =
    let m1 : Moves c.args.words.now c.args.spot c.in_ok-one.one = moved_by_one c.in_ok-one.ensures.place c.in_ok-one.ensures.more (c.requires.shallow.ended) in
    let m2 : Moves c.args.words.now c.args.spot c.in_ok-arguments.two = moved_then m1 (c.in_ok-arguments.ensures.read.moves) in
    let m3 : Moves c.args.words.now c.args.spot c.in_ok-three.three = moved_then m2 (moved_by_one c.in_ok-three.ensures.place c.in_ok-three.ensures.more (m2.ended)) in
    let m4 : Moves c.args.words.now c.args.spot (record c.in_ok-three.three { ended = c.in_ok-three.three.ended + 1 }) = moved_counted (omega (arith, c.in_ok-three.ensures.nesting, ap (λ s. s.ended) c.in_ok-three.ensures.place)) m3 in
    record {
      turns = λ start all left values p.
          let p1 = read c.in_ok-one.ensures.token p in
          let p2 = read c.in_ok-arguments.ensures.read.leads p1 in
          let p3 = read c.in_ok-three.ensures.token p2 in
          let p4 = counted p3 in
          rw (c.at_place.ensures, c.in_ok-callee.ensures) (made (λ built. refl) p4);
      moves = m4;
    }

pub suffix-returns-in_err-longer-clause-refused : goal.suffix-returns-in_err-longer-clause-refused
suffix-returns-in_err-longer-clause-refused t c =
    halts_so c.args.words.now c.args.spot (λ back. N form.Suffixes ∷ back) (OfExpression c.args.left) c.from_residual.result c.in_err-longer.field-0.0 c.from_residual.ensures.1 (λ start all left values p.
    let p1 = by_rule form.Suffixes 0 (number_at form.Suffixes terminal.OpenBracket (λ w ws. refl) (drop c.args.spot.at c.args.words.now) (sym c.next_is.ensures ∙ c.if-next_is.true)) (lit< tt) p in
    c.in_err-longer.ensures.refused.halts _ _ (N form.Suffixes ∷ left) _ p1)

pub suffix-returns-then-next_is-clause-read : goal.suffix-returns-then-next_is-clause-read
suffix-returns-then-next_is-clause-read t c =
    let m2 : Moves c.args.words.now c.args.spot c.in_ok-longer.one = c.in_ok-longer.ensures.read.moves in
    record {
      turns = λ start all left values p.
          let p1 = by_rule form.Suffixes 0 (number_at form.Suffixes terminal.OpenBracket (λ w ws. refl) (drop c.args.spot.at c.args.words.now) (sym c.next_is.ensures ∙ c.if-next_is.true)) (lit< tt) p in
          let p2 = c.in_ok-longer.ensures.read.turns _ _ (N form.Suffixes ∷ left) _ p1 in
          p2;
      moves = m2;
    }

pub suffix-returns-in_err-called-clause-refused : goal.suffix-returns-in_err-called-clause-refused
suffix-returns-in_err-called-clause-refused t c =
    halts_so c.args.words.now c.args.spot (λ back. N form.Suffixes ∷ back) (OfExpression c.args.left) c.from_residual-in_err-called.result c.in_err-called.field-0.0 c.from_residual-in_err-called.ensures.1 (λ start all left values p.
    let p13 = by_rule form.Suffixes 1 (number_at form.Suffixes terminal.Open (λ w ws. refl) (drop c.args.spot.at c.args.words.now) (sym c.next_is-2.ensures ∙ c.if-next_is-2.true)) (lit< tt) p in
    c.in_err-called.ensures.refused.halts _ _ (N form.Suffixes ∷ left) _ p13)

pub suffix-returns-then-next_is-2-clause-read : goal.suffix-returns-then-next_is-2-clause-read
suffix-returns-then-next_is-2-clause-read t c =
    let m14 : Moves c.args.words.now c.args.spot c.in_ok-called.two = c.in_ok-called.ensures.read.moves in
    record {
      turns = λ start all left values p.
          let p13 = by_rule form.Suffixes 1 (number_at form.Suffixes terminal.Open (λ w ws. refl) (drop c.args.spot.at c.args.words.now) (sym c.next_is-2.ensures ∙ c.if-next_is-2.true)) (lit< tt) p in
          let p14 = c.in_ok-called.ensures.read.turns _ _ (N form.Suffixes ∷ left) _ p13 in
          p14;
      moves = m14;
    }

pub suffix-returns-in_err-part-clause-refused : goal.suffix-returns-in_err-part-clause-refused
suffix-returns-in_err-part-clause-refused t c =
    halts_so c.args.words.now c.args.spot (λ back. N form.Suffixes ∷ back) (OfExpression c.args.left) c.from_residual-in_err-part.result c.in_err-part.field-0.0 c.from_residual-in_err-part.ensures.1 (λ start all left values p.
    let p25 = by_rule form.Suffixes 2 (number_at form.Suffixes terminal.Dot (λ w ws. refl) (drop c.args.spot.at c.args.words.now) (sym c.next_is-3.ensures ∙ c.if-next_is-3.true)) (lit< tt) p in
    c.in_err-part.ensures.refused.halts _ _ (N form.Suffixes ∷ left) _ p25)

pub suffix-returns-then-next_is-3-clause-read : goal.suffix-returns-then-next_is-3-clause-read
suffix-returns-then-next_is-3-clause-read t c =
    let m26 : Moves c.args.words.now c.args.spot c.in_ok-part.three = c.in_ok-part.ensures.read.moves in
    record {
      turns = λ start all left values p.
          let p25 = by_rule form.Suffixes 2 (number_at form.Suffixes terminal.Dot (λ w ws. refl) (drop c.args.spot.at c.args.words.now) (sym c.next_is-3.ensures ∙ c.if-next_is-3.true)) (lit< tt) p in
          let p26 = c.in_ok-part.ensures.read.turns _ _ (N form.Suffixes ∷ left) _ p25 in
          p26;
      moves = m26;
    }

pub suffix-returns-in_err-pointed-clause-refused : goal.suffix-returns-in_err-pointed-clause-refused
suffix-returns-in_err-pointed-clause-refused t c =
    halts_so c.args.words.now c.args.spot (λ back. N form.Suffixes ∷ back) (OfExpression c.args.left) c.from_residual-in_err-pointed.result c.in_err-pointed.field-0.0 c.from_residual-in_err-pointed.ensures.1 (λ start all left values p.
    let p37 = by_rule form.Suffixes 3 (number_at form.Suffixes terminal.Arrow (λ w ws. refl) (drop c.args.spot.at c.args.words.now) (arrow_next (drop c.args.spot.at c.args.words.now) c.requires.next (sym c.next_is.ensures ∙ c.if-next_is.false) (sym c.next_is-2.ensures ∙ c.if-next_is-2.false) (sym c.next_is-3.ensures ∙ c.if-next_is-3.false))) (lit< tt) p in
    c.in_err-pointed.ensures.refused.halts _ _ (N form.Suffixes ∷ left) _ p37)

pub suffix-returns-clause-read : goal.suffix-returns-clause-read
suffix-returns-clause-read t c =
    let m38 : Moves c.args.words.now c.args.spot c.in_ok-pointed.four = c.in_ok-pointed.ensures.read.moves in
    record {
      turns = λ start all left values p.
          let p37 = by_rule form.Suffixes 3 (number_at form.Suffixes terminal.Arrow (λ w ws. refl) (drop c.args.spot.at c.args.words.now) (arrow_next (drop c.args.spot.at c.args.words.now) c.requires.next (sym c.next_is.ensures ∙ c.if-next_is.false) (sym c.next_is-2.ensures ∙ c.if-next_is-2.false) (sym c.next_is-3.ensures ∙ c.if-next_is-3.false))) (lit< tt) p in
          let p38 = c.in_ok-pointed.ensures.read.turns _ _ (N form.Suffixes ∷ left) _ p37 in
          p38;
      moves = m38;
    }

pub suffixes-loop-alloc-init : goal.suffixes-loop-alloc-init
suffixes-loop-alloc-init t c = turns_not c.requires.shallow.ended c.requires.ready.within

pub suffixes-returns-in_err-longer-clause-refused : goal.suffixes-returns-in_err-longer-clause-refused
suffixes-returns-in_err-longer-clause-refused t c =
    halts_so c.args.words.now c.args.spot (λ back. N form.Suffixes ∷ back) (OfExpression c.args.left) c.from_residual.result c.in_err-longer.field-0.0 c.from_residual.ensures.1 (λ start all left values p.
    c.in_err-longer.ensures.refused.halts _ _ left _ (c.loop-alloc.invariant.turns start all left values p))

pub suffixes-loop-alloc-preserved : goal.suffixes-loop-alloc-preserved
suffixes-loop-alloc-preserved t c = turns_then c.loop-alloc.invariant c.in_ok-longer.ensures.read

pub suffixes-returns-clause-read : goal.suffixes-returns-clause-read
suffixes-returns-clause-read t c = record {
  turns = λ start all left values p.
      by_rule form.Suffixes 4 (no_suffix (drop c.loop-alloc.here.at c.args.words.now) (sym c.begins_suffix.ensures ∙ c.loop-alloc-test.false)) (lit< tt) (c.loop-alloc.invariant.turns start all left values p);
  moves = c.loop-alloc.invariant.moves;
}

pub postfix-returns-in_err-first-clause-refused : goal.postfix-returns-in_err-first-clause-refused
postfix-returns-in_err-first-clause-refused t c =
    let p1 = by_rule form.Postfix 0 (postfix_number (drop c.args.spot.at c.args.words.now)) (lit< tt) (starts c.args.words.now c.args.spot (N form.Postfix ∷ [])) in
    exits (N form.Primary ∷ []) _ c.from_residual.result c.in_err-first.field-0.0 c.from_residual.ensures.1 p1 c.in_err-first.ensures.refused

pub postfix-returns-in_err-whole-clause-refused : goal.postfix-returns-in_err-whole-clause-refused
postfix-returns-in_err-whole-clause-refused t c =
    let p1 = by_rule form.Postfix 0 (postfix_number (drop c.args.spot.at c.args.words.now)) (lit< tt) (starts c.args.words.now c.args.spot (N form.Postfix ∷ [])) in
    let p2 = read c.in_ok-first.ensures.read.leads p1 in
    let m2 : Moves c.args.words.now c.args.spot c.in_ok-first.one = c.in_ok-first.ensures.read.moves in
    exits_so c.args.words.now c.args.spot (N form.Postfix ∷ []) c.from_residual-in_err-whole.result c.in_err-whole.field-0.0 c.from_residual-in_err-whole.ensures.1 (c.in_err-whole.ensures.refused.halts _ _ [] _ p2)

pub postfix-returns-clause-read : goal.postfix-returns-clause-read
postfix-returns-clause-read t c =
    let p1 = by_rule form.Postfix 0 (postfix_number (drop c.args.spot.at c.args.words.now)) (lit< tt) (starts c.args.words.now c.args.spot (N form.Postfix ∷ [])) in
    let p2 = read c.in_ok-first.ensures.read.leads p1 in
    let m2 : Moves c.args.words.now c.args.spot c.in_ok-first.one = c.in_ok-first.ensures.read.moves in
    let p3 = c.in_ok-whole.ensures.read.turns _ _ [] _ p2 in
    let m3 : Moves c.args.words.now c.args.spot c.in_ok-whole.two = moved_then m2 (c.in_ok-whole.ensures.read.moves) in
    record { leads = p3; moves = m3 }

pub prefixed-returns-in_err-place-clause-refused : goal.prefixed-returns-in_err-place-clause-refused
prefixed-returns-in_err-place-clause-refused t c =
    let p1 = starts c.args.words.now c.args.spot (prefix c.args.sign c.args.op) in
    let p2 = entered p1 in
    exits (Here ∷ T c.args.sign ∷ []) _ c.from_residual.result c.in_err-place.field-0.0 c.from_residual.ensures.1 p2 c.in_err-place.ensures.refused

pub prefixed-returns-in_err-of-clause-refused : goal.prefixed-returns-in_err-of-clause-refused
prefixed-returns-in_err-of-clause-refused t c =
    let p1 = starts c.args.words.now c.args.spot (prefix c.args.sign c.args.op) in
    let p2 = entered p1 in
    let p3 = read c.in_ok-place.ensures.read p2 in
    let m3 : Moves c.args.words.now (deeper c.args.spot) c.in_ok-place.one = moved_by_one c.in_ok-place.ensures.place c.in_ok-place.ensures.more (c.requires.shallow.ended) in
    exits (N form.Cast ∷ []) _ c.from_residual-in_err-of.result c.in_err-of.field-0.0 c.from_residual-in_err-of.ensures.1 p3 c.in_err-of.ensures.refused

pub prefixed-returns-clause-read : goal.prefixed-returns-clause-read
prefixed-returns-clause-read t c =
    let p1 = starts c.args.words.now c.args.spot (prefix c.args.sign c.args.op) in
    let p2 = entered p1 in
    let p3 = read c.in_ok-place.ensures.read p2 in
    let m3 : Moves c.args.words.now (deeper c.args.spot) c.in_ok-place.one = moved_by_one c.in_ok-place.ensures.place c.in_ok-place.ensures.more (c.requires.shallow.ended) in
    let p4 = read c.in_ok-of.ensures.read.leads p3 in
    let m4 : Moves c.args.words.now (deeper c.args.spot) c.in_ok-of.two = moved_then m3 (c.in_ok-of.ensures.read.moves) in
    record { leads = rw (c.at_place.ensures, c.in_ok-operand.ensures) (leaves c.args.spot.depth m4.depth (made (λ built. refl) p4)); moves = moved_inside m4 }

pub unary-returns-in_err-signed-clause-refused : goal.unary-returns-in_err-signed-clause-refused
unary-returns-in_err-signed-clause-refused t c =
    let p1 = prefix_path c.args.words.now c.args.spot c.in-Some.sign c.in-Some.op c.in-Some.ensures.found.next c.in-Some.ensures.found.is in
    exits (prefix c.in-Some.sign c.in-Some.op) _ c.from_residual.result c.in_err-signed.field-0.0 c.from_residual.ensures.1 p1 c.in_err-signed.ensures.refused

pub unary-returns-in-Some-clause-read : goal.unary-returns-in-Some-clause-read
unary-returns-in-Some-clause-read t c =
    let p1 = prefix_path c.args.words.now c.args.spot c.in-Some.sign c.in-Some.op c.in-Some.ensures.found.next c.in-Some.ensures.found.is in
    let p2 = read c.in_ok-signed.ensures.read.leads p1 in
    let m2 : Moves c.args.words.now c.args.spot c.in_ok-signed.one = c.in_ok-signed.ensures.read.moves in
    record { leads = p2; moves = m2 }

pub unary-returns-in_err-size-clause-refused : goal.unary-returns-in_err-size-clause-refused
unary-returns-in_err-size-clause-refused t c =
    let p13 = by_rule form.Unary 5 (number_at form.Unary terminal.Sizeof (λ w ws. refl) (drop c.args.spot.at c.args.words.now) (sym c.next_is.ensures ∙ c.if-next_is.true)) (lit< tt) (starts c.args.words.now c.args.spot (N form.Unary ∷ [])) in
    exits (Here ∷ T terminal.Sizeof ∷ T terminal.Open ∷ N form.TypeName ∷ T terminal.Close ∷ B MakeSizeof ∷ []) _ c.from_residual-in_err-size.result c.in_err-size.field-0.0 c.from_residual-in_err-size.ensures.1 p13 c.in_err-size.ensures.refused

pub unary-returns-then-next_is-clause-read : goal.unary-returns-then-next_is-clause-read
unary-returns-then-next_is-clause-read t c =
    let p13 = by_rule form.Unary 5 (number_at form.Unary terminal.Sizeof (λ w ws. refl) (drop c.args.spot.at c.args.words.now) (sym c.next_is.ensures ∙ c.if-next_is.true)) (lit< tt) (starts c.args.words.now c.args.spot (N form.Unary ∷ [])) in
    let p14 = read c.in_ok-size.ensures.read.leads p13 in
    let m14 : Moves c.args.words.now c.args.spot c.in_ok-size.two = c.in_ok-size.ensures.read.moves in
    record { leads = p14; moves = m14 }

pub unary-returns-in_err-value-clause-refused : goal.unary-returns-in_err-value-clause-refused
unary-returns-in_err-value-clause-refused t c =
    let p25 = by_rule form.Unary 6 (postfix_next (drop c.args.spot.at c.args.words.now) c.in_default.ensures.none (sym c.next_is.ensures ∙ c.if-next_is.false) (sym c.begins_primary.ensures ∙ c.if-not-begins_primary.false)) (lit< tt) (starts c.args.words.now c.args.spot (N form.Unary ∷ [])) in
    exits (N form.Postfix ∷ []) _ c.from_residual-in_err-value.result c.in_err-value.field-0.0 c.from_residual-in_err-value.ensures.1 p25 c.in_err-value.ensures.refused

pub unary-returns-clause-read : goal.unary-returns-clause-read
unary-returns-clause-read t c =
    let p25 = by_rule form.Unary 6 (postfix_next (drop c.args.spot.at c.args.words.now) c.in_default.ensures.none (sym c.next_is.ensures ∙ c.if-next_is.false) (sym c.begins_primary.ensures ∙ c.if-not-begins_primary.false)) (lit< tt) (starts c.args.words.now c.args.spot (N form.Unary ∷ [])) in
    let p26 = read c.in_ok-value.ensures.read.leads p25 in
    let m26 : Moves c.args.words.now c.args.spot c.in_ok-value.three = c.in_ok-value.ensures.read.moves in
    record { leads = p26; moves = m26 }

pub unary-returns-then-not-begins_primary-clause-refused : goal.unary-returns-then-not-begins_primary-clause-refused
unary-returns-then-not-begins_primary-clause-refused t c =
    subst (λ (e : ParseError). Breaks NESTING c.args.words.now c.args.spot (N form.Unary ∷ []) e) (sym c.fault.ensures)
    (c.requires.ready.within, no_unary_stop c.args.words.now c.args.spot c.requires.ready.within c.in_default.ensures.none (sym c.next_is.ensures ∙ c.if-next_is.false) (sym c.begins_primary.ensures ∙ c.if-not-begins_primary.true))

pub typed-returns-in_err-place-clause-refused : goal.typed-returns-in_err-place-clause-refused
typed-returns-in_err-place-clause-refused t c =
    let p1 = starts c.args.words.now c.args.spot (typed_operand) in
    let p2 = entered p1 in
    exits (Here ∷ T terminal.Open ∷ []) _ c.from_residual.result c.in_err-place.field-0.0 c.from_residual.ensures.1 p2 c.in_err-place.ensures.refused

pub typed-returns-in_err-to-clause-refused : goal.typed-returns-in_err-to-clause-refused
typed-returns-in_err-to-clause-refused t c =
    let p1 = starts c.args.words.now c.args.spot (typed_operand) in
    let p2 = entered p1 in
    let p3 = read c.in_ok-place.ensures.read p2 in
    let m3 : Moves c.args.words.now (deeper c.args.spot) c.in_ok-place.one = moved_by_one c.in_ok-place.ensures.place c.in_ok-place.ensures.more (c.requires.shallow.ended) in
    exits (N form.TypeName ∷ []) _ c.from_residual-in_err-to.result c.in_err-to.field-0.0 c.from_residual-in_err-to.ensures.1 p3 c.in_err-to.ensures.refused

pub typed-returns-in_err-three-clause-refused : goal.typed-returns-in_err-three-clause-refused
typed-returns-in_err-three-clause-refused t c =
    let p1 = starts c.args.words.now c.args.spot (typed_operand) in
    let p2 = entered p1 in
    let p3 = read c.in_ok-place.ensures.read p2 in
    let m3 : Moves c.args.words.now (deeper c.args.spot) c.in_ok-place.one = moved_by_one c.in_ok-place.ensures.place c.in_ok-place.ensures.more (c.requires.shallow.ended) in
    let p4 = read c.in_ok-to.ensures.read.leads p3 in
    let m4 : Moves c.args.words.now (deeper c.args.spot) c.in_ok-to.two = moved_then m3 (moved_by_form c.in_ok-to.ensures.read (m3.ended)) in
    exits (T terminal.Close ∷ []) _ c.from_residual-in_err-three.result c.in_err-three.field-0.0 c.from_residual-in_err-three.ensures.1 p4 c.in_err-three.ensures.no_token

pub typed-returns-in_err-of-clause-refused : goal.typed-returns-in_err-of-clause-refused
typed-returns-in_err-of-clause-refused t c =
    let p1 = starts c.args.words.now c.args.spot (typed_operand) in
    let p2 = entered p1 in
    let p3 = read c.in_ok-place.ensures.read p2 in
    let m3 : Moves c.args.words.now (deeper c.args.spot) c.in_ok-place.one = moved_by_one c.in_ok-place.ensures.place c.in_ok-place.ensures.more (c.requires.shallow.ended) in
    let p4 = read c.in_ok-to.ensures.read.leads p3 in
    let m4 : Moves c.args.words.now (deeper c.args.spot) c.in_ok-to.two = moved_then m3 (moved_by_form c.in_ok-to.ensures.read (m3.ended)) in
    let p5 = read c.in_ok-three.ensures.token p4 in
    let m5 : Moves c.args.words.now (deeper c.args.spot) c.in_ok-three.three = moved_then m4 (moved_by_one c.in_ok-three.ensures.place c.in_ok-three.ensures.more (m4.ended)) in
    exits (N form.Cast ∷ []) _ c.from_residual-in_err-of.result c.in_err-of.field-0.0 c.from_residual-in_err-of.ensures.1 p5 c.in_err-of.ensures.refused

pub typed-returns-clause-read : goal.typed-returns-clause-read
typed-returns-clause-read t c =
    let p1 = starts c.args.words.now c.args.spot (typed_operand) in
    let p2 = entered p1 in
    let p3 = read c.in_ok-place.ensures.read p2 in
    let m3 : Moves c.args.words.now (deeper c.args.spot) c.in_ok-place.one = moved_by_one c.in_ok-place.ensures.place c.in_ok-place.ensures.more (c.requires.shallow.ended) in
    let p4 = read c.in_ok-to.ensures.read.leads p3 in
    let m4 : Moves c.args.words.now (deeper c.args.spot) c.in_ok-to.two = moved_then m3 (moved_by_form c.in_ok-to.ensures.read (m3.ended)) in
    let p5 = read c.in_ok-three.ensures.token p4 in
    let m5 : Moves c.args.words.now (deeper c.args.spot) c.in_ok-three.three = moved_then m4 (moved_by_one c.in_ok-three.ensures.place c.in_ok-three.ensures.more (m4.ended)) in
    let p6 = read c.in_ok-of.ensures.read.leads p5 in
    let m6 : Moves c.args.words.now (deeper c.args.spot) c.in_ok-of.four = moved_then m5 (c.in_ok-of.ensures.read.moves) in
    record { leads = rw (c.at_place.ensures, c.in_ok-operand.ensures) (leaves c.args.spot.depth m6.depth (made (λ built. refl) p6)); moves = moved_inside m6 }

pub cast-returns-in_err-converted-clause-refused : goal.cast-returns-in_err-converted-clause-refused
cast-returns-in_err-converted-clause-refused t c =
    let p1 = by_rule form.Cast 0 (cond-true _ _ _ (sym c.opens_type.ensures ∙ c.if-opens_type.true)) (lit< tt) (starts c.args.words.now c.args.spot (N form.Cast ∷ [])) in
    exits (typed_operand) _ c.from_residual.result c.in_err-converted.field-0.0 c.from_residual.ensures.1 p1 c.in_err-converted.ensures.refused

pub cast-returns-then-opens_type-clause-read : goal.cast-returns-then-opens_type-clause-read
cast-returns-then-opens_type-clause-read t c =
    let p1 = by_rule form.Cast 0 (cond-true _ _ _ (sym c.opens_type.ensures ∙ c.if-opens_type.true)) (lit< tt) (starts c.args.words.now c.args.spot (N form.Cast ∷ [])) in
    let p2 = read c.in_ok-converted.ensures.read.leads p1 in
    let m2 : Moves c.args.words.now c.args.spot c.in_ok-converted.one = c.in_ok-converted.ensures.read.moves in
    record { leads = p2; moves = m2 }

pub cast-returns-in_err-value-clause-refused : goal.cast-returns-in_err-value-clause-refused
cast-returns-in_err-value-clause-refused t c =
    let p13 = by_rule form.Cast 1 (cond-false _ _ _ (sym c.opens_type.ensures ∙ c.if-opens_type.false)) (lit< tt) (starts c.args.words.now c.args.spot (N form.Cast ∷ [])) in
    exits (N form.Unary ∷ []) _ c.from_residual-in_err-value.result c.in_err-value.field-0.0 c.from_residual-in_err-value.ensures.1 p13 c.in_err-value.ensures.refused

pub cast-returns-clause-read : goal.cast-returns-clause-read
cast-returns-clause-read t c =
    let p13 = by_rule form.Cast 1 (cond-false _ _ _ (sym c.opens_type.ensures ∙ c.if-opens_type.false)) (lit< tt) (starts c.args.words.now c.args.spot (N form.Cast ∷ [])) in
    let p14 = read c.in_ok-value.ensures.read.leads p13 in
    let m14 : Moves c.args.words.now c.args.spot c.in_ok-value.two = c.in_ok-value.ensures.read.moves in
    record { leads = p14; moves = m14 }

pub infix-returns-in_err-one-clause-refused : goal.infix-returns-in_err-one-clause-refused
infix-returns-in_err-one-clause-refused t c =
    halts_so c.args.words.now c.args.spot (λ back. T c.args.operator.sign ∷ M CountOperator ∷ N (operand (level_at c.args.operator.level)) ∷ B (MakeInfix c.args.operator.op) ∷ back) (OfExpression c.args.left) c.from_residual.result c.in_err-one.field-0.0 c.from_residual.ensures.1 (λ start all left values p.
    stops_at (T c.args.operator.sign ∷ []) _ c.in_err-one.field-0.0 p c.in_err-one.ensures.no_token)

pub infix-returns-in_err-other-clause-refused : goal.infix-returns-in_err-other-clause-refused
infix-returns-in_err-other-clause-refused t c =
    halts_so c.args.words.now c.args.spot (λ back. T c.args.operator.sign ∷ M CountOperator ∷ N (operand (level_at c.args.operator.level)) ∷ B (MakeInfix c.args.operator.op) ∷ back) (OfExpression c.args.left) c.from_residual-in_err-other.result c.in_err-other.field-0.0 c.from_residual-in_err-other.ensures.1 (λ start all left values p.
    let p1 = read c.in_ok-one.ensures.token p in
    let m1 : Moves c.args.words.now c.args.spot c.in_ok-one.one = moved_by_one c.in_ok-one.ensures.place c.in_ok-one.ensures.more (c.requires.shallow.ended) in
    let p2 = counted p1 in
    let m2 : Moves c.args.words.now c.args.spot (record c.in_ok-one.one { ended = c.in_ok-one.one.ended + 1 }) = moved_counted (omega (arith, c.in_ok-one.ensures.nesting, ap (λ s. s.ended) c.in_ok-one.ensures.place)) m1 in
    stops_at (N (operand (level_at c.args.operator.level)) ∷ []) _ c.in_err-other.field-0.0 p2 c.in_err-other.ensures.refused)

pub infix-returns-clause-read : goal.infix-returns-clause-read
infix-returns-clause-read t c =
    let m1 : Moves c.args.words.now c.args.spot c.in_ok-one.one = moved_by_one c.in_ok-one.ensures.place c.in_ok-one.ensures.more (c.requires.shallow.ended) in
    let m2 : Moves c.args.words.now c.args.spot (record c.in_ok-one.one { ended = c.in_ok-one.one.ended + 1 }) = moved_counted (omega (arith, c.in_ok-one.ensures.nesting, ap (λ s. s.ended) c.in_ok-one.ensures.place)) m1 in
    let m3 : Moves c.args.words.now c.args.spot c.in_ok-other.two = moved_then m2 (c.in_ok-other.ensures.read.moves) in
    record {
      turns = λ start all left values p.
          let p1 = read c.in_ok-one.ensures.token p in
          let p2 = counted p1 in
          let p3 = read c.in_ok-other.ensures.read.leads p2 in
          rw (c.at_place.ensures, c.in_ok-left.ensures, c.in_ok-right.ensures) (made (λ built. refl) p3);
      moves = m3;
    }

pub operands-loop-operator-init : goal.operands-loop-operator-init
operands-loop-operator-init t c = record { turned = turns_not c.requires.shallow.ended c.requires.ready.within; low = omega arith }

pub operands-returns-in_err-longer-clause-refused : goal.operands-returns-in_err-longer-clause-refused
operands-returns-in_err-longer-clause-refused t c =
    halts_so c.args.words.now c.args.spot (operands_between 0 c.args.bound) (OfExpression c.args.left) c.from_residual.result c.in_err-longer.field-0.0 c.from_residual.ensures.1 (λ start all left values p.
    c.in_err-longer.ensures.refused.halts _ _ (operands_between c.in-Some.operator.level c.args.bound left) _
    (to_operator left c.loop-operator.passed c.args.bound c.in-Some.operator c.requires.bound c.in-Some.ensures.found (c.loop-operator.invariant.turned.turns start all left values p)))

pub operands-loop-operator-preserved : goal.operands-loop-operator-preserved
operands-loop-operator-preserved t c =
    let longer = c.in_ok-longer.ensures.read in
    record {
      turned = record {
        turns = λ start all left values p.
            longer.turns _ _ (operands_between c.in-Some.operator.level c.args.bound left) _
            (to_operator left c.loop-operator.passed c.args.bound c.in-Some.operator c.requires.bound c.in-Some.ensures.found (c.loop-operator.invariant.turned.turns start all left values p));
        moves = moved_then c.loop-operator.invariant.turned.moves longer.moves;
      };
      low = omega (arith, c.in-Some.ensures.found.below);
    }

pub operands-returns-clause-read : goal.operands-returns-clause-read
operands-returns-clause-read t c = record {
  turns = λ start all left values p.
      no_operator left c.loop-operator.passed c.args.bound c.loop-operator.invariant.low c.requires.bound c.in_default.ensures.none (c.loop-operator.invariant.turned.turns start all left values p);
  moves = c.loop-operator.invariant.turned.moves;
}

pub operand-returns-in_err-first-clause-refused : goal.operand-returns-in_err-first-clause-refused
operand-returns-in_err-first-clause-refused t c =
    let p1 = down c.args.level c.requires.level (starts c.args.words.now c.args.spot (N (operand (level_at c.args.level)) ∷ [])) in
    exits (N form.Cast ∷ []) _ c.from_residual.result c.in_err-first.field-0.0 c.from_residual.ensures.1 p1 c.in_err-first.ensures.refused

pub operand-returns-in_err-whole-clause-refused : goal.operand-returns-in_err-whole-clause-refused
operand-returns-in_err-whole-clause-refused t c =
    let p1 = down c.args.level c.requires.level (starts c.args.words.now c.args.spot (N (operand (level_at c.args.level)) ∷ [])) in
    let p2 = read c.in_ok-first.ensures.read.leads p1 in
    let m2 : Moves c.args.words.now c.args.spot c.in_ok-first.one = c.in_ok-first.ensures.read.moves in
    exits_so c.args.words.now c.args.spot (N (operand (level_at c.args.level)) ∷ []) c.from_residual-in_err-whole.result c.in_err-whole.field-0.0 c.from_residual-in_err-whole.ensures.1 (c.in_err-whole.ensures.refused.halts _ _ [] _ p2)

pub operand-returns-clause-read : goal.operand-returns-clause-read
operand-returns-clause-read t c =
    let p1 = down c.args.level c.requires.level (starts c.args.words.now c.args.spot (N (operand (level_at c.args.level)) ∷ [])) in
    let p2 = read c.in_ok-first.ensures.read.leads p1 in
    let m2 : Moves c.args.words.now c.args.spot c.in_ok-first.one = c.in_ok-first.ensures.read.moves in
    let p3 = c.in_ok-whole.ensures.read.turns _ _ [] _ p2 in
    let m3 : Moves c.args.words.now c.args.spot c.in_ok-whole.two = moved_then m2 (c.in_ok-whole.ensures.read.moves) in
    record { leads = p3; moves = m3 }

pub choice-returns-in_err-one-clause-refused : goal.choice-returns-in_err-one-clause-refused
choice-returns-in_err-one-clause-refused t c =
    halts_so c.args.words.now c.args.spot (λ back. T terminal.Question ∷ N form.Expression ∷ T terminal.Colon ∷ M In ∷ N form.Conditional ∷ M Out ∷ B MakeChoice ∷ back) (OfExpression c.args.left) c.from_residual.result c.in_err-one.field-0.0 c.from_residual.ensures.1 (λ start all left values p.
    stops_at (T terminal.Question ∷ []) _ c.in_err-one.field-0.0 p c.in_err-one.ensures.no_token)

pub choice-returns-in_err-first-clause-refused : goal.choice-returns-in_err-first-clause-refused
choice-returns-in_err-first-clause-refused t c =
    halts_so c.args.words.now c.args.spot (λ back. T terminal.Question ∷ N form.Expression ∷ T terminal.Colon ∷ M In ∷ N form.Conditional ∷ M Out ∷ B MakeChoice ∷ back) (OfExpression c.args.left) c.from_residual-in_err-first.result c.in_err-first.field-0.0 c.from_residual-in_err-first.ensures.1 (λ start all left values p.
    let p1 = read c.in_ok-one.ensures.token p in
    let m1 : Moves c.args.words.now c.args.spot c.in_ok-one.one = moved_by_one c.in_ok-one.ensures.place c.in_ok-one.ensures.more (c.requires.shallow.ended) in
    stops_at (N form.Expression ∷ []) _ c.in_err-first.field-0.0 p1 c.in_err-first.ensures.refused)

pub choice-returns-in_err-three-clause-refused : goal.choice-returns-in_err-three-clause-refused
choice-returns-in_err-three-clause-refused t c =
    halts_so c.args.words.now c.args.spot (λ back. T terminal.Question ∷ N form.Expression ∷ T terminal.Colon ∷ M In ∷ N form.Conditional ∷ M Out ∷ B MakeChoice ∷ back) (OfExpression c.args.left) c.from_residual-in_err-three.result c.in_err-three.field-0.0 c.from_residual-in_err-three.ensures.1 (λ start all left values p.
    let p1 = read c.in_ok-one.ensures.token p in
    let m1 : Moves c.args.words.now c.args.spot c.in_ok-one.one = moved_by_one c.in_ok-one.ensures.place c.in_ok-one.ensures.more (c.requires.shallow.ended) in
    let p2 = read c.in_ok-first.ensures.read.leads p1 in
    let m2 : Moves c.args.words.now c.args.spot c.in_ok-first.two = moved_then m1 (c.in_ok-first.ensures.read.moves) in
    stops_at (T terminal.Colon ∷ []) _ c.in_err-three.field-0.0 p2 c.in_err-three.ensures.no_token)

pub choice-returns-in_err-second-clause-refused : goal.choice-returns-in_err-second-clause-refused
choice-returns-in_err-second-clause-refused t c =
    halts_so c.args.words.now c.args.spot (λ back. T terminal.Question ∷ N form.Expression ∷ T terminal.Colon ∷ M In ∷ N form.Conditional ∷ M Out ∷ B MakeChoice ∷ back) (OfExpression c.args.left) c.from_residual-in_err-second.result c.in_err-second.field-0.0 c.from_residual-in_err-second.ensures.1 (λ start all left values p.
    let p1 = read c.in_ok-one.ensures.token p in
    let m1 : Moves c.args.words.now c.args.spot c.in_ok-one.one = moved_by_one c.in_ok-one.ensures.place c.in_ok-one.ensures.more (c.requires.shallow.ended) in
    let p2 = read c.in_ok-first.ensures.read.leads p1 in
    let m2 : Moves c.args.words.now c.args.spot c.in_ok-first.two = moved_then m1 (c.in_ok-first.ensures.read.moves) in
    let p3 = read c.in_ok-three.ensures.token p2 in
    let m3 : Moves c.args.words.now c.args.spot c.in_ok-three.three = moved_then m2 (moved_by_one c.in_ok-three.ensures.place c.in_ok-three.ensures.more (m2.ended)) in
    let p4 = entered p3 in
    stops_at (N form.Conditional ∷ []) _ c.in_err-second.field-0.0 p4 c.in_err-second.ensures.refused)

pub choice-returns-clause-read : goal.choice-returns-clause-read
choice-returns-clause-read t c =
    let m1 : Moves c.args.words.now c.args.spot c.in_ok-one.one = moved_by_one c.in_ok-one.ensures.place c.in_ok-one.ensures.more (c.requires.shallow.ended) in
    let m2 : Moves c.args.words.now c.args.spot c.in_ok-first.two = moved_then m1 (c.in_ok-first.ensures.read.moves) in
    let m3 : Moves c.args.words.now c.args.spot c.in_ok-three.three = moved_then m2 (moved_by_one c.in_ok-three.ensures.place c.in_ok-three.ensures.more (m2.ended)) in
    record {
      turns = λ start all left values p.
          let p1 = read c.in_ok-one.ensures.token p in
          let p2 = read c.in_ok-first.ensures.read.leads p1 in
          let p3 = read c.in_ok-three.ensures.token p2 in
          let p4 = entered p3 in
          let p5 = read c.in_ok-second.ensures.read.leads p4 in
          let p6 = leaves c.in_ok-three.three.depth c.in_ok-second.ensures.read.moves.depth p5 in
          rw c.in_ok-chosen.ensures.value (made (λ built. refl) p6);
      moves = moved_then m3 (moved_inside c.in_ok-second.ensures.read.moves);
    }

pub choice-returns-in_err-chosen-clause-refused : goal.choice-returns-in_err-chosen-clause-refused
choice-returns-in_err-chosen-clause-refused t c =
    halts_memory c.args.words.now c.args.spot (λ back. T terminal.Question ∷ N form.Expression ∷ T terminal.Colon ∷ M In ∷ N form.Conditional ∷ M Out ∷ B MakeChoice ∷ back) (OfExpression c.args.left) c.from_residual-in_err-chosen.result c.in_err-chosen.field-0.0 c.from_residual-in_err-chosen.ensures.1 c.in_err-chosen.ensures.refused

pub rest-returns-in_err-whole-clause-refused : goal.rest-returns-in_err-whole-clause-refused
rest-returns-in_err-whole-clause-refused t c =
    halts_so c.args.words.now c.args.spot (λ back. operands_between 0 10 (N form.PerhapsChoice ∷ back)) (OfExpression c.args.left) c.from_residual.result c.in_err-whole.field-0.0 c.from_residual.ensures.1 (λ start all left values p.
    c.in_err-whole.ensures.refused.halts _ _ (N form.PerhapsChoice ∷ left) _ p)

pub rest-returns-then-not-next_is-clause-read : goal.rest-returns-then-not-next_is-clause-read
rest-returns-then-not-next_is-clause-read t c =
    let m1 : Moves c.args.words.now c.args.spot c.in_ok-whole.one = c.in_ok-whole.ensures.read.moves in
    record {
      turns = λ start all left values p.
          let p1 = c.in_ok-whole.ensures.read.turns _ _ (N form.PerhapsChoice ∷ left) _ p in
          by_rule form.PerhapsChoice 1 (number_else form.PerhapsChoice terminal.Question (λ w ws. refl) refl (drop c.in_ok-whole.one.at c.args.words.now) false (sym c.next_is.ensures ∙ c.if-not-next_is.true)) (lit< tt) p1;
      moves = m1;
    }

pub rest-returns-in_err-chosen-clause-refused : goal.rest-returns-in_err-chosen-clause-refused
rest-returns-in_err-chosen-clause-refused t c =
    halts_so c.args.words.now c.args.spot (λ back. operands_between 0 10 (N form.PerhapsChoice ∷ back)) (OfExpression c.args.left) c.from_residual-in_err-chosen.result c.in_err-chosen.field-0.0 c.from_residual-in_err-chosen.ensures.1 (λ start all left values p.
    let p1 = c.in_ok-whole.ensures.read.turns _ _ (N form.PerhapsChoice ∷ left) _ p in
    let m1 : Moves c.args.words.now c.args.spot c.in_ok-whole.one = c.in_ok-whole.ensures.read.moves in
    let p2 = by_rule form.PerhapsChoice 0 (number_else form.PerhapsChoice terminal.Question (λ w ws. refl) refl (drop c.in_ok-whole.one.at c.args.words.now) true (sym c.next_is.ensures ∙ c.if-not-next_is.false)) (lit< tt) p1 in
    c.in_err-chosen.ensures.refused.halts _ _ left _ p2)

pub rest-returns-clause-read : goal.rest-returns-clause-read
rest-returns-clause-read t c =
    let m1 : Moves c.args.words.now c.args.spot c.in_ok-whole.one = c.in_ok-whole.ensures.read.moves in
    let m3 : Moves c.args.words.now c.args.spot c.in_ok-chosen.two = moved_then m1 (c.in_ok-chosen.ensures.read.moves) in
    record {
      turns = λ start all left values p.
          let p1 = c.in_ok-whole.ensures.read.turns _ _ (N form.PerhapsChoice ∷ left) _ p in
          let p2 = by_rule form.PerhapsChoice 0 (number_else form.PerhapsChoice terminal.Question (λ w ws. refl) refl (drop c.in_ok-whole.one.at c.args.words.now) true (sym c.next_is.ensures ∙ c.if-not-next_is.false)) (lit< tt) p1 in
          let p3 = c.in_ok-chosen.ensures.read.turns _ _ left _ p2 in
          p3;
      moves = m3;
    }

pub conditional-returns-in_err-first-clause-refused : goal.conditional-returns-in_err-first-clause-refused
conditional-returns-in_err-first-clause-refused t c =
    let p1 = conditional_down (by_rule form.Conditional 0 (conditional_number (drop c.args.spot.at c.args.words.now)) (lit< tt) (starts c.args.words.now c.args.spot (N form.Conditional ∷ []))) in
    exits (N form.Cast ∷ []) _ c.from_residual.result c.in_err-first.field-0.0 c.from_residual.ensures.1 p1 c.in_err-first.ensures.refused

pub conditional-returns-in_err-whole-clause-refused : goal.conditional-returns-in_err-whole-clause-refused
conditional-returns-in_err-whole-clause-refused t c =
    let p1 = conditional_down (by_rule form.Conditional 0 (conditional_number (drop c.args.spot.at c.args.words.now)) (lit< tt) (starts c.args.words.now c.args.spot (N form.Conditional ∷ []))) in
    let p2 = read c.in_ok-first.ensures.read.leads p1 in
    let m2 : Moves c.args.words.now c.args.spot c.in_ok-first.one = c.in_ok-first.ensures.read.moves in
    exits_so c.args.words.now c.args.spot (N form.Conditional ∷ []) c.from_residual-in_err-whole.result c.in_err-whole.field-0.0 c.from_residual-in_err-whole.ensures.1 (c.in_err-whole.ensures.refused.halts _ _ [] _ p2)

pub conditional-returns-clause-read : goal.conditional-returns-clause-read
conditional-returns-clause-read t c =
    let p1 = conditional_down (by_rule form.Conditional 0 (conditional_number (drop c.args.spot.at c.args.words.now)) (lit< tt) (starts c.args.words.now c.args.spot (N form.Conditional ∷ []))) in
    let p2 = read c.in_ok-first.ensures.read.leads p1 in
    let m2 : Moves c.args.words.now c.args.spot c.in_ok-first.one = c.in_ok-first.ensures.read.moves in
    let p3 = c.in_ok-whole.ensures.read.turns _ _ [] _ p2 in
    let m3 : Moves c.args.words.now c.args.spot c.in_ok-whole.two = moved_then m2 (c.in_ok-whole.ensures.read.moves) in
    record { leads = p3; moves = m3 }

pub assigned-returns-in_err-one-clause-refused : goal.assigned-returns-in_err-one-clause-refused
assigned-returns-in_err-one-clause-refused t c =
    halts_so c.args.words.now c.args.spot (λ back. T terminal.Equals ∷ N form.Assign ∷ B MakeAssign ∷ back) (OfExpression c.args.left) c.from_residual.result c.in_err-one.field-0.0 c.from_residual.ensures.1 (λ start all left values p.
    stops_at (T terminal.Equals ∷ []) _ c.in_err-one.field-0.0 p c.in_err-one.ensures.no_token)

pub assigned-returns-in_err-right-clause-refused : goal.assigned-returns-in_err-right-clause-refused
assigned-returns-in_err-right-clause-refused t c =
    halts_so c.args.words.now c.args.spot (λ back. T terminal.Equals ∷ N form.Assign ∷ B MakeAssign ∷ back) (OfExpression c.args.left) c.from_residual-in_err-right.result c.in_err-right.field-0.0 c.from_residual-in_err-right.ensures.1 (λ start all left values p.
    let p1 = read c.in_ok-one.ensures.token p in
    let m1 : Moves c.args.words.now c.args.spot c.in_ok-one.one = moved_by_one c.in_ok-one.ensures.place c.in_ok-one.ensures.more (c.requires.shallow.ended) in
    stops_at (N form.Assign ∷ []) _ c.in_err-right.field-0.0 p1 c.in_err-right.ensures.refused)

pub assigned-returns-clause-read : goal.assigned-returns-clause-read
assigned-returns-clause-read t c =
    let m1 : Moves c.args.words.now c.args.spot c.in_ok-one.one = moved_by_one c.in_ok-one.ensures.place c.in_ok-one.ensures.more (c.requires.shallow.ended) in
    let m2 : Moves c.args.words.now c.args.spot c.in_ok-right.two = moved_then m1 (c.in_ok-right.ensures.read.moves) in
    record {
      turns = λ start all left values p.
          let p1 = read c.in_ok-one.ensures.token p in
          let p2 = read c.in_ok-right.ensures.read.leads p1 in
          rw (c.at_place.ensures, c.in_ok-to.ensures, c.in_ok-from.ensures) (made (λ built. refl) p2);
      moves = m2;
    }

pub after_unary-returns-in_err-set-clause-refused : goal.after_unary-returns-in_err-set-clause-refused
after_unary-returns-in_err-set-clause-refused t c =
    halts_so c.args.words.now c.args.spot (λ back. N (Left AfterUnary) ∷ back) (OfExpression c.args.left) c.from_residual.result c.in_err-set.field-0.0 c.from_residual.ensures.1 (λ start all left values p.
    let p1 = by_rule (Left AfterUnary) 0 (number_at (Left AfterUnary) terminal.Equals (λ w ws. refl) (drop c.args.spot.at c.args.words.now) (sym c.next_is.ensures ∙ c.if-next_is.true)) (lit< tt) p in
    c.in_err-set.ensures.refused.halts _ _ (M Out ∷ left) _ p1)

pub after_unary-returns-then-next_is-clause-read : goal.after_unary-returns-then-next_is-clause-read
after_unary-returns-then-next_is-clause-read t c =
    let m2 : Moves c.args.words.now c.args.spot c.in_ok-set.one = c.in_ok-set.ensures.read.moves in
    record {
      turns = λ start all left values p.
          let p1 = by_rule (Left AfterUnary) 0 (number_at (Left AfterUnary) terminal.Equals (λ w ws. refl) (drop c.args.spot.at c.args.words.now) (sym c.next_is.ensures ∙ c.if-next_is.true)) (lit< tt) p in
          let p2 = c.in_ok-set.ensures.read.turns _ _ (M Out ∷ left) _ p1 in
          p2;
      moves = m2;
    }

pub after_unary-returns-in_err-whole-clause-refused : goal.after_unary-returns-in_err-whole-clause-refused
after_unary-returns-in_err-whole-clause-refused t c =
    halts_so c.args.words.now c.args.spot (λ back. N (Left AfterUnary) ∷ back) (OfExpression c.args.left) c.from_residual-in_err-whole.result c.in_err-whole.field-0.0 c.from_residual-in_err-whole.ensures.1 (λ start all left values p.
    let p13 = by_rule (Left AfterUnary) 1 (after_number (drop c.args.spot.at c.args.words.now) (sym c.next_is.ensures ∙ c.if-next_is.false)) (lit< tt) p in
    c.in_err-whole.ensures.refused.halts _ _ (M Out ∷ left) _ p13)

pub after_unary-returns-clause-read : goal.after_unary-returns-clause-read
after_unary-returns-clause-read t c =
    let m14 : Moves c.args.words.now c.args.spot c.in_ok-whole.two = c.in_ok-whole.ensures.read.moves in
    record {
      turns = λ start all left values p.
          let p13 = by_rule (Left AfterUnary) 1 (after_number (drop c.args.spot.at c.args.words.now) (sym c.next_is.ensures ∙ c.if-next_is.false)) (lit< tt) p in
          let p14 = c.in_ok-whole.ensures.read.turns _ _ (M Out ∷ left) _ p13 in
          p14;
      moves = m14;
    }

pub assign-returns-in_err-first-clause-refused : goal.assign-returns-in_err-first-clause-refused
assign-returns-in_err-first-clause-refused t c =
    let p1 = by_rule form.Assign 1 (cond-true _ _ _ (sym c.opens_type.ensures ∙ c.if-opens_type.true)) (lit< tt) (starts c.args.words.now c.args.spot (N form.Assign ∷ [])) in
    let p2 = entered p1 in
    exits (typed_operand) _ c.from_residual.result c.in_err-first.field-0.0 c.from_residual.ensures.1 p2 c.in_err-first.ensures.refused

pub assign-returns-in_err-whole-clause-refused : goal.assign-returns-in_err-whole-clause-refused
assign-returns-in_err-whole-clause-refused t c =
    let p1 = by_rule form.Assign 1 (cond-true _ _ _ (sym c.opens_type.ensures ∙ c.if-opens_type.true)) (lit< tt) (starts c.args.words.now c.args.spot (N form.Assign ∷ [])) in
    let p2 = entered p1 in
    let p3 = read c.in_ok-first.ensures.read.leads p2 in
    let m3 : Moves c.args.words.now (deeper c.args.spot) c.in_ok-first.one = c.in_ok-first.ensures.read.moves in
    exits_so c.args.words.now c.args.spot (N form.Assign ∷ []) c.from_residual-in_err-whole.result c.in_err-whole.field-0.0 c.from_residual-in_err-whole.ensures.1 (c.in_err-whole.ensures.refused.halts _ _ (M Out ∷ []) _ p3)

pub assign-returns-then-opens_type-clause-read : goal.assign-returns-then-opens_type-clause-read
assign-returns-then-opens_type-clause-read t c =
    let p1 = by_rule form.Assign 1 (cond-true _ _ _ (sym c.opens_type.ensures ∙ c.if-opens_type.true)) (lit< tt) (starts c.args.words.now c.args.spot (N form.Assign ∷ [])) in
    let p2 = entered p1 in
    let p3 = read c.in_ok-first.ensures.read.leads p2 in
    let m3 : Moves c.args.words.now (deeper c.args.spot) c.in_ok-first.one = c.in_ok-first.ensures.read.moves in
    let p4 = c.in_ok-whole.ensures.read.turns _ _ (M Out ∷ []) _ p3 in
    let m4 : Moves c.args.words.now (deeper c.args.spot) c.in_ok-whole.two = moved_then m3 (c.in_ok-whole.ensures.read.moves) in
    record { leads = leaves c.args.spot.depth m4.depth p4; moves = moved_inside m4 }

pub assign-returns-in_err-operand-clause-refused : goal.assign-returns-in_err-operand-clause-refused
assign-returns-in_err-operand-clause-refused t c =
    let p15 = by_rule form.Assign 0 (cond-false _ _ _ (sym c.opens_type.ensures ∙ c.if-opens_type.false)) (lit< tt) (starts c.args.words.now c.args.spot (N form.Assign ∷ [])) in
    let p16 = entered p15 in
    exits (N form.Unary ∷ []) _ c.from_residual-in_err-operand.result c.in_err-operand.field-0.0 c.from_residual-in_err-operand.ensures.1 p16 c.in_err-operand.ensures.refused

pub assign-returns-in_err-value-clause-refused : goal.assign-returns-in_err-value-clause-refused
assign-returns-in_err-value-clause-refused t c =
    let p15 = by_rule form.Assign 0 (cond-false _ _ _ (sym c.opens_type.ensures ∙ c.if-opens_type.false)) (lit< tt) (starts c.args.words.now c.args.spot (N form.Assign ∷ [])) in
    let p16 = entered p15 in
    let p17 = read c.in_ok-operand.ensures.read.leads p16 in
    let m17 : Moves c.args.words.now (deeper c.args.spot) c.in_ok-operand.three = c.in_ok-operand.ensures.read.moves in
    exits_so c.args.words.now c.args.spot (N form.Assign ∷ []) c.from_residual-in_err-value.result c.in_err-value.field-0.0 c.from_residual-in_err-value.ensures.1 (c.in_err-value.ensures.refused.halts _ _ [] _ p17)

pub assign-returns-clause-read : goal.assign-returns-clause-read
assign-returns-clause-read t c =
    let p15 = by_rule form.Assign 0 (cond-false _ _ _ (sym c.opens_type.ensures ∙ c.if-opens_type.false)) (lit< tt) (starts c.args.words.now c.args.spot (N form.Assign ∷ [])) in
    let p16 = entered p15 in
    let p17 = read c.in_ok-operand.ensures.read.leads p16 in
    let m17 : Moves c.args.words.now (deeper c.args.spot) c.in_ok-operand.three = c.in_ok-operand.ensures.read.moves in
    let p18 = c.in_ok-value.ensures.read.turns _ _ [] _ p17 in
    let m18 : Moves c.args.words.now (deeper c.args.spot) c.in_ok-value.four = moved_then m17 (c.in_ok-value.ensures.read.moves) in
    record { leads = leaves c.args.spot.depth m18.depth p18; moves = moved_inside m18 }

pub expression-returns-in_err-value-clause-refused : goal.expression-returns-in_err-value-clause-refused
expression-returns-in_err-value-clause-refused t c =
    let p1 = by_rule form.Expression 0 (expression_number (drop c.args.spot.at c.args.words.now)) (lit< tt) (starts c.args.words.now c.args.spot (N form.Expression ∷ [])) in
    exits (N form.Assign ∷ []) _ c.from_residual.result c.in_err-value.field-0.0 c.from_residual.ensures.1 p1 c.in_err-value.ensures.refused

pub expression-returns-clause-read : goal.expression-returns-clause-read
expression-returns-clause-read t c =
    let p1 = by_rule form.Expression 0 (expression_number (drop c.args.spot.at c.args.words.now)) (lit< tt) (starts c.args.words.now c.args.spot (N form.Expression ∷ [])) in
    let p2 = read c.in_ok-value.ensures.read.leads p1 in
    let m2 : Moves c.args.words.now c.args.spot c.in_ok-value.one = c.in_ok-value.ensures.read.moves in
    record { leads = p2; moves = m2 }

pub arguments-returns-then-not-begins_expression-clause-read : goal.arguments-returns-then-not-begins_expression-clause-read
arguments-returns-then-not-begins_expression-clause-read t c = record {
  leads = rw c.new-arguments.ensures (made (λ built. refl) (by_rule form.Arguments 1 (arguments_number (drop c.args.spot.at c.args.words.now) false (sym c.begins_expression.ensures ∙ c.if-not-begins_expression.true)) (lit< tt) (starts c.args.words.now c.args.spot (N form.Arguments ∷ []))));
  moves = stays c.requires.shallow.ended c.requires.ready.within;
}

pub arguments-returns-in_err-first-clause-refused : goal.arguments-returns-in_err-first-clause-refused
arguments-returns-in_err-first-clause-refused t c =
    let p = by_rule form.Arguments 0 (arguments_number (drop c.args.spot.at c.args.words.now) true (sym c.begins_expression.ensures ∙ c.if-not-begins_expression.false)) (lit< tt) (starts c.args.words.now c.args.spot (N form.Arguments ∷ [])) in
    exits (N form.Assign ∷ []) _ c.from_residual.result c.in_err-first.field-0.0 c.from_residual.ensures.1 p c.in_err-first.ensures.refused

pub arguments-loop-alloc-init : goal.arguments-loop-alloc-init
arguments-loop-alloc-init t c =
    let p = by_rule form.Arguments 0 (arguments_number (drop c.args.spot.at c.args.words.now) true (sym c.begins_expression.ensures ∙ c.if-not-begins_expression.false)) (lit< tt) (starts c.args.words.now c.args.spot (N form.Arguments ∷ [])) in
    record {
      path = rw (c.in_ok-push.ensures.ok, c.new-arguments.ensures) (made (λ built. refl) (read c.in_ok-first.ensures.read.leads p));
      moves = c.in_ok-first.ensures.read.moves;
    }

pub arguments-returns-in_err-two-clause-refused : goal.arguments-returns-in_err-two-clause-refused
arguments-returns-in_err-two-clause-refused t c =
    let p = by_rule form.MoreArguments 0 (number_else form.MoreArguments terminal.Comma (λ w ws. refl) refl (drop c.loop-alloc.here.at c.args.words.now) true (sym c.next_is.ensures ∙ c.loop-alloc-test.true)) (lit< tt) c.loop-alloc.invariant.path in
    exits (T terminal.Comma ∷ []) _ c.from_residual-in_err-two.result c.in_err-two.field-0.0 c.from_residual-in_err-two.ensures.1 p c.in_err-two.ensures.no_token

pub arguments-returns-in_err-next-clause-refused : goal.arguments-returns-in_err-next-clause-refused
arguments-returns-in_err-next-clause-refused t c =
    let p = by_rule form.MoreArguments 0 (number_else form.MoreArguments terminal.Comma (λ w ws. refl) refl (drop c.loop-alloc.here.at c.args.words.now) true (sym c.next_is.ensures ∙ c.loop-alloc-test.true)) (lit< tt) c.loop-alloc.invariant.path in
    let q = read c.in_ok-two.ensures.token p in
    exits (N form.Assign ∷ []) _ c.from_residual-in_err-next.result c.in_err-next.field-0.0 c.from_residual-in_err-next.ensures.1 q c.in_err-next.ensures.refused

pub arguments-loop-alloc-preserved : goal.arguments-loop-alloc-preserved
arguments-loop-alloc-preserved t c =
    let p = by_rule form.MoreArguments 0 (number_else form.MoreArguments terminal.Comma (λ w ws. refl) refl (drop c.loop-alloc.here.at c.args.words.now) true (sym c.next_is.ensures ∙ c.loop-alloc-test.true)) (lit< tt) c.loop-alloc.invariant.path in
    let q = read c.in_ok-two.ensures.token p in
    let known = c.loop-alloc.invariant.moves in
    record {
      path = rw c.in_ok-push-2.ensures.ok (made (λ built. refl) (read c.in_ok-next.ensures.read.leads q));
      moves = moved_then known (moved_then (moved_by_one c.in_ok-two.ensures.place c.in_ok-two.ensures.more known.ended) c.in_ok-next.ensures.read.moves);
    }

pub arguments-returns-clause-read : goal.arguments-returns-clause-read
arguments-returns-clause-read t c = record {
  leads = by_rule form.MoreArguments 1 (number_else form.MoreArguments terminal.Comma (λ w ws. refl) refl (drop c.loop-alloc.here.at c.args.words.now) false (sym c.next_is.ensures ∙ c.loop-alloc-test.false)) (lit< tt) c.loop-alloc.invariant.path;
  moves = c.loop-alloc.invariant.moves;
}
