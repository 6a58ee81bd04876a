use Rattle.std.proofs.Common.{[], ◌∷◌, drop, true, false, refl, sym, ap, ◌∙◌, arith, lit<}
use Rattle.c_ast.specs.declared.program.StatementKind as statement
use Rattle.c_grammar.specs.declared.words.Terminal.TheVariants as terminal
use Rattle.c_grammar.specs.Grammar as form
use Rattle.c_grammar.specs.Grammar.{AfterUnary, B, CountOperator, Here, In, L, Left, M, N, Out, T, Symbol, operand, prefix}
use Rattle.c_parser.specs.Parts.{Moves}
use Rattle.c_grammar.specs.Steps.{Give, OfKind, MakeEval, MakeReturn, MakeWhile, MakeDoWhile, MakeFor}
use Rattle.c_parser.proofs.NumberLemmas.{number_at, number_else}
use Rattle.c_parser.proofs.StatementLemmas.{statement_number, block_number, not_begun, evaluation_number, other_number, declaration_next, statement_next, no_item}
use Rattle.c_parser.proofs.Chains.{guarded, deeper, starts, by_rule, read, made, entered, leaves, exits, exits_so, stops_at, sticks_so, exits_memory, moved_by_one, moved_then, moved_inside}
use Rattle.c_parser.proofs.statements.+statements.Goals as goal

pub branching-returns-in_err-one-clause-refused : goal.branching-returns-in_err-one-clause-refused
branching-returns-in_err-one-clause-refused t c =
    let p1 = starts c.args.words.now c.args.spot (T terminal.If ∷ T terminal.Open ∷ N form.Whole ∷ T terminal.Close ∷ N form.Statement ∷ N form.PerhapsElse ∷ []) in
    exits (T terminal.If ∷ []) _ c.from_residual.result c.in_err-one.field-0.0 c.from_residual.ensures.1 p1 c.in_err-one.ensures.no_token

pub branching-returns-in_err-two-clause-refused : goal.branching-returns-in_err-two-clause-refused
branching-returns-in_err-two-clause-refused t c =
    let p1 = starts c.args.words.now c.args.spot (T terminal.If ∷ T terminal.Open ∷ N form.Whole ∷ T terminal.Close ∷ N form.Statement ∷ N form.PerhapsElse ∷ []) in
    let p2 = read c.in_ok-one.ensures.token p1 in
    let m2 : Moves c.args.words.now c.args.spot c.in_ok-one.one = moved_by_one c.in_ok-one.ensures.place c.in_ok-one.ensures.more (c.requires.shallow.ended) in
    exits (T terminal.Open ∷ []) _ c.from_residual-in_err-two.result c.in_err-two.field-0.0 c.from_residual-in_err-two.ensures.1 p2 c.in_err-two.ensures.no_token

pub branching-returns-in_err-test-clause-refused : goal.branching-returns-in_err-test-clause-refused
branching-returns-in_err-test-clause-refused t c =
    let p1 = starts c.args.words.now c.args.spot (T terminal.If ∷ T terminal.Open ∷ N form.Whole ∷ T terminal.Close ∷ N form.Statement ∷ N form.PerhapsElse ∷ []) in
    let p2 = read c.in_ok-one.ensures.token p1 in
    let m2 : Moves c.args.words.now c.args.spot c.in_ok-one.one = moved_by_one c.in_ok-one.ensures.place c.in_ok-one.ensures.more (c.requires.shallow.ended) in
    let p3 = read c.in_ok-two.ensures.token p2 in
    let m3 : Moves c.args.words.now c.args.spot c.in_ok-two.two = moved_then m2 (moved_by_one c.in_ok-two.ensures.place c.in_ok-two.ensures.more (m2.ended)) in
    exits (N form.Whole ∷ []) _ c.from_residual-in_err-test.result c.in_err-test.field-0.0 c.from_residual-in_err-test.ensures.1 p3 c.in_err-test.ensures.refused

pub branching-returns-in_err-four-clause-refused : goal.branching-returns-in_err-four-clause-refused
branching-returns-in_err-four-clause-refused t c =
    let p1 = starts c.args.words.now c.args.spot (T terminal.If ∷ T terminal.Open ∷ N form.Whole ∷ T terminal.Close ∷ N form.Statement ∷ N form.PerhapsElse ∷ []) in
    let p2 = read c.in_ok-one.ensures.token p1 in
    let m2 : Moves c.args.words.now c.args.spot c.in_ok-one.one = moved_by_one c.in_ok-one.ensures.place c.in_ok-one.ensures.more (c.requires.shallow.ended) in
    let p3 = read c.in_ok-two.ensures.token p2 in
    let m3 : Moves c.args.words.now c.args.spot c.in_ok-two.two = moved_then m2 (moved_by_one c.in_ok-two.ensures.place c.in_ok-two.ensures.more (m2.ended)) in
    let p4 = read c.in_ok-test.ensures.read.leads p3 in
    let m4 : Moves c.args.words.now c.args.spot c.in_ok-test.three = moved_then m3 (c.in_ok-test.ensures.read.moves) in
    exits (T terminal.Close ∷ []) _ c.from_residual-in_err-four.result c.in_err-four.field-0.0 c.from_residual-in_err-four.ensures.1 p4 c.in_err-four.ensures.no_token

pub branching-returns-in_err-first-clause-refused : goal.branching-returns-in_err-first-clause-refused
branching-returns-in_err-first-clause-refused t c =
    let p1 = starts c.args.words.now c.args.spot (T terminal.If ∷ T terminal.Open ∷ N form.Whole ∷ T terminal.Close ∷ N form.Statement ∷ N form.PerhapsElse ∷ []) in
    let p2 = read c.in_ok-one.ensures.token p1 in
    let m2 : Moves c.args.words.now c.args.spot c.in_ok-one.one = moved_by_one c.in_ok-one.ensures.place c.in_ok-one.ensures.more (c.requires.shallow.ended) in
    let p3 = read c.in_ok-two.ensures.token p2 in
    let m3 : Moves c.args.words.now c.args.spot c.in_ok-two.two = moved_then m2 (moved_by_one c.in_ok-two.ensures.place c.in_ok-two.ensures.more (m2.ended)) in
    let p4 = read c.in_ok-test.ensures.read.leads p3 in
    let m4 : Moves c.args.words.now c.args.spot c.in_ok-test.three = moved_then m3 (c.in_ok-test.ensures.read.moves) in
    let p5 = read c.in_ok-four.ensures.token p4 in
    let m5 : Moves c.args.words.now c.args.spot c.in_ok-four.four = moved_then m4 (moved_by_one c.in_ok-four.ensures.place c.in_ok-four.ensures.more (m4.ended)) in
    exits (N form.Statement ∷ []) _ c.from_residual-in_err-first.result c.in_err-first.field-0.0 c.from_residual-in_err-first.ensures.1 p5 c.in_err-first.ensures.refused

pub branching-returns-in_err-alone-clause-refused : goal.branching-returns-in_err-alone-clause-refused
branching-returns-in_err-alone-clause-refused t c = exits_memory c.args.words.now c.args.spot (T terminal.If ∷ T terminal.Open ∷ N form.Whole ∷ T terminal.Close ∷ N form.Statement ∷ N form.PerhapsElse ∷ []) c.from_residual-in_err-alone.result c.in_err-alone.field-0.0 c.from_residual-in_err-alone.ensures.1 c.in_err-alone.ensures.refused

pub branching-returns-then-not-next_is-clause-read : goal.branching-returns-then-not-next_is-clause-read
branching-returns-then-not-next_is-clause-read t c =
    let p1 = starts c.args.words.now c.args.spot (T terminal.If ∷ T terminal.Open ∷ N form.Whole ∷ T terminal.Close ∷ N form.Statement ∷ N form.PerhapsElse ∷ []) in
    let p2 = read c.in_ok-one.ensures.token p1 in
    let m2 : Moves c.args.words.now c.args.spot c.in_ok-one.one = moved_by_one c.in_ok-one.ensures.place c.in_ok-one.ensures.more (c.requires.shallow.ended) in
    let p3 = read c.in_ok-two.ensures.token p2 in
    let m3 : Moves c.args.words.now c.args.spot c.in_ok-two.two = moved_then m2 (moved_by_one c.in_ok-two.ensures.place c.in_ok-two.ensures.more (m2.ended)) in
    let p4 = read c.in_ok-test.ensures.read.leads p3 in
    let m4 : Moves c.args.words.now c.args.spot c.in_ok-test.three = moved_then m3 (c.in_ok-test.ensures.read.moves) in
    let p5 = read c.in_ok-four.ensures.token p4 in
    let m5 : Moves c.args.words.now c.args.spot c.in_ok-four.four = moved_then m4 (moved_by_one c.in_ok-four.ensures.place c.in_ok-four.ensures.more (m4.ended)) in
    let p6 = read c.in_ok-first.ensures.read.leads p5 in
    let m6 : Moves c.args.words.now c.args.spot c.in_ok-first.five = moved_then m5 (c.in_ok-first.ensures.read.moves) in
    record { leads = rw c.in_ok-alone.ensures.value (made (λ built. refl) (guarded (not_begun (drop c.in_ok-first.five.at c.args.words.now) terminal.Else (sym c.next_is.ensures ∙ c.if-not-next_is.true)) (by_rule form.PerhapsElse 1 (number_else form.PerhapsElse terminal.Else (λ w ws. refl) refl (drop c.in_ok-first.five.at c.args.words.now) false (sym c.next_is.ensures ∙ c.if-not-next_is.true)) (lit< tt) p6))); moves = m6 }

pub branching-returns-in_err-six-clause-refused : goal.branching-returns-in_err-six-clause-refused
branching-returns-in_err-six-clause-refused t c =
    let p1 = starts c.args.words.now c.args.spot (T terminal.If ∷ T terminal.Open ∷ N form.Whole ∷ T terminal.Close ∷ N form.Statement ∷ N form.PerhapsElse ∷ []) in
    let p2 = read c.in_ok-one.ensures.token p1 in
    let m2 : Moves c.args.words.now c.args.spot c.in_ok-one.one = moved_by_one c.in_ok-one.ensures.place c.in_ok-one.ensures.more (c.requires.shallow.ended) in
    let p3 = read c.in_ok-two.ensures.token p2 in
    let m3 : Moves c.args.words.now c.args.spot c.in_ok-two.two = moved_then m2 (moved_by_one c.in_ok-two.ensures.place c.in_ok-two.ensures.more (m2.ended)) in
    let p4 = read c.in_ok-test.ensures.read.leads p3 in
    let m4 : Moves c.args.words.now c.args.spot c.in_ok-test.three = moved_then m3 (c.in_ok-test.ensures.read.moves) in
    let p5 = read c.in_ok-four.ensures.token p4 in
    let m5 : Moves c.args.words.now c.args.spot c.in_ok-four.four = moved_then m4 (moved_by_one c.in_ok-four.ensures.place c.in_ok-four.ensures.more (m4.ended)) in
    let p6 = read c.in_ok-first.ensures.read.leads p5 in
    let m6 : Moves c.args.words.now c.args.spot c.in_ok-first.five = moved_then m5 (c.in_ok-first.ensures.read.moves) in
    let p7 = by_rule form.PerhapsElse 0 (number_else form.PerhapsElse terminal.Else (λ w ws. refl) refl (drop c.in_ok-first.five.at c.args.words.now) true (sym c.next_is.ensures ∙ c.if-not-next_is.false)) (lit< tt) p6 in
    exits (T terminal.Else ∷ []) _ c.from_residual-in_err-six.result c.in_err-six.field-0.0 c.from_residual-in_err-six.ensures.1 p7 c.in_err-six.ensures.no_token

pub branching-returns-in_err-second-clause-refused : goal.branching-returns-in_err-second-clause-refused
branching-returns-in_err-second-clause-refused t c =
    let p1 = starts c.args.words.now c.args.spot (T terminal.If ∷ T terminal.Open ∷ N form.Whole ∷ T terminal.Close ∷ N form.Statement ∷ N form.PerhapsElse ∷ []) in
    let p2 = read c.in_ok-one.ensures.token p1 in
    let m2 : Moves c.args.words.now c.args.spot c.in_ok-one.one = moved_by_one c.in_ok-one.ensures.place c.in_ok-one.ensures.more (c.requires.shallow.ended) in
    let p3 = read c.in_ok-two.ensures.token p2 in
    let m3 : Moves c.args.words.now c.args.spot c.in_ok-two.two = moved_then m2 (moved_by_one c.in_ok-two.ensures.place c.in_ok-two.ensures.more (m2.ended)) in
    let p4 = read c.in_ok-test.ensures.read.leads p3 in
    let m4 : Moves c.args.words.now c.args.spot c.in_ok-test.three = moved_then m3 (c.in_ok-test.ensures.read.moves) in
    let p5 = read c.in_ok-four.ensures.token p4 in
    let m5 : Moves c.args.words.now c.args.spot c.in_ok-four.four = moved_then m4 (moved_by_one c.in_ok-four.ensures.place c.in_ok-four.ensures.more (m4.ended)) in
    let p6 = read c.in_ok-first.ensures.read.leads p5 in
    let m6 : Moves c.args.words.now c.args.spot c.in_ok-first.five = moved_then m5 (c.in_ok-first.ensures.read.moves) in
    let p7 = by_rule form.PerhapsElse 0 (number_else form.PerhapsElse terminal.Else (λ w ws. refl) refl (drop c.in_ok-first.five.at c.args.words.now) true (sym c.next_is.ensures ∙ c.if-not-next_is.false)) (lit< tt) p6 in
    let p8 = read c.in_ok-six.ensures.token p7 in
    let m8 : Moves c.args.words.now c.args.spot c.in_ok-six.six = moved_then m6 (moved_by_one c.in_ok-six.ensures.place c.in_ok-six.ensures.more (m6.ended)) in
    exits (N form.Statement ∷ []) _ c.from_residual-in_err-second.result c.in_err-second.field-0.0 c.from_residual-in_err-second.ensures.1 p8 c.in_err-second.ensures.refused

pub branching-returns-in_err-either-clause-refused : goal.branching-returns-in_err-either-clause-refused
branching-returns-in_err-either-clause-refused t c = exits_memory c.args.words.now c.args.spot (T terminal.If ∷ T terminal.Open ∷ N form.Whole ∷ T terminal.Close ∷ N form.Statement ∷ N form.PerhapsElse ∷ []) c.from_residual-in_err-either.result c.in_err-either.field-0.0 c.from_residual-in_err-either.ensures.1 c.in_err-either.ensures.refused

pub branching-returns-clause-read : goal.branching-returns-clause-read
branching-returns-clause-read t c =
    let p1 = starts c.args.words.now c.args.spot (T terminal.If ∷ T terminal.Open ∷ N form.Whole ∷ T terminal.Close ∷ N form.Statement ∷ N form.PerhapsElse ∷ []) in
    let p2 = read c.in_ok-one.ensures.token p1 in
    let m2 : Moves c.args.words.now c.args.spot c.in_ok-one.one = moved_by_one c.in_ok-one.ensures.place c.in_ok-one.ensures.more (c.requires.shallow.ended) in
    let p3 = read c.in_ok-two.ensures.token p2 in
    let m3 : Moves c.args.words.now c.args.spot c.in_ok-two.two = moved_then m2 (moved_by_one c.in_ok-two.ensures.place c.in_ok-two.ensures.more (m2.ended)) in
    let p4 = read c.in_ok-test.ensures.read.leads p3 in
    let m4 : Moves c.args.words.now c.args.spot c.in_ok-test.three = moved_then m3 (c.in_ok-test.ensures.read.moves) in
    let p5 = read c.in_ok-four.ensures.token p4 in
    let m5 : Moves c.args.words.now c.args.spot c.in_ok-four.four = moved_then m4 (moved_by_one c.in_ok-four.ensures.place c.in_ok-four.ensures.more (m4.ended)) in
    let p6 = read c.in_ok-first.ensures.read.leads p5 in
    let m6 : Moves c.args.words.now c.args.spot c.in_ok-first.five = moved_then m5 (c.in_ok-first.ensures.read.moves) in
    let p7 = by_rule form.PerhapsElse 0 (number_else form.PerhapsElse terminal.Else (λ w ws. refl) refl (drop c.in_ok-first.five.at c.args.words.now) true (sym c.next_is.ensures ∙ c.if-not-next_is.false)) (lit< tt) p6 in
    let p8 = read c.in_ok-six.ensures.token p7 in
    let m8 : Moves c.args.words.now c.args.spot c.in_ok-six.six = moved_then m6 (moved_by_one c.in_ok-six.ensures.place c.in_ok-six.ensures.more (m6.ended)) in
    let p9 = read c.in_ok-second.ensures.read.leads p8 in
    let m9 : Moves c.args.words.now c.args.spot c.in_ok-second.seven = moved_then m8 (c.in_ok-second.ensures.read.moves) in
    record { leads = rw c.in_ok-either.ensures.value (made (λ built. refl) p9); moves = m9 }

pub while_loop-returns-in_err-one-clause-refused : goal.while_loop-returns-in_err-one-clause-refused
while_loop-returns-in_err-one-clause-refused t c =
    let p1 = starts c.args.words.now c.args.spot (T terminal.While ∷ T terminal.Open ∷ N form.Whole ∷ T terminal.Close ∷ N form.Statement ∷ B MakeWhile ∷ []) in
    exits (T terminal.While ∷ []) _ c.from_residual.result c.in_err-one.field-0.0 c.from_residual.ensures.1 p1 c.in_err-one.ensures.no_token

pub while_loop-returns-in_err-two-clause-refused : goal.while_loop-returns-in_err-two-clause-refused
while_loop-returns-in_err-two-clause-refused t c =
    let p1 = starts c.args.words.now c.args.spot (T terminal.While ∷ T terminal.Open ∷ N form.Whole ∷ T terminal.Close ∷ N form.Statement ∷ B MakeWhile ∷ []) in
    let p2 = read c.in_ok-one.ensures.token p1 in
    let m2 : Moves c.args.words.now c.args.spot c.in_ok-one.one = moved_by_one c.in_ok-one.ensures.place c.in_ok-one.ensures.more (c.requires.shallow.ended) in
    exits (T terminal.Open ∷ []) _ c.from_residual-in_err-two.result c.in_err-two.field-0.0 c.from_residual-in_err-two.ensures.1 p2 c.in_err-two.ensures.no_token

pub while_loop-returns-in_err-test-clause-refused : goal.while_loop-returns-in_err-test-clause-refused
while_loop-returns-in_err-test-clause-refused t c =
    let p1 = starts c.args.words.now c.args.spot (T terminal.While ∷ T terminal.Open ∷ N form.Whole ∷ T terminal.Close ∷ N form.Statement ∷ B MakeWhile ∷ []) in
    let p2 = read c.in_ok-one.ensures.token p1 in
    let m2 : Moves c.args.words.now c.args.spot c.in_ok-one.one = moved_by_one c.in_ok-one.ensures.place c.in_ok-one.ensures.more (c.requires.shallow.ended) in
    let p3 = read c.in_ok-two.ensures.token p2 in
    let m3 : Moves c.args.words.now c.args.spot c.in_ok-two.two = moved_then m2 (moved_by_one c.in_ok-two.ensures.place c.in_ok-two.ensures.more (m2.ended)) in
    exits (N form.Whole ∷ []) _ c.from_residual-in_err-test.result c.in_err-test.field-0.0 c.from_residual-in_err-test.ensures.1 p3 c.in_err-test.ensures.refused

pub while_loop-returns-in_err-four-clause-refused : goal.while_loop-returns-in_err-four-clause-refused
while_loop-returns-in_err-four-clause-refused t c =
    let p1 = starts c.args.words.now c.args.spot (T terminal.While ∷ T terminal.Open ∷ N form.Whole ∷ T terminal.Close ∷ N form.Statement ∷ B MakeWhile ∷ []) in
    let p2 = read c.in_ok-one.ensures.token p1 in
    let m2 : Moves c.args.words.now c.args.spot c.in_ok-one.one = moved_by_one c.in_ok-one.ensures.place c.in_ok-one.ensures.more (c.requires.shallow.ended) in
    let p3 = read c.in_ok-two.ensures.token p2 in
    let m3 : Moves c.args.words.now c.args.spot c.in_ok-two.two = moved_then m2 (moved_by_one c.in_ok-two.ensures.place c.in_ok-two.ensures.more (m2.ended)) in
    let p4 = read c.in_ok-test.ensures.read.leads p3 in
    let m4 : Moves c.args.words.now c.args.spot c.in_ok-test.three = moved_then m3 (c.in_ok-test.ensures.read.moves) in
    exits (T terminal.Close ∷ []) _ c.from_residual-in_err-four.result c.in_err-four.field-0.0 c.from_residual-in_err-four.ensures.1 p4 c.in_err-four.ensures.no_token

pub while_loop-returns-in_err-turn-clause-refused : goal.while_loop-returns-in_err-turn-clause-refused
while_loop-returns-in_err-turn-clause-refused t c =
    let p1 = starts c.args.words.now c.args.spot (T terminal.While ∷ T terminal.Open ∷ N form.Whole ∷ T terminal.Close ∷ N form.Statement ∷ B MakeWhile ∷ []) in
    let p2 = read c.in_ok-one.ensures.token p1 in
    let m2 : Moves c.args.words.now c.args.spot c.in_ok-one.one = moved_by_one c.in_ok-one.ensures.place c.in_ok-one.ensures.more (c.requires.shallow.ended) in
    let p3 = read c.in_ok-two.ensures.token p2 in
    let m3 : Moves c.args.words.now c.args.spot c.in_ok-two.two = moved_then m2 (moved_by_one c.in_ok-two.ensures.place c.in_ok-two.ensures.more (m2.ended)) in
    let p4 = read c.in_ok-test.ensures.read.leads p3 in
    let m4 : Moves c.args.words.now c.args.spot c.in_ok-test.three = moved_then m3 (c.in_ok-test.ensures.read.moves) in
    let p5 = read c.in_ok-four.ensures.token p4 in
    let m5 : Moves c.args.words.now c.args.spot c.in_ok-four.four = moved_then m4 (moved_by_one c.in_ok-four.ensures.place c.in_ok-four.ensures.more (m4.ended)) in
    exits (N form.Statement ∷ []) _ c.from_residual-in_err-turn.result c.in_err-turn.field-0.0 c.from_residual-in_err-turn.ensures.1 p5 c.in_err-turn.ensures.refused

pub while_loop-returns-in_err-kind-clause-refused : goal.while_loop-returns-in_err-kind-clause-refused
while_loop-returns-in_err-kind-clause-refused t c = exits_memory c.args.words.now c.args.spot (T terminal.While ∷ T terminal.Open ∷ N form.Whole ∷ T terminal.Close ∷ N form.Statement ∷ B MakeWhile ∷ []) c.from_residual-in_err-kind.result c.in_err-kind.field-0.0 c.from_residual-in_err-kind.ensures.1 c.in_err-kind.ensures.refused

pub while_loop-returns-clause-read : goal.while_loop-returns-clause-read
while_loop-returns-clause-read t c =
    let p1 = starts c.args.words.now c.args.spot (T terminal.While ∷ T terminal.Open ∷ N form.Whole ∷ T terminal.Close ∷ N form.Statement ∷ B MakeWhile ∷ []) in
    let p2 = read c.in_ok-one.ensures.token p1 in
    let m2 : Moves c.args.words.now c.args.spot c.in_ok-one.one = moved_by_one c.in_ok-one.ensures.place c.in_ok-one.ensures.more (c.requires.shallow.ended) in
    let p3 = read c.in_ok-two.ensures.token p2 in
    let m3 : Moves c.args.words.now c.args.spot c.in_ok-two.two = moved_then m2 (moved_by_one c.in_ok-two.ensures.place c.in_ok-two.ensures.more (m2.ended)) in
    let p4 = read c.in_ok-test.ensures.read.leads p3 in
    let m4 : Moves c.args.words.now c.args.spot c.in_ok-test.three = moved_then m3 (c.in_ok-test.ensures.read.moves) in
    let p5 = read c.in_ok-four.ensures.token p4 in
    let m5 : Moves c.args.words.now c.args.spot c.in_ok-four.four = moved_then m4 (moved_by_one c.in_ok-four.ensures.place c.in_ok-four.ensures.more (m4.ended)) in
    let p6 = read c.in_ok-turn.ensures.read.leads p5 in
    let m6 : Moves c.args.words.now c.args.spot c.in_ok-turn.five = moved_then m5 (c.in_ok-turn.ensures.read.moves) in
    record { leads = rw c.in_ok-kind.ensures.value (made (λ built. refl) p6); moves = m6 }

pub do_loop-returns-in_err-one-clause-refused : goal.do_loop-returns-in_err-one-clause-refused
do_loop-returns-in_err-one-clause-refused t c =
    let p1 = starts c.args.words.now c.args.spot (T terminal.Do ∷ N form.Statement ∷ T terminal.While ∷ T terminal.Open ∷ N form.Whole ∷ T terminal.Close ∷ T terminal.Semicolon ∷ B MakeDoWhile ∷ []) in
    exits (T terminal.Do ∷ []) _ c.from_residual.result c.in_err-one.field-0.0 c.from_residual.ensures.1 p1 c.in_err-one.ensures.no_token

pub do_loop-returns-in_err-turn-clause-refused : goal.do_loop-returns-in_err-turn-clause-refused
do_loop-returns-in_err-turn-clause-refused t c =
    let p1 = starts c.args.words.now c.args.spot (T terminal.Do ∷ N form.Statement ∷ T terminal.While ∷ T terminal.Open ∷ N form.Whole ∷ T terminal.Close ∷ T terminal.Semicolon ∷ B MakeDoWhile ∷ []) in
    let p2 = read c.in_ok-one.ensures.token p1 in
    let m2 : Moves c.args.words.now c.args.spot c.in_ok-one.one = moved_by_one c.in_ok-one.ensures.place c.in_ok-one.ensures.more (c.requires.shallow.ended) in
    exits (N form.Statement ∷ []) _ c.from_residual-in_err-turn.result c.in_err-turn.field-0.0 c.from_residual-in_err-turn.ensures.1 p2 c.in_err-turn.ensures.refused

pub do_loop-returns-in_err-three-clause-refused : goal.do_loop-returns-in_err-three-clause-refused
do_loop-returns-in_err-three-clause-refused t c =
    let p1 = starts c.args.words.now c.args.spot (T terminal.Do ∷ N form.Statement ∷ T terminal.While ∷ T terminal.Open ∷ N form.Whole ∷ T terminal.Close ∷ T terminal.Semicolon ∷ B MakeDoWhile ∷ []) in
    let p2 = read c.in_ok-one.ensures.token p1 in
    let m2 : Moves c.args.words.now c.args.spot c.in_ok-one.one = moved_by_one c.in_ok-one.ensures.place c.in_ok-one.ensures.more (c.requires.shallow.ended) in
    let p3 = read c.in_ok-turn.ensures.read.leads p2 in
    let m3 : Moves c.args.words.now c.args.spot c.in_ok-turn.two = moved_then m2 (c.in_ok-turn.ensures.read.moves) in
    exits (T terminal.While ∷ []) _ c.from_residual-in_err-three.result c.in_err-three.field-0.0 c.from_residual-in_err-three.ensures.1 p3 c.in_err-three.ensures.no_token

pub do_loop-returns-in_err-four-clause-refused : goal.do_loop-returns-in_err-four-clause-refused
do_loop-returns-in_err-four-clause-refused t c =
    let p1 = starts c.args.words.now c.args.spot (T terminal.Do ∷ N form.Statement ∷ T terminal.While ∷ T terminal.Open ∷ N form.Whole ∷ T terminal.Close ∷ T terminal.Semicolon ∷ B MakeDoWhile ∷ []) in
    let p2 = read c.in_ok-one.ensures.token p1 in
    let m2 : Moves c.args.words.now c.args.spot c.in_ok-one.one = moved_by_one c.in_ok-one.ensures.place c.in_ok-one.ensures.more (c.requires.shallow.ended) in
    let p3 = read c.in_ok-turn.ensures.read.leads p2 in
    let m3 : Moves c.args.words.now c.args.spot c.in_ok-turn.two = moved_then m2 (c.in_ok-turn.ensures.read.moves) in
    let p4 = read c.in_ok-three.ensures.token p3 in
    let m4 : Moves c.args.words.now c.args.spot c.in_ok-three.three = moved_then m3 (moved_by_one c.in_ok-three.ensures.place c.in_ok-three.ensures.more (m3.ended)) in
    exits (T terminal.Open ∷ []) _ c.from_residual-in_err-four.result c.in_err-four.field-0.0 c.from_residual-in_err-four.ensures.1 p4 c.in_err-four.ensures.no_token

pub do_loop-returns-in_err-test-clause-refused : goal.do_loop-returns-in_err-test-clause-refused
do_loop-returns-in_err-test-clause-refused t c =
    let p1 = starts c.args.words.now c.args.spot (T terminal.Do ∷ N form.Statement ∷ T terminal.While ∷ T terminal.Open ∷ N form.Whole ∷ T terminal.Close ∷ T terminal.Semicolon ∷ B MakeDoWhile ∷ []) in
    let p2 = read c.in_ok-one.ensures.token p1 in
    let m2 : Moves c.args.words.now c.args.spot c.in_ok-one.one = moved_by_one c.in_ok-one.ensures.place c.in_ok-one.ensures.more (c.requires.shallow.ended) in
    let p3 = read c.in_ok-turn.ensures.read.leads p2 in
    let m3 : Moves c.args.words.now c.args.spot c.in_ok-turn.two = moved_then m2 (c.in_ok-turn.ensures.read.moves) in
    let p4 = read c.in_ok-three.ensures.token p3 in
    let m4 : Moves c.args.words.now c.args.spot c.in_ok-three.three = moved_then m3 (moved_by_one c.in_ok-three.ensures.place c.in_ok-three.ensures.more (m3.ended)) in
    let p5 = read c.in_ok-four.ensures.token p4 in
    let m5 : Moves c.args.words.now c.args.spot c.in_ok-four.four = moved_then m4 (moved_by_one c.in_ok-four.ensures.place c.in_ok-four.ensures.more (m4.ended)) in
    exits (N form.Whole ∷ []) _ c.from_residual-in_err-test.result c.in_err-test.field-0.0 c.from_residual-in_err-test.ensures.1 p5 c.in_err-test.ensures.refused

pub do_loop-returns-in_err-six-clause-refused : goal.do_loop-returns-in_err-six-clause-refused
do_loop-returns-in_err-six-clause-refused t c =
    let p1 = starts c.args.words.now c.args.spot (T terminal.Do ∷ N form.Statement ∷ T terminal.While ∷ T terminal.Open ∷ N form.Whole ∷ T terminal.Close ∷ T terminal.Semicolon ∷ B MakeDoWhile ∷ []) in
    let p2 = read c.in_ok-one.ensures.token p1 in
    let m2 : Moves c.args.words.now c.args.spot c.in_ok-one.one = moved_by_one c.in_ok-one.ensures.place c.in_ok-one.ensures.more (c.requires.shallow.ended) in
    let p3 = read c.in_ok-turn.ensures.read.leads p2 in
    let m3 : Moves c.args.words.now c.args.spot c.in_ok-turn.two = moved_then m2 (c.in_ok-turn.ensures.read.moves) in
    let p4 = read c.in_ok-three.ensures.token p3 in
    let m4 : Moves c.args.words.now c.args.spot c.in_ok-three.three = moved_then m3 (moved_by_one c.in_ok-three.ensures.place c.in_ok-three.ensures.more (m3.ended)) in
    let p5 = read c.in_ok-four.ensures.token p4 in
    let m5 : Moves c.args.words.now c.args.spot c.in_ok-four.four = moved_then m4 (moved_by_one c.in_ok-four.ensures.place c.in_ok-four.ensures.more (m4.ended)) in
    let p6 = read c.in_ok-test.ensures.read.leads p5 in
    let m6 : Moves c.args.words.now c.args.spot c.in_ok-test.five = moved_then m5 (c.in_ok-test.ensures.read.moves) in
    exits (T terminal.Close ∷ []) _ c.from_residual-in_err-six.result c.in_err-six.field-0.0 c.from_residual-in_err-six.ensures.1 p6 c.in_err-six.ensures.no_token

pub do_loop-returns-in_err-seven-clause-refused : goal.do_loop-returns-in_err-seven-clause-refused
do_loop-returns-in_err-seven-clause-refused t c =
    let p1 = starts c.args.words.now c.args.spot (T terminal.Do ∷ N form.Statement ∷ T terminal.While ∷ T terminal.Open ∷ N form.Whole ∷ T terminal.Close ∷ T terminal.Semicolon ∷ B MakeDoWhile ∷ []) in
    let p2 = read c.in_ok-one.ensures.token p1 in
    let m2 : Moves c.args.words.now c.args.spot c.in_ok-one.one = moved_by_one c.in_ok-one.ensures.place c.in_ok-one.ensures.more (c.requires.shallow.ended) in
    let p3 = read c.in_ok-turn.ensures.read.leads p2 in
    let m3 : Moves c.args.words.now c.args.spot c.in_ok-turn.two = moved_then m2 (c.in_ok-turn.ensures.read.moves) in
    let p4 = read c.in_ok-three.ensures.token p3 in
    let m4 : Moves c.args.words.now c.args.spot c.in_ok-three.three = moved_then m3 (moved_by_one c.in_ok-three.ensures.place c.in_ok-three.ensures.more (m3.ended)) in
    let p5 = read c.in_ok-four.ensures.token p4 in
    let m5 : Moves c.args.words.now c.args.spot c.in_ok-four.four = moved_then m4 (moved_by_one c.in_ok-four.ensures.place c.in_ok-four.ensures.more (m4.ended)) in
    let p6 = read c.in_ok-test.ensures.read.leads p5 in
    let m6 : Moves c.args.words.now c.args.spot c.in_ok-test.five = moved_then m5 (c.in_ok-test.ensures.read.moves) in
    let p7 = read c.in_ok-six.ensures.token p6 in
    let m7 : Moves c.args.words.now c.args.spot c.in_ok-six.six = moved_then m6 (moved_by_one c.in_ok-six.ensures.place c.in_ok-six.ensures.more (m6.ended)) in
    exits (T terminal.Semicolon ∷ []) _ c.from_residual-in_err-seven.result c.in_err-seven.field-0.0 c.from_residual-in_err-seven.ensures.1 p7 c.in_err-seven.ensures.no_token

pub do_loop-returns-in_err-kind-clause-refused : goal.do_loop-returns-in_err-kind-clause-refused
do_loop-returns-in_err-kind-clause-refused t c = exits_memory c.args.words.now c.args.spot (T terminal.Do ∷ N form.Statement ∷ T terminal.While ∷ T terminal.Open ∷ N form.Whole ∷ T terminal.Close ∷ T terminal.Semicolon ∷ B MakeDoWhile ∷ []) c.from_residual-in_err-kind.result c.in_err-kind.field-0.0 c.from_residual-in_err-kind.ensures.1 c.in_err-kind.ensures.refused

pub do_loop-returns-clause-read : goal.do_loop-returns-clause-read
do_loop-returns-clause-read t c =
    let p1 = starts c.args.words.now c.args.spot (T terminal.Do ∷ N form.Statement ∷ T terminal.While ∷ T terminal.Open ∷ N form.Whole ∷ T terminal.Close ∷ T terminal.Semicolon ∷ B MakeDoWhile ∷ []) in
    let p2 = read c.in_ok-one.ensures.token p1 in
    let m2 : Moves c.args.words.now c.args.spot c.in_ok-one.one = moved_by_one c.in_ok-one.ensures.place c.in_ok-one.ensures.more (c.requires.shallow.ended) in
    let p3 = read c.in_ok-turn.ensures.read.leads p2 in
    let m3 : Moves c.args.words.now c.args.spot c.in_ok-turn.two = moved_then m2 (c.in_ok-turn.ensures.read.moves) in
    let p4 = read c.in_ok-three.ensures.token p3 in
    let m4 : Moves c.args.words.now c.args.spot c.in_ok-three.three = moved_then m3 (moved_by_one c.in_ok-three.ensures.place c.in_ok-three.ensures.more (m3.ended)) in
    let p5 = read c.in_ok-four.ensures.token p4 in
    let m5 : Moves c.args.words.now c.args.spot c.in_ok-four.four = moved_then m4 (moved_by_one c.in_ok-four.ensures.place c.in_ok-four.ensures.more (m4.ended)) in
    let p6 = read c.in_ok-test.ensures.read.leads p5 in
    let m6 : Moves c.args.words.now c.args.spot c.in_ok-test.five = moved_then m5 (c.in_ok-test.ensures.read.moves) in
    let p7 = read c.in_ok-six.ensures.token p6 in
    let m7 : Moves c.args.words.now c.args.spot c.in_ok-six.six = moved_then m6 (moved_by_one c.in_ok-six.ensures.place c.in_ok-six.ensures.more (m6.ended)) in
    let p8 = read c.in_ok-seven.ensures.token p7 in
    let m8 : Moves c.args.words.now c.args.spot c.in_ok-seven.seven = moved_then m7 (moved_by_one c.in_ok-seven.ensures.place c.in_ok-seven.ensures.more (m7.ended)) in
    record { leads = rw c.in_ok-kind.ensures.value (made (λ built. refl) p8); moves = m8 }

pub for_loop-returns-in_err-one-clause-refused : goal.for_loop-returns-in_err-one-clause-refused
for_loop-returns-in_err-one-clause-refused t c =
    let p1 = starts c.args.words.now c.args.spot (T terminal.For ∷ T terminal.Open ∷ N form.PerhapsWhole ∷ T terminal.Semicolon ∷ N form.PerhapsWhole ∷ T terminal.Semicolon ∷ N form.PerhapsWhole ∷ T terminal.Close ∷ N form.Statement ∷ B MakeFor ∷ []) in
    exits (T terminal.For ∷ []) _ c.from_residual.result c.in_err-one.field-0.0 c.from_residual.ensures.1 p1 c.in_err-one.ensures.no_token

pub for_loop-returns-in_err-two-clause-refused : goal.for_loop-returns-in_err-two-clause-refused
for_loop-returns-in_err-two-clause-refused t c =
    let p1 = starts c.args.words.now c.args.spot (T terminal.For ∷ T terminal.Open ∷ N form.PerhapsWhole ∷ T terminal.Semicolon ∷ N form.PerhapsWhole ∷ T terminal.Semicolon ∷ N form.PerhapsWhole ∷ T terminal.Close ∷ N form.Statement ∷ B MakeFor ∷ []) in
    let p2 = read c.in_ok-one.ensures.token p1 in
    let m2 : Moves c.args.words.now c.args.spot c.in_ok-one.one = moved_by_one c.in_ok-one.ensures.place c.in_ok-one.ensures.more (c.requires.shallow.ended) in
    exits (T terminal.Open ∷ []) _ c.from_residual-in_err-two.result c.in_err-two.field-0.0 c.from_residual-in_err-two.ensures.1 p2 c.in_err-two.ensures.no_token

pub for_loop-returns-in_err-first-clause-refused : goal.for_loop-returns-in_err-first-clause-refused
for_loop-returns-in_err-first-clause-refused t c =
    let p1 = starts c.args.words.now c.args.spot (T terminal.For ∷ T terminal.Open ∷ N form.PerhapsWhole ∷ T terminal.Semicolon ∷ N form.PerhapsWhole ∷ T terminal.Semicolon ∷ N form.PerhapsWhole ∷ T terminal.Close ∷ N form.Statement ∷ B MakeFor ∷ []) in
    let p2 = read c.in_ok-one.ensures.token p1 in
    let m2 : Moves c.args.words.now c.args.spot c.in_ok-one.one = moved_by_one c.in_ok-one.ensures.place c.in_ok-one.ensures.more (c.requires.shallow.ended) in
    let p3 = read c.in_ok-two.ensures.token p2 in
    let m3 : Moves c.args.words.now c.args.spot c.in_ok-two.two = moved_then m2 (moved_by_one c.in_ok-two.ensures.place c.in_ok-two.ensures.more (m2.ended)) in
    exits (N form.PerhapsWhole ∷ []) _ c.from_residual-in_err-first.result c.in_err-first.field-0.0 c.from_residual-in_err-first.ensures.1 p3 c.in_err-first.ensures.refused

pub for_loop-returns-in_err-four-clause-refused : goal.for_loop-returns-in_err-four-clause-refused
for_loop-returns-in_err-four-clause-refused t c =
    let p1 = starts c.args.words.now c.args.spot (T terminal.For ∷ T terminal.Open ∷ N form.PerhapsWhole ∷ T terminal.Semicolon ∷ N form.PerhapsWhole ∷ T terminal.Semicolon ∷ N form.PerhapsWhole ∷ T terminal.Close ∷ N form.Statement ∷ B MakeFor ∷ []) in
    let p2 = read c.in_ok-one.ensures.token p1 in
    let m2 : Moves c.args.words.now c.args.spot c.in_ok-one.one = moved_by_one c.in_ok-one.ensures.place c.in_ok-one.ensures.more (c.requires.shallow.ended) in
    let p3 = read c.in_ok-two.ensures.token p2 in
    let m3 : Moves c.args.words.now c.args.spot c.in_ok-two.two = moved_then m2 (moved_by_one c.in_ok-two.ensures.place c.in_ok-two.ensures.more (m2.ended)) in
    let p4 = read c.in_ok-first.ensures.read.leads p3 in
    let m4 : Moves c.args.words.now c.args.spot c.in_ok-first.three = moved_then m3 (c.in_ok-first.ensures.read.moves) in
    exits (T terminal.Semicolon ∷ []) _ c.from_residual-in_err-four.result c.in_err-four.field-0.0 c.from_residual-in_err-four.ensures.1 p4 c.in_err-four.ensures.no_token

pub for_loop-returns-in_err-condition-clause-refused : goal.for_loop-returns-in_err-condition-clause-refused
for_loop-returns-in_err-condition-clause-refused t c =
    let p1 = starts c.args.words.now c.args.spot (T terminal.For ∷ T terminal.Open ∷ N form.PerhapsWhole ∷ T terminal.Semicolon ∷ N form.PerhapsWhole ∷ T terminal.Semicolon ∷ N form.PerhapsWhole ∷ T terminal.Close ∷ N form.Statement ∷ B MakeFor ∷ []) in
    let p2 = read c.in_ok-one.ensures.token p1 in
    let m2 : Moves c.args.words.now c.args.spot c.in_ok-one.one = moved_by_one c.in_ok-one.ensures.place c.in_ok-one.ensures.more (c.requires.shallow.ended) in
    let p3 = read c.in_ok-two.ensures.token p2 in
    let m3 : Moves c.args.words.now c.args.spot c.in_ok-two.two = moved_then m2 (moved_by_one c.in_ok-two.ensures.place c.in_ok-two.ensures.more (m2.ended)) in
    let p4 = read c.in_ok-first.ensures.read.leads p3 in
    let m4 : Moves c.args.words.now c.args.spot c.in_ok-first.three = moved_then m3 (c.in_ok-first.ensures.read.moves) in
    let p5 = read c.in_ok-four.ensures.token p4 in
    let m5 : Moves c.args.words.now c.args.spot c.in_ok-four.four = moved_then m4 (moved_by_one c.in_ok-four.ensures.place c.in_ok-four.ensures.more (m4.ended)) in
    exits (N form.PerhapsWhole ∷ []) _ c.from_residual-in_err-condition.result c.in_err-condition.field-0.0 c.from_residual-in_err-condition.ensures.1 p5 c.in_err-condition.ensures.refused

pub for_loop-returns-in_err-six-clause-refused : goal.for_loop-returns-in_err-six-clause-refused
for_loop-returns-in_err-six-clause-refused t c =
    let p1 = starts c.args.words.now c.args.spot (T terminal.For ∷ T terminal.Open ∷ N form.PerhapsWhole ∷ T terminal.Semicolon ∷ N form.PerhapsWhole ∷ T terminal.Semicolon ∷ N form.PerhapsWhole ∷ T terminal.Close ∷ N form.Statement ∷ B MakeFor ∷ []) in
    let p2 = read c.in_ok-one.ensures.token p1 in
    let m2 : Moves c.args.words.now c.args.spot c.in_ok-one.one = moved_by_one c.in_ok-one.ensures.place c.in_ok-one.ensures.more (c.requires.shallow.ended) in
    let p3 = read c.in_ok-two.ensures.token p2 in
    let m3 : Moves c.args.words.now c.args.spot c.in_ok-two.two = moved_then m2 (moved_by_one c.in_ok-two.ensures.place c.in_ok-two.ensures.more (m2.ended)) in
    let p4 = read c.in_ok-first.ensures.read.leads p3 in
    let m4 : Moves c.args.words.now c.args.spot c.in_ok-first.three = moved_then m3 (c.in_ok-first.ensures.read.moves) in
    let p5 = read c.in_ok-four.ensures.token p4 in
    let m5 : Moves c.args.words.now c.args.spot c.in_ok-four.four = moved_then m4 (moved_by_one c.in_ok-four.ensures.place c.in_ok-four.ensures.more (m4.ended)) in
    let p6 = read c.in_ok-condition.ensures.read.leads p5 in
    let m6 : Moves c.args.words.now c.args.spot c.in_ok-condition.five = moved_then m5 (c.in_ok-condition.ensures.read.moves) in
    exits (T terminal.Semicolon ∷ []) _ c.from_residual-in_err-six.result c.in_err-six.field-0.0 c.from_residual-in_err-six.ensures.1 p6 c.in_err-six.ensures.no_token

pub for_loop-returns-in_err-after-clause-refused : goal.for_loop-returns-in_err-after-clause-refused
for_loop-returns-in_err-after-clause-refused t c =
    let p1 = starts c.args.words.now c.args.spot (T terminal.For ∷ T terminal.Open ∷ N form.PerhapsWhole ∷ T terminal.Semicolon ∷ N form.PerhapsWhole ∷ T terminal.Semicolon ∷ N form.PerhapsWhole ∷ T terminal.Close ∷ N form.Statement ∷ B MakeFor ∷ []) in
    let p2 = read c.in_ok-one.ensures.token p1 in
    let m2 : Moves c.args.words.now c.args.spot c.in_ok-one.one = moved_by_one c.in_ok-one.ensures.place c.in_ok-one.ensures.more (c.requires.shallow.ended) in
    let p3 = read c.in_ok-two.ensures.token p2 in
    let m3 : Moves c.args.words.now c.args.spot c.in_ok-two.two = moved_then m2 (moved_by_one c.in_ok-two.ensures.place c.in_ok-two.ensures.more (m2.ended)) in
    let p4 = read c.in_ok-first.ensures.read.leads p3 in
    let m4 : Moves c.args.words.now c.args.spot c.in_ok-first.three = moved_then m3 (c.in_ok-first.ensures.read.moves) in
    let p5 = read c.in_ok-four.ensures.token p4 in
    let m5 : Moves c.args.words.now c.args.spot c.in_ok-four.four = moved_then m4 (moved_by_one c.in_ok-four.ensures.place c.in_ok-four.ensures.more (m4.ended)) in
    let p6 = read c.in_ok-condition.ensures.read.leads p5 in
    let m6 : Moves c.args.words.now c.args.spot c.in_ok-condition.five = moved_then m5 (c.in_ok-condition.ensures.read.moves) in
    let p7 = read c.in_ok-six.ensures.token p6 in
    let m7 : Moves c.args.words.now c.args.spot c.in_ok-six.six = moved_then m6 (moved_by_one c.in_ok-six.ensures.place c.in_ok-six.ensures.more (m6.ended)) in
    exits (N form.PerhapsWhole ∷ []) _ c.from_residual-in_err-after.result c.in_err-after.field-0.0 c.from_residual-in_err-after.ensures.1 p7 c.in_err-after.ensures.refused

pub for_loop-returns-in_err-eight-clause-refused : goal.for_loop-returns-in_err-eight-clause-refused
for_loop-returns-in_err-eight-clause-refused t c =
    let p1 = starts c.args.words.now c.args.spot (T terminal.For ∷ T terminal.Open ∷ N form.PerhapsWhole ∷ T terminal.Semicolon ∷ N form.PerhapsWhole ∷ T terminal.Semicolon ∷ N form.PerhapsWhole ∷ T terminal.Close ∷ N form.Statement ∷ B MakeFor ∷ []) in
    let p2 = read c.in_ok-one.ensures.token p1 in
    let m2 : Moves c.args.words.now c.args.spot c.in_ok-one.one = moved_by_one c.in_ok-one.ensures.place c.in_ok-one.ensures.more (c.requires.shallow.ended) in
    let p3 = read c.in_ok-two.ensures.token p2 in
    let m3 : Moves c.args.words.now c.args.spot c.in_ok-two.two = moved_then m2 (moved_by_one c.in_ok-two.ensures.place c.in_ok-two.ensures.more (m2.ended)) in
    let p4 = read c.in_ok-first.ensures.read.leads p3 in
    let m4 : Moves c.args.words.now c.args.spot c.in_ok-first.three = moved_then m3 (c.in_ok-first.ensures.read.moves) in
    let p5 = read c.in_ok-four.ensures.token p4 in
    let m5 : Moves c.args.words.now c.args.spot c.in_ok-four.four = moved_then m4 (moved_by_one c.in_ok-four.ensures.place c.in_ok-four.ensures.more (m4.ended)) in
    let p6 = read c.in_ok-condition.ensures.read.leads p5 in
    let m6 : Moves c.args.words.now c.args.spot c.in_ok-condition.five = moved_then m5 (c.in_ok-condition.ensures.read.moves) in
    let p7 = read c.in_ok-six.ensures.token p6 in
    let m7 : Moves c.args.words.now c.args.spot c.in_ok-six.six = moved_then m6 (moved_by_one c.in_ok-six.ensures.place c.in_ok-six.ensures.more (m6.ended)) in
    let p8 = read c.in_ok-after.ensures.read.leads p7 in
    let m8 : Moves c.args.words.now c.args.spot c.in_ok-after.seven = moved_then m7 (c.in_ok-after.ensures.read.moves) in
    exits (T terminal.Close ∷ []) _ c.from_residual-in_err-eight.result c.in_err-eight.field-0.0 c.from_residual-in_err-eight.ensures.1 p8 c.in_err-eight.ensures.no_token

pub for_loop-returns-in_err-turn-clause-refused : goal.for_loop-returns-in_err-turn-clause-refused
for_loop-returns-in_err-turn-clause-refused t c =
    let p1 = starts c.args.words.now c.args.spot (T terminal.For ∷ T terminal.Open ∷ N form.PerhapsWhole ∷ T terminal.Semicolon ∷ N form.PerhapsWhole ∷ T terminal.Semicolon ∷ N form.PerhapsWhole ∷ T terminal.Close ∷ N form.Statement ∷ B MakeFor ∷ []) in
    let p2 = read c.in_ok-one.ensures.token p1 in
    let m2 : Moves c.args.words.now c.args.spot c.in_ok-one.one = moved_by_one c.in_ok-one.ensures.place c.in_ok-one.ensures.more (c.requires.shallow.ended) in
    let p3 = read c.in_ok-two.ensures.token p2 in
    let m3 : Moves c.args.words.now c.args.spot c.in_ok-two.two = moved_then m2 (moved_by_one c.in_ok-two.ensures.place c.in_ok-two.ensures.more (m2.ended)) in
    let p4 = read c.in_ok-first.ensures.read.leads p3 in
    let m4 : Moves c.args.words.now c.args.spot c.in_ok-first.three = moved_then m3 (c.in_ok-first.ensures.read.moves) in
    let p5 = read c.in_ok-four.ensures.token p4 in
    let m5 : Moves c.args.words.now c.args.spot c.in_ok-four.four = moved_then m4 (moved_by_one c.in_ok-four.ensures.place c.in_ok-four.ensures.more (m4.ended)) in
    let p6 = read c.in_ok-condition.ensures.read.leads p5 in
    let m6 : Moves c.args.words.now c.args.spot c.in_ok-condition.five = moved_then m5 (c.in_ok-condition.ensures.read.moves) in
    let p7 = read c.in_ok-six.ensures.token p6 in
    let m7 : Moves c.args.words.now c.args.spot c.in_ok-six.six = moved_then m6 (moved_by_one c.in_ok-six.ensures.place c.in_ok-six.ensures.more (m6.ended)) in
    let p8 = read c.in_ok-after.ensures.read.leads p7 in
    let m8 : Moves c.args.words.now c.args.spot c.in_ok-after.seven = moved_then m7 (c.in_ok-after.ensures.read.moves) in
    let p9 = read c.in_ok-eight.ensures.token p8 in
    let m9 : Moves c.args.words.now c.args.spot c.in_ok-eight.eight = moved_then m8 (moved_by_one c.in_ok-eight.ensures.place c.in_ok-eight.ensures.more (m8.ended)) in
    exits (N form.Statement ∷ []) _ c.from_residual-in_err-turn.result c.in_err-turn.field-0.0 c.from_residual-in_err-turn.ensures.1 p9 c.in_err-turn.ensures.refused

pub for_loop-returns-clause-read : goal.for_loop-returns-clause-read
for_loop-returns-clause-read t c =
    let p1 = starts c.args.words.now c.args.spot (T terminal.For ∷ T terminal.Open ∷ N form.PerhapsWhole ∷ T terminal.Semicolon ∷ N form.PerhapsWhole ∷ T terminal.Semicolon ∷ N form.PerhapsWhole ∷ T terminal.Close ∷ N form.Statement ∷ B MakeFor ∷ []) in
    let p2 = read c.in_ok-one.ensures.token p1 in
    let m2 : Moves c.args.words.now c.args.spot c.in_ok-one.one = moved_by_one c.in_ok-one.ensures.place c.in_ok-one.ensures.more (c.requires.shallow.ended) in
    let p3 = read c.in_ok-two.ensures.token p2 in
    let m3 : Moves c.args.words.now c.args.spot c.in_ok-two.two = moved_then m2 (moved_by_one c.in_ok-two.ensures.place c.in_ok-two.ensures.more (m2.ended)) in
    let p4 = read c.in_ok-first.ensures.read.leads p3 in
    let m4 : Moves c.args.words.now c.args.spot c.in_ok-first.three = moved_then m3 (c.in_ok-first.ensures.read.moves) in
    let p5 = read c.in_ok-four.ensures.token p4 in
    let m5 : Moves c.args.words.now c.args.spot c.in_ok-four.four = moved_then m4 (moved_by_one c.in_ok-four.ensures.place c.in_ok-four.ensures.more (m4.ended)) in
    let p6 = read c.in_ok-condition.ensures.read.leads p5 in
    let m6 : Moves c.args.words.now c.args.spot c.in_ok-condition.five = moved_then m5 (c.in_ok-condition.ensures.read.moves) in
    let p7 = read c.in_ok-six.ensures.token p6 in
    let m7 : Moves c.args.words.now c.args.spot c.in_ok-six.six = moved_then m6 (moved_by_one c.in_ok-six.ensures.place c.in_ok-six.ensures.more (m6.ended)) in
    let p8 = read c.in_ok-after.ensures.read.leads p7 in
    let m8 : Moves c.args.words.now c.args.spot c.in_ok-after.seven = moved_then m7 (c.in_ok-after.ensures.read.moves) in
    let p9 = read c.in_ok-eight.ensures.token p8 in
    let m9 : Moves c.args.words.now c.args.spot c.in_ok-eight.eight = moved_then m8 (moved_by_one c.in_ok-eight.ensures.place c.in_ok-eight.ensures.more (m8.ended)) in
    let p10 = read c.in_ok-turn.ensures.read.leads p9 in
    let m10 : Moves c.args.words.now c.args.spot c.in_ok-turn.nine = moved_then m9 (c.in_ok-turn.ensures.read.moves) in
    record { leads = rw c.in_ok-body.ensures (made (λ built. refl) p10); moves = m10 }

pub kind-returns-in_err-branches-clause-refused : goal.kind-returns-in_err-branches-clause-refused
kind-returns-in_err-branches-clause-refused t c =
    let p1 = by_rule form.AnyStatement 2 (number_at form.AnyStatement terminal.If (λ w ws. refl) (drop c.args.spot.at c.args.words.now) (sym c.next_is.ensures ∙ c.if-next_is.true)) (lit< tt) (starts c.args.words.now c.args.spot (N form.AnyStatement ∷ [])) in
    exits (T terminal.If ∷ T terminal.Open ∷ N form.Whole ∷ T terminal.Close ∷ N form.Statement ∷ N form.PerhapsElse ∷ []) _ c.from_residual.result c.in_err-branches.field-0.0 c.from_residual.ensures.1 p1 c.in_err-branches.ensures.refused

pub kind-returns-then-next_is-clause-read : goal.kind-returns-then-next_is-clause-read
kind-returns-then-next_is-clause-read t c =
    let p1 = by_rule form.AnyStatement 2 (number_at form.AnyStatement terminal.If (λ w ws. refl) (drop c.args.spot.at c.args.words.now) (sym c.next_is.ensures ∙ c.if-next_is.true)) (lit< tt) (starts c.args.words.now c.args.spot (N form.AnyStatement ∷ [])) in
    let p2 = read c.in_ok-branches.ensures.read.leads p1 in
    let m2 : Moves c.args.words.now c.args.spot c.in_ok-branches.one = c.in_ok-branches.ensures.read.moves in
    record { leads = p2; moves = m2 }

pub kind-returns-in_err-turns-clause-refused : goal.kind-returns-in_err-turns-clause-refused
kind-returns-in_err-turns-clause-refused t c =
    let p13 = by_rule form.AnyStatement 3 (number_at form.AnyStatement terminal.While (λ w ws. refl) (drop c.args.spot.at c.args.words.now) (sym c.next_is-2.ensures ∙ c.if-next_is-2.true)) (lit< tt) (starts c.args.words.now c.args.spot (N form.AnyStatement ∷ [])) in
    exits (T terminal.While ∷ T terminal.Open ∷ N form.Whole ∷ T terminal.Close ∷ N form.Statement ∷ B MakeWhile ∷ []) _ c.from_residual-in_err-turns.result c.in_err-turns.field-0.0 c.from_residual-in_err-turns.ensures.1 p13 c.in_err-turns.ensures.refused

pub kind-returns-then-next_is-2-clause-read : goal.kind-returns-then-next_is-2-clause-read
kind-returns-then-next_is-2-clause-read t c =
    let p13 = by_rule form.AnyStatement 3 (number_at form.AnyStatement terminal.While (λ w ws. refl) (drop c.args.spot.at c.args.words.now) (sym c.next_is-2.ensures ∙ c.if-next_is-2.true)) (lit< tt) (starts c.args.words.now c.args.spot (N form.AnyStatement ∷ [])) in
    let p14 = read c.in_ok-turns.ensures.read.leads p13 in
    let m14 : Moves c.args.words.now c.args.spot c.in_ok-turns.two = c.in_ok-turns.ensures.read.moves in
    record { leads = p14; moves = m14 }

pub kind-returns-in_err-tested-clause-refused : goal.kind-returns-in_err-tested-clause-refused
kind-returns-in_err-tested-clause-refused t c =
    let p25 = by_rule form.AnyStatement 4 (number_at form.AnyStatement terminal.Do (λ w ws. refl) (drop c.args.spot.at c.args.words.now) (sym c.next_is-3.ensures ∙ c.if-next_is-3.true)) (lit< tt) (starts c.args.words.now c.args.spot (N form.AnyStatement ∷ [])) in
    exits (T terminal.Do ∷ N form.Statement ∷ T terminal.While ∷ T terminal.Open ∷ N form.Whole ∷ T terminal.Close ∷ T terminal.Semicolon ∷ B MakeDoWhile ∷ []) _ c.from_residual-in_err-tested.result c.in_err-tested.field-0.0 c.from_residual-in_err-tested.ensures.1 p25 c.in_err-tested.ensures.refused

pub kind-returns-then-next_is-3-clause-read : goal.kind-returns-then-next_is-3-clause-read
kind-returns-then-next_is-3-clause-read t c =
    let p25 = by_rule form.AnyStatement 4 (number_at form.AnyStatement terminal.Do (λ w ws. refl) (drop c.args.spot.at c.args.words.now) (sym c.next_is-3.ensures ∙ c.if-next_is-3.true)) (lit< tt) (starts c.args.words.now c.args.spot (N form.AnyStatement ∷ [])) in
    let p26 = read c.in_ok-tested.ensures.read.leads p25 in
    let m26 : Moves c.args.words.now c.args.spot c.in_ok-tested.three = c.in_ok-tested.ensures.read.moves in
    record { leads = p26; moves = m26 }

pub kind-returns-in_err-counted-clause-refused : goal.kind-returns-in_err-counted-clause-refused
kind-returns-in_err-counted-clause-refused t c =
    let p37 = by_rule form.AnyStatement 5 (number_at form.AnyStatement terminal.For (λ w ws. refl) (drop c.args.spot.at c.args.words.now) (sym c.next_is-4.ensures ∙ c.if-next_is-4.true)) (lit< tt) (starts c.args.words.now c.args.spot (N form.AnyStatement ∷ [])) in
    exits (T terminal.For ∷ T terminal.Open ∷ N form.PerhapsWhole ∷ T terminal.Semicolon ∷ N form.PerhapsWhole ∷ T terminal.Semicolon ∷ N form.PerhapsWhole ∷ T terminal.Close ∷ N form.Statement ∷ B MakeFor ∷ []) _ c.from_residual-in_err-counted.result c.in_err-counted.field-0.0 c.from_residual-in_err-counted.ensures.1 p37 c.in_err-counted.ensures.refused

pub kind-returns-then-next_is-4-clause-read : goal.kind-returns-then-next_is-4-clause-read
kind-returns-then-next_is-4-clause-read t c =
    let p37 = by_rule form.AnyStatement 5 (number_at form.AnyStatement terminal.For (λ w ws. refl) (drop c.args.spot.at c.args.words.now) (sym c.next_is-4.ensures ∙ c.if-next_is-4.true)) (lit< tt) (starts c.args.words.now c.args.spot (N form.AnyStatement ∷ [])) in
    let p38 = read c.in_ok-counted.ensures.read.leads p37 in
    let m38 : Moves c.args.words.now c.args.spot c.in_ok-counted.four = c.in_ok-counted.ensures.read.moves in
    record { leads = p38; moves = m38 }

pub kind-returns-in_err-given-clause-refused : goal.kind-returns-in_err-given-clause-refused
kind-returns-in_err-given-clause-refused t c =
    let p49 = by_rule form.AnyStatement 6 (number_at form.AnyStatement terminal.Return (λ w ws. refl) (drop c.args.spot.at c.args.words.now) (sym c.next_is-5.ensures ∙ c.if-next_is-5.true)) (lit< tt) (starts c.args.words.now c.args.spot (N form.AnyStatement ∷ [])) in
    exits (T terminal.Return ∷ N form.PerhapsWhole ∷ T terminal.Semicolon ∷ B MakeReturn ∷ []) _ c.from_residual-in_err-given.result c.in_err-given.field-0.0 c.from_residual-in_err-given.ensures.1 p49 c.in_err-given.ensures.refused

pub kind-returns-then-next_is-5-clause-read : goal.kind-returns-then-next_is-5-clause-read
kind-returns-then-next_is-5-clause-read t c =
    let p49 = by_rule form.AnyStatement 6 (number_at form.AnyStatement terminal.Return (λ w ws. refl) (drop c.args.spot.at c.args.words.now) (sym c.next_is-5.ensures ∙ c.if-next_is-5.true)) (lit< tt) (starts c.args.words.now c.args.spot (N form.AnyStatement ∷ [])) in
    let p50 = read c.in_ok-given.ensures.read.leads p49 in
    let m50 : Moves c.args.words.now c.args.spot c.in_ok-given.five = c.in_ok-given.ensures.read.moves in
    record { leads = p50; moves = m50 }

pub kind-returns-in_err-broken-clause-refused : goal.kind-returns-in_err-broken-clause-refused
kind-returns-in_err-broken-clause-refused t c =
    let p61 = by_rule form.AnyStatement 7 (number_at form.AnyStatement terminal.Break (λ w ws. refl) (drop c.args.spot.at c.args.words.now) (sym c.next_is-6.ensures ∙ c.if-next_is-6.true)) (lit< tt) (starts c.args.words.now c.args.spot (N form.AnyStatement ∷ [])) in
    exits (T terminal.Break ∷ T terminal.Semicolon ∷ B (Give (OfKind statement.Break)) ∷ []) _ c.from_residual-in_err-broken.result c.in_err-broken.field-0.0 c.from_residual-in_err-broken.ensures.1 p61 c.in_err-broken.ensures.refused

pub kind-returns-then-next_is-6-clause-read : goal.kind-returns-then-next_is-6-clause-read
kind-returns-then-next_is-6-clause-read t c =
    let p61 = by_rule form.AnyStatement 7 (number_at form.AnyStatement terminal.Break (λ w ws. refl) (drop c.args.spot.at c.args.words.now) (sym c.next_is-6.ensures ∙ c.if-next_is-6.true)) (lit< tt) (starts c.args.words.now c.args.spot (N form.AnyStatement ∷ [])) in
    let p62 = read c.in_ok-broken.ensures.read.leads p61 in
    let m62 : Moves c.args.words.now c.args.spot c.in_ok-broken.six = c.in_ok-broken.ensures.read.moves in
    record { leads = p62; moves = m62 }

pub kind-returns-in_err-skipped-clause-refused : goal.kind-returns-in_err-skipped-clause-refused
kind-returns-in_err-skipped-clause-refused t c =
    let p73 = by_rule form.AnyStatement 8 (number_at form.AnyStatement terminal.Continue (λ w ws. refl) (drop c.args.spot.at c.args.words.now) (sym c.next_is-7.ensures ∙ c.if-next_is-7.true)) (lit< tt) (starts c.args.words.now c.args.spot (N form.AnyStatement ∷ [])) in
    exits (T terminal.Continue ∷ T terminal.Semicolon ∷ B (Give (OfKind statement.Continue)) ∷ []) _ c.from_residual-in_err-skipped.result c.in_err-skipped.field-0.0 c.from_residual-in_err-skipped.ensures.1 p73 c.in_err-skipped.ensures.refused

pub kind-returns-then-next_is-7-clause-read : goal.kind-returns-then-next_is-7-clause-read
kind-returns-then-next_is-7-clause-read t c =
    let p73 = by_rule form.AnyStatement 8 (number_at form.AnyStatement terminal.Continue (λ w ws. refl) (drop c.args.spot.at c.args.words.now) (sym c.next_is-7.ensures ∙ c.if-next_is-7.true)) (lit< tt) (starts c.args.words.now c.args.spot (N form.AnyStatement ∷ [])) in
    let p74 = read c.in_ok-skipped.ensures.read.leads p73 in
    let m74 : Moves c.args.words.now c.args.spot c.in_ok-skipped.seven = c.in_ok-skipped.ensures.read.moves in
    record { leads = p74; moves = m74 }

pub kind-returns-in_err-value-clause-refused : goal.kind-returns-in_err-value-clause-refused
kind-returns-in_err-value-clause-refused t c =
    let p85 = by_rule form.AnyStatement 1 (evaluation_number (drop c.args.spot.at c.args.words.now) (sym c.begins_evaluation.ensures ∙ c.if-begins_evaluation.true)) (lit< tt) (starts c.args.words.now c.args.spot (N form.AnyStatement ∷ [])) in
    exits (N form.PerhapsWhole ∷ T terminal.Semicolon ∷ B MakeEval ∷ []) _ c.from_residual-in_err-value.result c.in_err-value.field-0.0 c.from_residual-in_err-value.ensures.1 p85 c.in_err-value.ensures.refused

pub kind-returns-then-begins_evaluation-clause-read : goal.kind-returns-then-begins_evaluation-clause-read
kind-returns-then-begins_evaluation-clause-read t c =
    let p85 = by_rule form.AnyStatement 1 (evaluation_number (drop c.args.spot.at c.args.words.now) (sym c.begins_evaluation.ensures ∙ c.if-begins_evaluation.true)) (lit< tt) (starts c.args.words.now c.args.spot (N form.AnyStatement ∷ [])) in
    let p86 = read c.in_ok-value.ensures.read.leads p85 in
    let m86 : Moves c.args.words.now c.args.spot c.in_ok-value.eight = c.in_ok-value.ensures.read.moves in
    record { leads = p86; moves = m86 }

pub kind-returns-in_err-block-clause-refused : goal.kind-returns-in_err-block-clause-refused
kind-returns-in_err-block-clause-refused t c =
    let p97 = by_rule form.AnyStatement 0 (other_number (drop c.args.spot.at c.args.words.now) (sym c.next_is.ensures ∙ c.if-next_is.false) (sym c.next_is-2.ensures ∙ c.if-next_is-2.false) (sym c.next_is-3.ensures ∙ c.if-next_is-3.false) (sym c.next_is-4.ensures ∙ c.if-next_is-4.false) (sym c.next_is-5.ensures ∙ c.if-next_is-5.false) (sym c.next_is-6.ensures ∙ c.if-next_is-6.false) (sym c.next_is-7.ensures ∙ c.if-next_is-7.false) (sym c.begins_evaluation.ensures ∙ c.if-begins_evaluation.false)) (lit< tt) (starts c.args.words.now c.args.spot (N form.AnyStatement ∷ [])) in
    exits (N form.Block ∷ []) _ c.from_residual-in_err-block.result c.in_err-block.field-0.0 c.from_residual-in_err-block.ensures.1 p97 c.in_err-block.ensures.refused

pub kind-returns-clause-read : goal.kind-returns-clause-read
kind-returns-clause-read t c =
    let p97 = by_rule form.AnyStatement 0 (other_number (drop c.args.spot.at c.args.words.now) (sym c.next_is.ensures ∙ c.if-next_is.false) (sym c.next_is-2.ensures ∙ c.if-next_is-2.false) (sym c.next_is-3.ensures ∙ c.if-next_is-3.false) (sym c.next_is-4.ensures ∙ c.if-next_is-4.false) (sym c.next_is-5.ensures ∙ c.if-next_is-5.false) (sym c.next_is-6.ensures ∙ c.if-next_is-6.false) (sym c.next_is-7.ensures ∙ c.if-next_is-7.false) (sym c.begins_evaluation.ensures ∙ c.if-begins_evaluation.false)) (lit< tt) (starts c.args.words.now c.args.spot (N form.AnyStatement ∷ [])) in
    let p98 = read c.in_ok-block.ensures.read.leads p97 in
    let m98 : Moves c.args.words.now c.args.spot c.in_ok-block.nine = c.in_ok-block.ensures.read.moves in
    record { leads = made (λ built. refl) p98; moves = m98 }

pub statement-returns-in_err-place-clause-refused : goal.statement-returns-in_err-place-clause-refused
statement-returns-in_err-place-clause-refused t c =
    let p1 = by_rule form.Statement 0 (statement_number (drop c.args.spot.at c.args.words.now)) (lit< tt) (starts c.args.words.now c.args.spot (N form.Statement ∷ [])) in
    let p2 = entered p1 in
    exits (Here ∷ []) _ c.from_residual.result c.in_err-place.field-0.0 c.from_residual.ensures.1 p2 c.in_err-place.ensures.refused

pub statement-returns-in_err-kind-clause-refused : goal.statement-returns-in_err-kind-clause-refused
statement-returns-in_err-kind-clause-refused t c =
    let p1 = by_rule form.Statement 0 (statement_number (drop c.args.spot.at c.args.words.now)) (lit< tt) (starts c.args.words.now c.args.spot (N form.Statement ∷ [])) in
    let p2 = entered p1 in
    let p3 = read c.in_ok-place.ensures.read p2 in
    exits (N form.AnyStatement ∷ []) _ c.from_residual-in_err-kind.result c.in_err-kind.field-0.0 c.from_residual-in_err-kind.ensures.1 p3 c.in_err-kind.ensures.refused

pub statement-returns-clause-read : goal.statement-returns-clause-read
statement-returns-clause-read t c =
    let p1 = by_rule form.Statement 0 (statement_number (drop c.args.spot.at c.args.words.now)) (lit< tt) (starts c.args.words.now c.args.spot (N form.Statement ∷ [])) in
    let p2 = entered p1 in
    let p3 = read c.in_ok-place.ensures.read p2 in
    let p4 = read c.in_ok-kind.ensures.read.leads p3 in
    let m4 : Moves c.args.words.now (deeper c.args.spot) c.in_ok-kind.one = c.in_ok-kind.ensures.read.moves in
    record { leads = leaves c.args.spot.depth m4.depth (made (λ built. refl) p4); moves = moved_inside m4 }

pub block_item-returns-in_err-declaration-clause-refused : goal.block_item-returns-in_err-declaration-clause-refused
block_item-returns-in_err-declaration-clause-refused t c =
    sticks_so c.args.words.now c.args.spot c.from_residual.result c.in_err-declaration.field-0.0 c.from_residual.ensures.1 (λ start all left values items p.
    stops_at (N form.Declaration ∷ []) _ c.in_err-declaration.field-0.0 (by_rule form.BlockItems 0 (declaration_next (drop c.args.spot.at c.args.words.now) (sym c.begins_type.ensures ∙ c.if-begins_type.true)) (lit< tt) p) c.in_err-declaration.ensures.refused)

pub block_item-returns-in_err-statement-clause-refused : goal.block_item-returns-in_err-statement-clause-refused
block_item-returns-in_err-statement-clause-refused t c =
    sticks_so c.args.words.now c.args.spot c.from_residual-in_err-statement.result c.in_err-statement.field-0.0 c.from_residual-in_err-statement.ensures.1 (λ start all left values items p.
    stops_at (N form.Statement ∷ []) _ c.in_err-statement.field-0.0 (by_rule form.BlockItems 1 (statement_next (drop c.args.spot.at c.args.words.now) c.requires.next (sym c.begins_type.ensures ∙ c.if-begins_type.false)) (lit< tt) p) c.in_err-statement.ensures.refused)

pub block_item-returns-then-begins_type-clause-read : goal.block_item-returns-then-begins_type-clause-read
block_item-returns-then-begins_type-clause-read t c = record {
  pushes = λ start all left values items p. made (λ built. refl) (read c.in_ok-declaration.ensures.read.leads (by_rule form.BlockItems 0 (declaration_next (drop c.args.spot.at c.args.words.now) (sym c.begins_type.ensures ∙ c.if-begins_type.true)) (lit< tt) p));
  moves = c.in_ok-declaration.ensures.read.moves;
}

pub block_item-returns-clause-read : goal.block_item-returns-clause-read
block_item-returns-clause-read t c = record {
  pushes = λ start all left values items p. made (λ built. refl) (read c.in_ok-statement.ensures.read.leads (by_rule form.BlockItems 1 (statement_next (drop c.args.spot.at c.args.words.now) c.requires.next (sym c.begins_type.ensures ∙ c.if-begins_type.false)) (lit< tt) p));
  moves = c.in_ok-statement.ensures.read.moves;
}

pub block-returns-in_err-place-clause-refused : goal.block-returns-in_err-place-clause-refused
block-returns-in_err-place-clause-refused t c =
    exits (Here ∷ T terminal.OpenBrace ∷ []) _ c.from_residual.result c.in_err-place.field-0.0 c.from_residual.ensures.1 (by_rule form.Block 0 (block_number (drop c.args.spot.at c.args.words.now)) (lit< tt) (starts c.args.words.now c.args.spot (N form.Block ∷ []))) c.in_err-place.ensures.refused

pub block-loop-alloc-init : goal.block-loop-alloc-init
block-loop-alloc-init t c = record {
  path = rw c.new-items.ensures (made (λ built. refl) (read c.in_ok-place.ensures.read (by_rule form.Block 0 (block_number (drop c.args.spot.at c.args.words.now)) (lit< tt) (starts c.args.words.now c.args.spot (N form.Block ∷ [])))));
  moves = moved_by_one c.in_ok-place.ensures.place c.in_ok-place.ensures.more c.requires.shallow.ended;
  none_ended = ap (λ s. s.ended) c.in_ok-place.ensures.place ∙ c.requires.none_ended;
  on = omega (arith, ap (λ s. s.at) c.in_ok-place.ensures.place);
}

pub block-returns-in_err-item-clause-refused : goal.block-returns-in_err-item-clause-refused
block-returns-in_err-item-clause-refused t c =
    exits_so c.args.words.now c.args.spot (N form.Block ∷ []) c.from_residual-in_err-item.result c.in_err-item.field-0.0 c.from_residual-in_err-item.ensures.1 (c.in_err-item.ensures.refused.sticks _ _ _ _ _ c.loop-alloc.invariant.path)

pub block-loop-alloc-preserved : goal.block-loop-alloc-preserved
block-loop-alloc-preserved t c =
    let item = c.in_ok-item.ensures.read in
    record {
      path = rw c.in_ok-push.ensures.ok (item.pushes _ _ _ _ _ c.loop-alloc.invariant.path);
      moves = moved_then c.loop-alloc.invariant.moves item.moves;
      none_ended = c.in_ok-item.ensures.none_ended;
      on = omega (arith, item.moves.on, c.loop-alloc.invariant.on);
    }

pub block-returns-in_err-three-clause-refused : goal.block-returns-in_err-three-clause-refused
block-returns-in_err-three-clause-refused t c =
    let p = by_rule form.BlockItems 2 (no_item (drop c.loop-alloc.here.at c.args.words.now) (sym c.begins_item.ensures ∙ c.loop-alloc-test.false)) (lit< tt) c.loop-alloc.invariant.path in
    exits (T terminal.CloseBrace ∷ []) _ c.from_residual-in_err-three.result c.in_err-three.field-0.0 c.from_residual-in_err-three.ensures.1 p c.in_err-three.ensures.no_token

pub block-returns-clause-read : goal.block-returns-clause-read
block-returns-clause-read t c =
    let p = by_rule form.BlockItems 2 (no_item (drop c.loop-alloc.here.at c.args.words.now) (sym c.begins_item.ensures ∙ c.loop-alloc-test.false)) (lit< tt) c.loop-alloc.invariant.path in
    record {
      leads = made (λ built. refl) (read c.in_ok-three.ensures.token p);
      moves = moved_then c.loop-alloc.invariant.moves (moved_by_one c.in_ok-three.ensures.place c.in_ok-three.ensures.more c.loop-alloc.invariant.moves.ended);
    }
