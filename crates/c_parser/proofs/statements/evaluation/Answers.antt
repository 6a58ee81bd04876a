use Rattle.std.proofs.Common.{[], ◌∷◌, refl}
use Rattle.c_grammar.specs.declared.words.Terminal.TheVariants as terminal
use Rattle.c_grammar.specs.Grammar as form
use Rattle.c_grammar.specs.Grammar.{AfterUnary, B, CountOperator, Here, In, L, Left, M, N, Out, T, Symbol, operand, prefix}
use Rattle.c_parser.specs.Parts.{Moves}
use Rattle.c_grammar.specs.Steps.{MakeEval}
use Rattle.c_parser.proofs.Chains.{starts, read, made, exits, moved_by_one, moved_then}
use Rattle.c_parser.proofs.statements.evaluation.Goals as goal

pub returns-in_err-value-clause-refused : goal.returns-in_err-value-clause-refused
returns-in_err-value-clause-refused c =
    let p1 = starts c.args.words.now c.args.spot (N form.PerhapsWhole ∷ T terminal.Semicolon ∷ B MakeEval ∷ []) in
    exits (N form.PerhapsWhole ∷ []) _ c.from_residual.result c.in_err-value.field-0.0 c.from_residual.ensures.1 p1 c.in_err-value.ensures.refused

pub returns-in_err-two-clause-refused : goal.returns-in_err-two-clause-refused
returns-in_err-two-clause-refused c =
    let p1 = starts c.args.words.now c.args.spot (N form.PerhapsWhole ∷ T terminal.Semicolon ∷ B MakeEval ∷ []) in
    let p2 = read c.in_ok-value.ensures.read.leads p1 in
    let m2 : Moves c.args.words.now c.args.spot c.in_ok-value.one = c.in_ok-value.ensures.read.moves in
    exits (T terminal.Semicolon ∷ []) _ c.from_residual-in_err-two.result c.in_err-two.field-0.0 c.from_residual-in_err-two.ensures.1 p2 c.in_err-two.ensures.no_token

pub returns-clause-read : goal.returns-clause-read
returns-clause-read c =
    let p1 = starts c.args.words.now c.args.spot (N form.PerhapsWhole ∷ T terminal.Semicolon ∷ B MakeEval ∷ []) in
    let p2 = read c.in_ok-value.ensures.read.leads p1 in
    let m2 : Moves c.args.words.now c.args.spot c.in_ok-value.one = c.in_ok-value.ensures.read.moves in
    let p3 = read c.in_ok-two.ensures.token p2 in
    let m3 : Moves c.args.words.now c.args.spot c.in_ok-two.two = moved_then m2 (moved_by_one c.in_ok-two.ensures.place c.in_ok-two.ensures.more (m2.ended)) in
    record { leads = made (λ built. refl) p3; moves = m3 }
