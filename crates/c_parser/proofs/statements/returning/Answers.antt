use Rattle.std.proofs.Common.{[], ◌∷◌, refl}
use Rattle.c_grammar.specs.declared.words.Terminal.TheVariants as terminal
use Rattle.c_grammar.specs.Grammar as form
use Rattle.c_grammar.specs.Grammar.{AfterUnary, B, CountOperator, Here, In, L, Left, M, N, Out, T, Symbol, operand, prefix}
use Rattle.c_parser.specs.Parts.{Moves}
use Rattle.c_grammar.specs.Steps.{MakeReturn}
use Rattle.c_parser.proofs.Chains.{starts, read, made, exits, moved_by_one, moved_then}
use Rattle.c_parser.proofs.statements.returning.Goals as goal

pub returns-in_err-one-clause-refused : goal.returns-in_err-one-clause-refused
returns-in_err-one-clause-refused c =
    let p1 = starts c.args.words.now c.args.spot (T terminal.Return ∷ N form.PerhapsWhole ∷ T terminal.Semicolon ∷ B MakeReturn ∷ []) in
    exits (T terminal.Return ∷ []) _ c.from_residual.result c.in_err-one.field-0.0 c.from_residual.ensures.1 p1 c.in_err-one.ensures.no_token

pub returns-in_err-value-clause-refused : goal.returns-in_err-value-clause-refused
returns-in_err-value-clause-refused c =
    let p1 = starts c.args.words.now c.args.spot (T terminal.Return ∷ N form.PerhapsWhole ∷ T terminal.Semicolon ∷ B MakeReturn ∷ []) in
    let p2 = read c.in_ok-one.ensures.token p1 in
    let m2 : Moves c.args.words.now c.args.spot c.in_ok-one.one = moved_by_one c.in_ok-one.ensures.place c.in_ok-one.ensures.more (c.requires.shallow.ended) in
    exits (N form.PerhapsWhole ∷ []) _ c.from_residual-in_err-value.result c.in_err-value.field-0.0 c.from_residual-in_err-value.ensures.1 p2 c.in_err-value.ensures.refused

pub returns-in_err-three-clause-refused : goal.returns-in_err-three-clause-refused
returns-in_err-three-clause-refused c =
    let p1 = starts c.args.words.now c.args.spot (T terminal.Return ∷ N form.PerhapsWhole ∷ T terminal.Semicolon ∷ B MakeReturn ∷ []) in
    let p2 = read c.in_ok-one.ensures.token p1 in
    let m2 : Moves c.args.words.now c.args.spot c.in_ok-one.one = moved_by_one c.in_ok-one.ensures.place c.in_ok-one.ensures.more (c.requires.shallow.ended) in
    let p3 = read c.in_ok-value.ensures.read.leads p2 in
    let m3 : Moves c.args.words.now c.args.spot c.in_ok-value.two = moved_then m2 (c.in_ok-value.ensures.read.moves) in
    exits (T terminal.Semicolon ∷ []) _ c.from_residual-in_err-three.result c.in_err-three.field-0.0 c.from_residual-in_err-three.ensures.1 p3 c.in_err-three.ensures.no_token

pub returns-clause-read : goal.returns-clause-read
returns-clause-read c =
    let p1 = starts c.args.words.now c.args.spot (T terminal.Return ∷ N form.PerhapsWhole ∷ T terminal.Semicolon ∷ B MakeReturn ∷ []) in
    let p2 = read c.in_ok-one.ensures.token p1 in
    let m2 : Moves c.args.words.now c.args.spot c.in_ok-one.one = moved_by_one c.in_ok-one.ensures.place c.in_ok-one.ensures.more (c.requires.shallow.ended) in
    let p3 = read c.in_ok-value.ensures.read.leads p2 in
    let m3 : Moves c.args.words.now c.args.spot c.in_ok-value.two = moved_then m2 (c.in_ok-value.ensures.read.moves) in
    let p4 = read c.in_ok-three.ensures.token p3 in
    let m4 : Moves c.args.words.now c.args.spot c.in_ok-three.three = moved_then m3 (moved_by_one c.in_ok-three.ensures.place c.in_ok-three.ensures.more (m3.ended)) in
    record { leads = made (λ built. refl) p4; moves = m4 }
