use Rattle.std.proofs.Common.{[], ◌∷◌, refl}
use Rattle.c_ast.specs.declared.program.StatementKind as statement
use Rattle.c_grammar.specs.declared.words.Terminal.TheVariants as terminal
use Rattle.c_grammar.specs.Grammar.{B, T}
use Rattle.c_parser.specs.Parts.{Moves}
use Rattle.c_grammar.specs.Steps.{Give, OfKind}
use Rattle.c_parser.proofs.Chains.{starts, read, made, exits, moved_by_one, moved_then}
use Rattle.c_parser.proofs.statements.breaking.Goals as goal

pub returns-in_err-one-clause-refused : goal.returns-in_err-one-clause-refused
returns-in_err-one-clause-refused c =
    let p1 = starts c.args.words.now c.args.spot (T terminal.Break ∷ T terminal.Semicolon ∷ B (Give (OfKind statement.Break)) ∷ []) in
    exits (T terminal.Break ∷ []) _ c.from_residual.result c.in_err-one.field-0.0 c.from_residual.ensures.1 p1 c.in_err-one.ensures.no_token

pub returns-in_err-two-clause-refused : goal.returns-in_err-two-clause-refused
returns-in_err-two-clause-refused c =
    let p1 = starts c.args.words.now c.args.spot (T terminal.Break ∷ T terminal.Semicolon ∷ B (Give (OfKind statement.Break)) ∷ []) in
    let p2 = read c.in_ok-one.ensures.token p1 in
    let m2 : Moves c.args.words.now c.args.spot c.in_ok-one.one = moved_by_one c.in_ok-one.ensures.place c.in_ok-one.ensures.more (c.requires.shallow.ended) in
    exits (T terminal.Semicolon ∷ []) _ c.from_residual-in_err-two.result c.in_err-two.field-0.0 c.from_residual-in_err-two.ensures.1 p2 c.in_err-two.ensures.no_token

pub returns-clause-read : goal.returns-clause-read
returns-clause-read c =
    let p1 = starts c.args.words.now c.args.spot (T terminal.Break ∷ T terminal.Semicolon ∷ B (Give (OfKind statement.Break)) ∷ []) in
    let p2 = read c.in_ok-one.ensures.token p1 in
    let m2 : Moves c.args.words.now c.args.spot c.in_ok-one.one = moved_by_one c.in_ok-one.ensures.place c.in_ok-one.ensures.more (c.requires.shallow.ended) in
    let p3 = read c.in_ok-two.ensures.token p2 in
    let m3 : Moves c.args.words.now c.args.spot c.in_ok-two.two = moved_then m2 (moved_by_one c.in_ok-two.ensures.place c.in_ok-two.ensures.more (m2.ended)) in
    record { leads = made (λ built. refl) p3; moves = m3 }
