use Rattle.std.proofs.Common.{[], ◌∷◌, drop, refl, lit<}
use Rattle.c_grammar.specs.Grammar as form
use Rattle.c_grammar.specs.Grammar.{AfterUnary, B, CountOperator, Here, In, L, Left, M, N, Out, T, Symbol, operand, prefix}
use Rattle.c_parser.specs.Parts.{Moves}
use Rattle.c_parser.proofs.ObjectLemmas.{object_number}
use Rattle.c_parser.proofs.Chains.{starts, by_rule, read, made, exits, moved_by_form, moved_then}
use Rattle.c_parser.proofs.objects.object.Goals as goal

pub returns-in_err-declarator-clause-refused : goal.returns-in_err-declarator-clause-refused
returns-in_err-declarator-clause-refused c =
    let p1 = by_rule form.Object 0 (object_number (drop c.args.spot.at c.args.words.now)) (lit< tt) (starts c.args.words.now c.args.spot (N form.Object ∷ [])) in
    exits (N form.Declarator ∷ []) _ c.from_residual.result c.in_err-declarator.field-0.0 c.from_residual.ensures.1 p1 c.in_err-declarator.ensures.refused

pub returns-in_err-start-clause-refused : goal.returns-in_err-start-clause-refused
returns-in_err-start-clause-refused c =
    let p1 = by_rule form.Object 0 (object_number (drop c.args.spot.at c.args.words.now)) (lit< tt) (starts c.args.words.now c.args.spot (N form.Object ∷ [])) in
    let p2 = read c.in_ok-declarator.ensures.read.leads p1 in
    let m2 : Moves c.args.words.now c.args.spot c.in_ok-declarator.one = moved_by_form c.in_ok-declarator.ensures.read (c.requires.shallow.ended) in
    exits (N form.PerhapsStart ∷ []) _ c.from_residual-in_err-start.result c.in_err-start.field-0.0 c.from_residual-in_err-start.ensures.1 p2 c.in_err-start.ensures.refused

pub returns-clause-read : goal.returns-clause-read
returns-clause-read c =
    let p1 = by_rule form.Object 0 (object_number (drop c.args.spot.at c.args.words.now)) (lit< tt) (starts c.args.words.now c.args.spot (N form.Object ∷ [])) in
    let p2 = read c.in_ok-declarator.ensures.read.leads p1 in
    let m2 : Moves c.args.words.now c.args.spot c.in_ok-declarator.one = moved_by_form c.in_ok-declarator.ensures.read (c.requires.shallow.ended) in
    let p3 = read c.in_ok-start.ensures.read.leads p2 in
    let m3 : Moves c.args.words.now c.args.spot c.in_ok-start.two = moved_then m2 (c.in_ok-start.ensures.read.moves) in
    record { leads = made (λ built. refl) p3; moves = m3 }
