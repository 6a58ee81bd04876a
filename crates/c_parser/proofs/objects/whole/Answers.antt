use Rattle.std.proofs.Common.{[], ◌∷◌, drop, lit<}
use Rattle.c_grammar.specs.Grammar as form
use Rattle.c_grammar.specs.Grammar.{AfterUnary, B, CountOperator, Here, In, L, Left, M, N, Out, T, Symbol, operand, prefix}
use Rattle.c_parser.specs.Parts.{Moves}
use Rattle.c_parser.proofs.ObjectLemmas.{whole_number}
use Rattle.c_parser.proofs.Chains.{whole_ends, moved_whole, starts, by_rule, read, exits}
use Rattle.c_parser.proofs.objects.whole.Goals as goal

pub returns-in_err-value-clause-refused : goal.returns-in_err-value-clause-refused
returns-in_err-value-clause-refused c =
    let p1 = by_rule form.Whole 0 (whole_number (drop c.args.spot.at c.args.words.now)) (lit< tt) (starts c.args.words.now c.args.spot (N form.Whole ∷ [])) in
    exits (N form.Expression ∷ []) _ c.from_residual.result c.in_err-value.field-0.0 c.from_residual.ensures.1 p1 c.in_err-value.ensures.refused

pub returns-clause-read : goal.returns-clause-read
returns-clause-read c =
    let p1 = by_rule form.Whole 0 (whole_number (drop c.args.spot.at c.args.words.now)) (lit< tt) (starts c.args.words.now c.args.spot (N form.Whole ∷ [])) in
    let p2 = read c.in_ok-value.ensures.read.leads p1 in
    let m2 : Moves c.args.words.now c.args.spot c.in_ok-value.one = c.in_ok-value.ensures.read.moves in
    record { leads = whole_ends p2; moves = moved_whole m2 }
