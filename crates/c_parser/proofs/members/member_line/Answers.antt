use Rattle.std.proofs.Common.{[], ◌∷◌, drop, refl, lit<}
use Rattle.c_grammar.specs.declared.words.Terminal.TheVariants as terminal
use Rattle.c_grammar.specs.Grammar as form
use Rattle.c_grammar.specs.Grammar.{AfterUnary, B, CountOperator, Here, In, L, Left, M, N, Out, T, Symbol, operand, prefix}
use Rattle.c_parser.specs.Parts.{Moves}
use Rattle.c_grammar.specs.Steps.{MakeMember}
use Rattle.c_parser.proofs.MemberLemmas.{member_number}
use Rattle.c_parser.proofs.Chains.{starts, by_rule, read, made, exits, exits_so, moved_by_one, moved_by_form, moved_then}
use Rattle.c_parser.proofs.members.member_line.Goals as goal

pub returns-in_err-specifier-clause-refused : goal.returns-in_err-specifier-clause-refused
returns-in_err-specifier-clause-refused c =
    let p1 = by_rule form.Member 0 (member_number (drop c.args.spot.at c.args.words.now)) (lit< tt) (starts c.args.words.now c.args.spot (N form.Member ∷ [])) in
    exits (N form.Specifier ∷ []) _ c.from_residual.result c.in_err-specifier.field-0.0 c.from_residual.ensures.1 p1 c.in_err-specifier.ensures.refused

pub returns-in_err-first-clause-refused : goal.returns-in_err-first-clause-refused
returns-in_err-first-clause-refused c =
    let p1 = by_rule form.Member 0 (member_number (drop c.args.spot.at c.args.words.now)) (lit< tt) (starts c.args.words.now c.args.spot (N form.Member ∷ [])) in
    let p2 = read c.in_ok-specifier.ensures.read.leads p1 in
    let m2 : Moves c.args.words.now c.args.spot c.in_ok-specifier.one = moved_by_form c.in_ok-specifier.ensures.read (c.requires.shallow.ended) in
    exits (N form.Declarator ∷ []) _ c.from_residual-in_err-first.result c.in_err-first.field-0.0 c.from_residual-in_err-first.ensures.1 p2 c.in_err-first.ensures.refused

pub returns-in_err-declarators-clause-refused : goal.returns-in_err-declarators-clause-refused
returns-in_err-declarators-clause-refused c =
    let p1 = by_rule form.Member 0 (member_number (drop c.args.spot.at c.args.words.now)) (lit< tt) (starts c.args.words.now c.args.spot (N form.Member ∷ [])) in
    let p2 = read c.in_ok-specifier.ensures.read.leads p1 in
    let m2 : Moves c.args.words.now c.args.spot c.in_ok-specifier.one = moved_by_form c.in_ok-specifier.ensures.read (c.requires.shallow.ended) in
    let p3 = read c.in_ok-first.ensures.read.leads p2 in
    let m3 : Moves c.args.words.now c.args.spot c.in_ok-first.two = moved_then m2 (moved_by_form c.in_ok-first.ensures.read (m2.ended)) in
    exits_so c.args.words.now c.args.spot (N form.Member ∷ []) c.from_residual-in_err-declarators.result c.in_err-declarators.field-0.0 c.from_residual-in_err-declarators.ensures.1 (c.in_err-declarators.ensures.refused.halts _ _ (T terminal.Semicolon ∷ B MakeMember ∷ []) _ p3)

pub returns-in_err-four-clause-refused : goal.returns-in_err-four-clause-refused
returns-in_err-four-clause-refused c =
    let p1 = by_rule form.Member 0 (member_number (drop c.args.spot.at c.args.words.now)) (lit< tt) (starts c.args.words.now c.args.spot (N form.Member ∷ [])) in
    let p2 = read c.in_ok-specifier.ensures.read.leads p1 in
    let m2 : Moves c.args.words.now c.args.spot c.in_ok-specifier.one = moved_by_form c.in_ok-specifier.ensures.read (c.requires.shallow.ended) in
    let p3 = read c.in_ok-first.ensures.read.leads p2 in
    let m3 : Moves c.args.words.now c.args.spot c.in_ok-first.two = moved_then m2 (moved_by_form c.in_ok-first.ensures.read (m2.ended)) in
    let p4 = c.in_ok-declarators.ensures.read.turns _ _ (T terminal.Semicolon ∷ B MakeMember ∷ []) _ p3 in
    let m4 : Moves c.args.words.now c.args.spot c.in_ok-declarators.three = moved_then m3 (c.in_ok-declarators.ensures.read.moves) in
    exits (T terminal.Semicolon ∷ []) _ c.from_residual-in_err-four.result c.in_err-four.field-0.0 c.from_residual-in_err-four.ensures.1 p4 c.in_err-four.ensures.no_token

pub returns-clause-read : goal.returns-clause-read
returns-clause-read c =
    let p1 = by_rule form.Member 0 (member_number (drop c.args.spot.at c.args.words.now)) (lit< tt) (starts c.args.words.now c.args.spot (N form.Member ∷ [])) in
    let p2 = read c.in_ok-specifier.ensures.read.leads p1 in
    let m2 : Moves c.args.words.now c.args.spot c.in_ok-specifier.one = moved_by_form c.in_ok-specifier.ensures.read (c.requires.shallow.ended) in
    let p3 = read c.in_ok-first.ensures.read.leads p2 in
    let m3 : Moves c.args.words.now c.args.spot c.in_ok-first.two = moved_then m2 (moved_by_form c.in_ok-first.ensures.read (m2.ended)) in
    let p4 = c.in_ok-declarators.ensures.read.turns _ _ (T terminal.Semicolon ∷ B MakeMember ∷ []) _ p3 in
    let m4 : Moves c.args.words.now c.args.spot c.in_ok-declarators.three = moved_then m3 (c.in_ok-declarators.ensures.read.moves) in
    let p5 = read c.in_ok-four.ensures.token p4 in
    let m5 : Moves c.args.words.now c.args.spot c.in_ok-four.four = moved_then m4 (moved_by_one c.in_ok-four.ensures.place c.in_ok-four.ensures.more (m4.ended)) in
    record { leads = made (λ built. refl) p5; moves = m5 }
