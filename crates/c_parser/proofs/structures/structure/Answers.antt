use Rattle.std.proofs.Common.{[], ◌∷◌, drop, refl, lit<}
use Rattle.c_grammar.specs.declared.words.Terminal.TheVariants as terminal
use Rattle.c_grammar.specs.Grammar as form
use Rattle.c_grammar.specs.Grammar.{AfterUnary, B, CountOperator, Here, In, L, Left, M, N, Out, T, Symbol, operand, prefix}
use Rattle.c_parser.specs.Parts.{Moves}
use Rattle.c_grammar.specs.Steps.{MakeStructure}
use Rattle.c_parser.proofs.StructureLemmas.{structure_number}
use Rattle.c_parser.proofs.Chains.{starts, by_rule, read, made, exits, exits_so, moved_by_one, moved_then}
use Rattle.c_parser.proofs.structures.structure.Goals as goal

pub returns-in_err-one-clause-refused : goal.returns-in_err-one-clause-refused
returns-in_err-one-clause-refused c =
    let p1 = by_rule form.Structure 0 (structure_number (drop c.args.spot.at c.args.words.now)) (lit< tt) (starts c.args.words.now c.args.spot (N form.Structure ∷ [])) in
    exits (T terminal.Struct ∷ []) _ c.from_residual.result c.in_err-one.field-0.0 c.from_residual.ensures.1 p1 c.in_err-one.ensures.no_token

pub returns-in_err-word-clause-refused : goal.returns-in_err-word-clause-refused
returns-in_err-word-clause-refused c =
    let p1 = by_rule form.Structure 0 (structure_number (drop c.args.spot.at c.args.words.now)) (lit< tt) (starts c.args.words.now c.args.spot (N form.Structure ∷ [])) in
    let p2 = read c.in_ok-one.ensures.token p1 in
    let m2 : Moves c.args.words.now c.args.spot c.in_ok-one.one = moved_by_one c.in_ok-one.ensures.place c.in_ok-one.ensures.more (c.requires.shallow.ended) in
    exits (L terminal.Name ∷ []) _ c.from_residual-in_err-word.result c.in_err-word.field-0.0 c.from_residual-in_err-word.ensures.1 p2 c.in_err-word.ensures.no_leaf

pub returns-in_err-three-clause-refused : goal.returns-in_err-three-clause-refused
returns-in_err-three-clause-refused c =
    let p1 = by_rule form.Structure 0 (structure_number (drop c.args.spot.at c.args.words.now)) (lit< tt) (starts c.args.words.now c.args.spot (N form.Structure ∷ [])) in
    let p2 = read c.in_ok-one.ensures.token p1 in
    let m2 : Moves c.args.words.now c.args.spot c.in_ok-one.one = moved_by_one c.in_ok-one.ensures.place c.in_ok-one.ensures.more (c.requires.shallow.ended) in
    let p3 = read c.in_ok-word.ensures.leaf p2 in
    let m3 : Moves c.args.words.now c.args.spot c.in_ok-word.two = moved_then m2 (moved_by_one c.in_ok-word.ensures.place c.in_ok-word.ensures.more (m2.ended)) in
    exits (T terminal.OpenBrace ∷ []) _ c.from_residual-in_err-three.result c.in_err-three.field-0.0 c.from_residual-in_err-three.ensures.1 p3 c.in_err-three.ensures.no_token

pub returns-in_err-first-clause-refused : goal.returns-in_err-first-clause-refused
returns-in_err-first-clause-refused c =
    let p1 = by_rule form.Structure 0 (structure_number (drop c.args.spot.at c.args.words.now)) (lit< tt) (starts c.args.words.now c.args.spot (N form.Structure ∷ [])) in
    let p2 = read c.in_ok-one.ensures.token p1 in
    let m2 : Moves c.args.words.now c.args.spot c.in_ok-one.one = moved_by_one c.in_ok-one.ensures.place c.in_ok-one.ensures.more (c.requires.shallow.ended) in
    let p3 = read c.in_ok-word.ensures.leaf p2 in
    let m3 : Moves c.args.words.now c.args.spot c.in_ok-word.two = moved_then m2 (moved_by_one c.in_ok-word.ensures.place c.in_ok-word.ensures.more (m2.ended)) in
    let p4 = read c.in_ok-three.ensures.token p3 in
    let m4 : Moves c.args.words.now c.args.spot c.in_ok-three.three = moved_then m3 (moved_by_one c.in_ok-three.ensures.place c.in_ok-three.ensures.more (m3.ended)) in
    exits (N form.Member ∷ []) _ c.from_residual-in_err-first.result c.in_err-first.field-0.0 c.from_residual-in_err-first.ensures.1 p4 c.in_err-first.ensures.refused

pub returns-in_err-members-clause-refused : goal.returns-in_err-members-clause-refused
returns-in_err-members-clause-refused c =
    let p1 = by_rule form.Structure 0 (structure_number (drop c.args.spot.at c.args.words.now)) (lit< tt) (starts c.args.words.now c.args.spot (N form.Structure ∷ [])) in
    let p2 = read c.in_ok-one.ensures.token p1 in
    let m2 : Moves c.args.words.now c.args.spot c.in_ok-one.one = moved_by_one c.in_ok-one.ensures.place c.in_ok-one.ensures.more (c.requires.shallow.ended) in
    let p3 = read c.in_ok-word.ensures.leaf p2 in
    let m3 : Moves c.args.words.now c.args.spot c.in_ok-word.two = moved_then m2 (moved_by_one c.in_ok-word.ensures.place c.in_ok-word.ensures.more (m2.ended)) in
    let p4 = read c.in_ok-three.ensures.token p3 in
    let m4 : Moves c.args.words.now c.args.spot c.in_ok-three.three = moved_then m3 (moved_by_one c.in_ok-three.ensures.place c.in_ok-three.ensures.more (m3.ended)) in
    let p5 = read c.in_ok-first.ensures.read.leads p4 in
    let m5 : Moves c.args.words.now c.args.spot c.in_ok-first.four = moved_then m4 (c.in_ok-first.ensures.read.moves) in
    exits_so c.args.words.now c.args.spot (N form.Structure ∷ []) c.from_residual-in_err-members.result c.in_err-members.field-0.0 c.from_residual-in_err-members.ensures.1 (c.in_err-members.ensures.refused.halts _ _ (T terminal.CloseBrace ∷ T terminal.Semicolon ∷ B MakeStructure ∷ []) _ p5)

pub returns-in_err-six-clause-refused : goal.returns-in_err-six-clause-refused
returns-in_err-six-clause-refused c =
    let p1 = by_rule form.Structure 0 (structure_number (drop c.args.spot.at c.args.words.now)) (lit< tt) (starts c.args.words.now c.args.spot (N form.Structure ∷ [])) in
    let p2 = read c.in_ok-one.ensures.token p1 in
    let m2 : Moves c.args.words.now c.args.spot c.in_ok-one.one = moved_by_one c.in_ok-one.ensures.place c.in_ok-one.ensures.more (c.requires.shallow.ended) in
    let p3 = read c.in_ok-word.ensures.leaf p2 in
    let m3 : Moves c.args.words.now c.args.spot c.in_ok-word.two = moved_then m2 (moved_by_one c.in_ok-word.ensures.place c.in_ok-word.ensures.more (m2.ended)) in
    let p4 = read c.in_ok-three.ensures.token p3 in
    let m4 : Moves c.args.words.now c.args.spot c.in_ok-three.three = moved_then m3 (moved_by_one c.in_ok-three.ensures.place c.in_ok-three.ensures.more (m3.ended)) in
    let p5 = read c.in_ok-first.ensures.read.leads p4 in
    let m5 : Moves c.args.words.now c.args.spot c.in_ok-first.four = moved_then m4 (c.in_ok-first.ensures.read.moves) in
    let p6 = c.in_ok-members.ensures.read.turns _ _ (T terminal.CloseBrace ∷ T terminal.Semicolon ∷ B MakeStructure ∷ []) _ p5 in
    let m6 : Moves c.args.words.now c.args.spot c.in_ok-members.five = moved_then m5 (c.in_ok-members.ensures.read.moves) in
    exits (T terminal.CloseBrace ∷ []) _ c.from_residual-in_err-six.result c.in_err-six.field-0.0 c.from_residual-in_err-six.ensures.1 p6 c.in_err-six.ensures.no_token

pub returns-in_err-seven-clause-refused : goal.returns-in_err-seven-clause-refused
returns-in_err-seven-clause-refused c =
    let p1 = by_rule form.Structure 0 (structure_number (drop c.args.spot.at c.args.words.now)) (lit< tt) (starts c.args.words.now c.args.spot (N form.Structure ∷ [])) in
    let p2 = read c.in_ok-one.ensures.token p1 in
    let m2 : Moves c.args.words.now c.args.spot c.in_ok-one.one = moved_by_one c.in_ok-one.ensures.place c.in_ok-one.ensures.more (c.requires.shallow.ended) in
    let p3 = read c.in_ok-word.ensures.leaf p2 in
    let m3 : Moves c.args.words.now c.args.spot c.in_ok-word.two = moved_then m2 (moved_by_one c.in_ok-word.ensures.place c.in_ok-word.ensures.more (m2.ended)) in
    let p4 = read c.in_ok-three.ensures.token p3 in
    let m4 : Moves c.args.words.now c.args.spot c.in_ok-three.three = moved_then m3 (moved_by_one c.in_ok-three.ensures.place c.in_ok-three.ensures.more (m3.ended)) in
    let p5 = read c.in_ok-first.ensures.read.leads p4 in
    let m5 : Moves c.args.words.now c.args.spot c.in_ok-first.four = moved_then m4 (c.in_ok-first.ensures.read.moves) in
    let p6 = c.in_ok-members.ensures.read.turns _ _ (T terminal.CloseBrace ∷ T terminal.Semicolon ∷ B MakeStructure ∷ []) _ p5 in
    let m6 : Moves c.args.words.now c.args.spot c.in_ok-members.five = moved_then m5 (c.in_ok-members.ensures.read.moves) in
    let p7 = read c.in_ok-six.ensures.token p6 in
    let m7 : Moves c.args.words.now c.args.spot c.in_ok-six.six = moved_then m6 (moved_by_one c.in_ok-six.ensures.place c.in_ok-six.ensures.more (m6.ended)) in
    exits (T terminal.Semicolon ∷ []) _ c.from_residual-in_err-seven.result c.in_err-seven.field-0.0 c.from_residual-in_err-seven.ensures.1 p7 c.in_err-seven.ensures.no_token

pub returns-clause-read : goal.returns-clause-read
returns-clause-read c =
    let p1 = by_rule form.Structure 0 (structure_number (drop c.args.spot.at c.args.words.now)) (lit< tt) (starts c.args.words.now c.args.spot (N form.Structure ∷ [])) in
    let p2 = read c.in_ok-one.ensures.token p1 in
    let m2 : Moves c.args.words.now c.args.spot c.in_ok-one.one = moved_by_one c.in_ok-one.ensures.place c.in_ok-one.ensures.more (c.requires.shallow.ended) in
    let p3 = read c.in_ok-word.ensures.leaf p2 in
    let m3 : Moves c.args.words.now c.args.spot c.in_ok-word.two = moved_then m2 (moved_by_one c.in_ok-word.ensures.place c.in_ok-word.ensures.more (m2.ended)) in
    let p4 = read c.in_ok-three.ensures.token p3 in
    let m4 : Moves c.args.words.now c.args.spot c.in_ok-three.three = moved_then m3 (moved_by_one c.in_ok-three.ensures.place c.in_ok-three.ensures.more (m3.ended)) in
    let p5 = read c.in_ok-first.ensures.read.leads p4 in
    let m5 : Moves c.args.words.now c.args.spot c.in_ok-first.four = moved_then m4 (c.in_ok-first.ensures.read.moves) in
    let p6 = c.in_ok-members.ensures.read.turns _ _ (T terminal.CloseBrace ∷ T terminal.Semicolon ∷ B MakeStructure ∷ []) _ p5 in
    let m6 : Moves c.args.words.now c.args.spot c.in_ok-members.five = moved_then m5 (c.in_ok-members.ensures.read.moves) in
    let p7 = read c.in_ok-six.ensures.token p6 in
    let m7 : Moves c.args.words.now c.args.spot c.in_ok-six.six = moved_then m6 (moved_by_one c.in_ok-six.ensures.place c.in_ok-six.ensures.more (m6.ended)) in
    let p8 = read c.in_ok-seven.ensures.token p7 in
    let m8 : Moves c.args.words.now c.args.spot c.in_ok-seven.seven = moved_then m7 (moved_by_one c.in_ok-seven.ensures.place c.in_ok-seven.ensures.more (m7.ended)) in
    record { leads = made (λ built. refl) p8; moves = m8 }
