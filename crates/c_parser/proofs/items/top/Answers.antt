use Rattle.std.proofs.Common.{[], ◌∷◌, sym, ◌∙◌, lit<}
use Rattle.std.proofs.lemmas.Bool.{cond-true, cond-false}
use Rattle.c_grammar.specs.Grammar as form
use Rattle.c_grammar.specs.Grammar.{AfterUnary, AfterName, AfterObject, AfterParameters, AfterStars, B, CountOperator, Here, In, L, Left, M, N, Out, T, Symbol, operand, prefix}
use Rattle.c_parser.specs.Parts.{Moves}
use Rattle.c_parser.proofs.Chains.{starts, by_rule, read, exits, exits_so, moved_by_form, moved_then}
use Rattle.c_parser.proofs.items.top.Goals as goal

pub returns-in_err-definition-clause-refused : goal.returns-in_err-definition-clause-refused
returns-in_err-definition-clause-refused c =
    let p1 = by_rule form.Top 0 (cond-true _ _ _ (sym c.begins_structure.ensures ∙ c.if-begins_structure.true)) (lit< tt) (starts c.args.words.now c.args.spot (N form.Top ∷ [])) in
    exits (N form.Structure ∷ []) _ c.from_residual.result c.in_err-definition.field-0.0 c.from_residual.ensures.1 p1 c.in_err-definition.ensures.refused

pub returns-then-begins_structure-clause-read : goal.returns-then-begins_structure-clause-read
returns-then-begins_structure-clause-read c =
    let p1 = by_rule form.Top 0 (cond-true _ _ _ (sym c.begins_structure.ensures ∙ c.if-begins_structure.true)) (lit< tt) (starts c.args.words.now c.args.spot (N form.Top ∷ [])) in
    let p2 = read c.in_ok-definition.ensures.read.leads p1 in
    let m2 : Moves c.args.words.now c.args.spot c.in_ok-definition.one = c.in_ok-definition.ensures.read.moves in
    record { leads = p2; moves = m2 }

pub returns-in_err-specifier-clause-refused : goal.returns-in_err-specifier-clause-refused
returns-in_err-specifier-clause-refused c =
    let p13 = by_rule form.Top 1 (cond-false _ _ _ (sym c.begins_structure.ensures ∙ c.if-begins_structure.false)) (lit< tt) (starts c.args.words.now c.args.spot (N form.Top ∷ [])) in
    exits (N form.Specifier ∷ []) _ c.from_residual-in_err-specifier.result c.in_err-specifier.field-0.0 c.from_residual-in_err-specifier.ensures.1 p13 c.in_err-specifier.ensures.refused

pub returns-in_err-stars-clause-refused : goal.returns-in_err-stars-clause-refused
returns-in_err-stars-clause-refused c =
    let p13 = by_rule form.Top 1 (cond-false _ _ _ (sym c.begins_structure.ensures ∙ c.if-begins_structure.false)) (lit< tt) (starts c.args.words.now c.args.spot (N form.Top ∷ [])) in
    let p14 = read c.in_ok-specifier.ensures.read.leads p13 in
    let m14 : Moves c.args.words.now c.args.spot c.in_ok-specifier.two = moved_by_form c.in_ok-specifier.ensures.read (c.requires.shallow.ended) in
    exits (N form.Pointer ∷ []) _ c.from_residual-in_err-stars.result c.in_err-stars.field-0.0 c.from_residual-in_err-stars.ensures.1 p14 c.in_err-stars.ensures.refused

pub returns-in_err-item-clause-refused : goal.returns-in_err-item-clause-refused
returns-in_err-item-clause-refused c =
    let p13 = by_rule form.Top 1 (cond-false _ _ _ (sym c.begins_structure.ensures ∙ c.if-begins_structure.false)) (lit< tt) (starts c.args.words.now c.args.spot (N form.Top ∷ [])) in
    let p14 = read c.in_ok-specifier.ensures.read.leads p13 in
    let m14 : Moves c.args.words.now c.args.spot c.in_ok-specifier.two = moved_by_form c.in_ok-specifier.ensures.read (c.requires.shallow.ended) in
    let p15 = read c.in_ok-stars.ensures.read.leads p14 in
    let m15 : Moves c.args.words.now c.args.spot c.in_ok-stars.three = moved_then m14 (moved_by_form c.in_ok-stars.ensures.read (m14.ended)) in
    exits_so c.args.words.now c.args.spot (N form.Top ∷ []) c.from_residual-in_err-item.result c.in_err-item.field-0.0 c.from_residual-in_err-item.ensures.1 (c.in_err-item.ensures.refused.fails _ _ [] _ p15)

pub returns-clause-read : goal.returns-clause-read
returns-clause-read c =
    let p13 = by_rule form.Top 1 (cond-false _ _ _ (sym c.begins_structure.ensures ∙ c.if-begins_structure.false)) (lit< tt) (starts c.args.words.now c.args.spot (N form.Top ∷ [])) in
    let p14 = read c.in_ok-specifier.ensures.read.leads p13 in
    let m14 : Moves c.args.words.now c.args.spot c.in_ok-specifier.two = moved_by_form c.in_ok-specifier.ensures.read (c.requires.shallow.ended) in
    let p15 = read c.in_ok-stars.ensures.read.leads p14 in
    let m15 : Moves c.args.words.now c.args.spot c.in_ok-stars.three = moved_then m14 (moved_by_form c.in_ok-stars.ensures.read (m14.ended)) in
    let p16 = c.in_ok-item.ensures.read.grows _ _ [] _ p15 in
    let m16 : Moves c.args.words.now c.args.spot c.in_ok-item.four = moved_then m15 (c.in_ok-item.ensures.read.moves) in
    record { leads = p16; moves = m16 }
