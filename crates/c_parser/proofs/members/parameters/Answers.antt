use Rattle.std.proofs.Common.{[], ◌∷◌, refl, sym, ◌∙◌, lit<}
use Rattle.std.proofs.lemmas.Bool.{cond-true, cond-false}
use Rattle.c_grammar.specs.declared.words.Terminal.TheVariants as terminal
use Rattle.c_grammar.specs.Grammar as form
use Rattle.c_grammar.specs.Grammar.{AfterUnary, B, CountOperator, Here, In, L, Left, M, N, Out, T, Symbol, operand, prefix}
use Rattle.c_parser.specs.Parts.{Moves}
use Rattle.c_parser.proofs.Chains.{stays, starts, by_rule, read, made, exits, exits_so, moved_by_one, moved_by_form, moved_then}
use Rattle.c_parser.proofs.members.parameters.Goals as goal

pub returns-in_err-one-clause-refused : goal.returns-in_err-one-clause-refused
returns-in_err-one-clause-refused c =
    let p1 = by_rule form.Parameters 1 (cond-true _ _ _ (sym c.is_bare_void.ensures ∙ c.if-is_bare_void.true)) (lit< tt) (starts c.args.words.now c.args.spot (N form.Parameters ∷ [])) in
    exits (T terminal.Void ∷ []) _ c.from_residual.result c.in_err-one.field-0.0 c.from_residual.ensures.1 p1 c.in_err-one.ensures.no_token

pub returns-then-is_bare_void-clause-read : goal.returns-then-is_bare_void-clause-read
returns-then-is_bare_void-clause-read c =
    let p1 = by_rule form.Parameters 1 (cond-true _ _ _ (sym c.is_bare_void.ensures ∙ c.if-is_bare_void.true)) (lit< tt) (starts c.args.words.now c.args.spot (N form.Parameters ∷ [])) in
    let p2 = read c.in_ok-one.ensures.token p1 in
    let m2 : Moves c.args.words.now c.args.spot c.in_ok-one.one = moved_by_one c.in_ok-one.ensures.place c.in_ok-one.ensures.more (c.requires.shallow.ended) in
    record { leads = rw c.new.ensures (made (λ built. refl) p2); moves = m2 }

pub returns-then-not-begins_type-clause-read : goal.returns-then-not-begins_type-clause-read
returns-then-not-begins_type-clause-read c = record {
  leads = rw c.new-then-not-begins_type.ensures (made (λ built. refl) (by_rule form.Parameters 0 (cond-false _ _ _ (sym c.is_bare_void.ensures ∙ c.if-is_bare_void.false) ∙ cond-false _ _ _ (sym c.begins_type.ensures ∙ c.if-not-begins_type.true)) (lit< tt) (starts c.args.words.now c.args.spot (N form.Parameters ∷ []))));
  moves = stays c.requires.shallow.ended c.requires.ready.within;
}

pub returns-in_err-first-clause-refused : goal.returns-in_err-first-clause-refused
returns-in_err-first-clause-refused c =
    let p13 = by_rule form.Parameters 2 (cond-false _ _ _ (sym c.is_bare_void.ensures ∙ c.if-is_bare_void.false) ∙ cond-true _ _ _ (sym c.begins_type.ensures ∙ c.if-not-begins_type.false)) (lit< tt) (starts c.args.words.now c.args.spot (N form.Parameters ∷ [])) in
    exits (N form.Parameter ∷ []) _ c.from_residual-in_err-first.result c.in_err-first.field-0.0 c.from_residual-in_err-first.ensures.1 p13 c.in_err-first.ensures.refused

pub returns-in_err-parameters-clause-refused : goal.returns-in_err-parameters-clause-refused
returns-in_err-parameters-clause-refused c =
    let p13 = by_rule form.Parameters 2 (cond-false _ _ _ (sym c.is_bare_void.ensures ∙ c.if-is_bare_void.false) ∙ cond-true _ _ _ (sym c.begins_type.ensures ∙ c.if-not-begins_type.false)) (lit< tt) (starts c.args.words.now c.args.spot (N form.Parameters ∷ [])) in
    let p14 = read c.in_ok-first.ensures.read.leads p13 in
    let m14 : Moves c.args.words.now c.args.spot c.in_ok-first.two = moved_by_form c.in_ok-first.ensures.read (c.requires.shallow.ended) in
    exits_so c.args.words.now c.args.spot (N form.Parameters ∷ []) c.from_residual-in_err-parameters.result c.in_err-parameters.field-0.0 c.from_residual-in_err-parameters.ensures.1 (c.in_err-parameters.ensures.refused.halts _ _ [] _ p14)

pub returns-clause-read : goal.returns-clause-read
returns-clause-read c =
    let p13 = by_rule form.Parameters 2 (cond-false _ _ _ (sym c.is_bare_void.ensures ∙ c.if-is_bare_void.false) ∙ cond-true _ _ _ (sym c.begins_type.ensures ∙ c.if-not-begins_type.false)) (lit< tt) (starts c.args.words.now c.args.spot (N form.Parameters ∷ [])) in
    let p14 = read c.in_ok-first.ensures.read.leads p13 in
    let m14 : Moves c.args.words.now c.args.spot c.in_ok-first.two = moved_by_form c.in_ok-first.ensures.read (c.requires.shallow.ended) in
    let p15 = c.in_ok-parameters.ensures.read.turns _ _ [] _ p14 in
    let m15 : Moves c.args.words.now c.args.spot c.in_ok-parameters.three = moved_then m14 (c.in_ok-parameters.ensures.read.moves) in
    record { leads = p15; moves = m15 }
