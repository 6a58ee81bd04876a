use Rattle.std.proofs.Common.{[], ◌∷◌, drop, refl, sym, ◌∙◌, lit<}
use Rattle.c_grammar.specs.declared.words.Terminal.TheVariants as terminal
use Rattle.c_grammar.specs.Grammar as form
use Rattle.c_grammar.specs.Grammar.{AfterUnary, B, CountOperator, Here, In, L, Left, M, N, Out, T, Symbol, operand, prefix}
use Rattle.c_parser.specs.Parts.{Moves}
use Rattle.c_parser.proofs.NumberLemmas.{number_at}
use Rattle.c_parser.proofs.OperatorLemmas.{name_number}
use Rattle.c_parser.proofs.Chains.{starts, by_rule, read, made, exits, moved_by_one}
use Rattle.c_parser.proofs.expressions.literal.Goals as goal

pub returns-in_err-number-clause-refused : goal.returns-in_err-number-clause-refused
returns-in_err-number-clause-refused c =
    let p1 = by_rule form.Primary 1 (number_at form.Primary terminal.Number (λ w ws. refl) (drop c.args.spot.at c.args.words.now) (sym c.next_is.ensures ∙ c.if-next_is.true)) (lit< tt) (starts c.args.words.now c.args.spot (N form.Primary ∷ [])) in
    exits (L terminal.Number ∷ []) _ c.from_residual.result c.in_err-number.field-0.0 c.from_residual.ensures.1 p1 c.in_err-number.ensures.no_leaf

pub returns-then-next_is-clause-read : goal.returns-then-next_is-clause-read
returns-then-next_is-clause-read c =
    let p1 = by_rule form.Primary 1 (number_at form.Primary terminal.Number (λ w ws. refl) (drop c.args.spot.at c.args.words.now) (sym c.next_is.ensures ∙ c.if-next_is.true)) (lit< tt) (starts c.args.words.now c.args.spot (N form.Primary ∷ [])) in
    let p2 = read c.in_ok-number.ensures.leaf p1 in
    let m2 : Moves c.args.words.now c.args.spot c.in_ok-number.one = moved_by_one c.in_ok-number.ensures.place c.in_ok-number.ensures.more (c.requires.shallow.ended) in
    record { leads = rw c.at_place.ensures (made (λ built. refl) p2); moves = m2 }

pub returns-in_err-character-clause-refused : goal.returns-in_err-character-clause-refused
returns-in_err-character-clause-refused c =
    let p13 = by_rule form.Primary 2 (number_at form.Primary terminal.Character (λ w ws. refl) (drop c.args.spot.at c.args.words.now) (sym c.next_is-2.ensures ∙ c.if-next_is-2.true)) (lit< tt) (starts c.args.words.now c.args.spot (N form.Primary ∷ [])) in
    exits (L terminal.Character ∷ []) _ c.from_residual-in_err-character.result c.in_err-character.field-0.0 c.from_residual-in_err-character.ensures.1 p13 c.in_err-character.ensures.no_leaf

pub returns-then-next_is-2-clause-read : goal.returns-then-next_is-2-clause-read
returns-then-next_is-2-clause-read c =
    let p13 = by_rule form.Primary 2 (number_at form.Primary terminal.Character (λ w ws. refl) (drop c.args.spot.at c.args.words.now) (sym c.next_is-2.ensures ∙ c.if-next_is-2.true)) (lit< tt) (starts c.args.words.now c.args.spot (N form.Primary ∷ [])) in
    let p14 = read c.in_ok-character.ensures.leaf p13 in
    let m14 : Moves c.args.words.now c.args.spot c.in_ok-character.two = moved_by_one c.in_ok-character.ensures.place c.in_ok-character.ensures.more (c.requires.shallow.ended) in
    record { leads = rw c.at_place-then-next_is-2.ensures (made (λ built. refl) p14); moves = m14 }

pub returns-in_err-text-clause-refused : goal.returns-in_err-text-clause-refused
returns-in_err-text-clause-refused c =
    let p25 = by_rule form.Primary 3 (number_at form.Primary terminal.String (λ w ws. refl) (drop c.args.spot.at c.args.words.now) (sym c.next_is-3.ensures ∙ c.if-next_is-3.true)) (lit< tt) (starts c.args.words.now c.args.spot (N form.Primary ∷ [])) in
    exits (L terminal.String ∷ []) _ c.from_residual-in_err-text.result c.in_err-text.field-0.0 c.from_residual-in_err-text.ensures.1 p25 c.in_err-text.ensures.no_leaf

pub returns-then-next_is-3-clause-read : goal.returns-then-next_is-3-clause-read
returns-then-next_is-3-clause-read c =
    let p25 = by_rule form.Primary 3 (number_at form.Primary terminal.String (λ w ws. refl) (drop c.args.spot.at c.args.words.now) (sym c.next_is-3.ensures ∙ c.if-next_is-3.true)) (lit< tt) (starts c.args.words.now c.args.spot (N form.Primary ∷ [])) in
    let p26 = read c.in_ok-text.ensures.leaf p25 in
    let m26 : Moves c.args.words.now c.args.spot c.in_ok-text.three = moved_by_one c.in_ok-text.ensures.place c.in_ok-text.ensures.more (c.requires.shallow.ended) in
    record { leads = rw c.at_place-then-next_is-3.ensures (made (λ built. refl) p26); moves = m26 }

pub returns-in_err-word-clause-refused : goal.returns-in_err-word-clause-refused
returns-in_err-word-clause-refused c =
    let p37 = by_rule form.Primary 0 (name_number (drop c.args.spot.at c.args.words.now) c.requires.other (sym c.next_is.ensures ∙ c.if-next_is.false) (sym c.next_is-2.ensures ∙ c.if-next_is-2.false) (sym c.next_is-3.ensures ∙ c.if-next_is-3.false)) (lit< tt) (starts c.args.words.now c.args.spot (N form.Primary ∷ [])) in
    exits (L terminal.Name ∷ []) _ c.from_residual-in_err-word.result c.in_err-word.field-0.0 c.from_residual-in_err-word.ensures.1 p37 c.in_err-word.ensures.no_leaf

pub returns-clause-read : goal.returns-clause-read
returns-clause-read c =
    let p37 = by_rule form.Primary 0 (name_number (drop c.args.spot.at c.args.words.now) c.requires.other (sym c.next_is.ensures ∙ c.if-next_is.false) (sym c.next_is-2.ensures ∙ c.if-next_is-2.false) (sym c.next_is-3.ensures ∙ c.if-next_is-3.false)) (lit< tt) (starts c.args.words.now c.args.spot (N form.Primary ∷ [])) in
    let p38 = read c.in_ok-word.ensures.leaf p37 in
    let m38 : Moves c.args.words.now c.args.spot c.in_ok-word.four = moved_by_one c.in_ok-word.ensures.place c.in_ok-word.ensures.more (c.requires.shallow.ended) in
    record { leads = rw c.at_place-2.ensures (made (λ built. refl) p38); moves = m38 }
