use Rattle.std.proofs.Common.{[], ◌∷◌, refl}
use Rattle.c_grammar.specs.declared.words.Terminal.TheVariants as terminal
use Rattle.c_grammar.specs.Grammar as form
use Rattle.c_grammar.specs.Grammar.{AfterUnary, B, CountOperator, Here, In, L, Left, M, N, Out, T, Symbol, operand, prefix}
use Rattle.c_parser.specs.Parts.{Moves}
use Rattle.c_grammar.specs.Steps.{MakeSizeof}
use Rattle.c_parser.proofs.Chains.{starts, read, made, exits, moved_by_one, moved_by_form, moved_then}
use Rattle.c_parser.proofs.expressions.size_of.Goals as goal

pub returns-in_err-place-clause-refused : goal.returns-in_err-place-clause-refused
returns-in_err-place-clause-refused c =
    let p1 = starts c.args.words.now c.args.spot (Here ∷ T terminal.Sizeof ∷ T terminal.Open ∷ N form.TypeName ∷ T terminal.Close ∷ B MakeSizeof ∷ []) in
    exits (Here ∷ T terminal.Sizeof ∷ []) _ c.from_residual.result c.in_err-place.field-0.0 c.from_residual.ensures.1 p1 c.in_err-place.ensures.refused

pub returns-in_err-two-clause-refused : goal.returns-in_err-two-clause-refused
returns-in_err-two-clause-refused c =
    let p1 = starts c.args.words.now c.args.spot (Here ∷ T terminal.Sizeof ∷ T terminal.Open ∷ N form.TypeName ∷ T terminal.Close ∷ B MakeSizeof ∷ []) in
    let p2 = read c.in_ok-place.ensures.read p1 in
    let m2 : Moves c.args.words.now c.args.spot c.in_ok-place.one = moved_by_one c.in_ok-place.ensures.place c.in_ok-place.ensures.more (c.requires.shallow.ended) in
    exits (T terminal.Open ∷ []) _ c.from_residual-in_err-two.result c.in_err-two.field-0.0 c.from_residual-in_err-two.ensures.1 p2 c.in_err-two.ensures.no_token

pub returns-in_err-of-clause-refused : goal.returns-in_err-of-clause-refused
returns-in_err-of-clause-refused c =
    let p1 = starts c.args.words.now c.args.spot (Here ∷ T terminal.Sizeof ∷ T terminal.Open ∷ N form.TypeName ∷ T terminal.Close ∷ B MakeSizeof ∷ []) in
    let p2 = read c.in_ok-place.ensures.read p1 in
    let m2 : Moves c.args.words.now c.args.spot c.in_ok-place.one = moved_by_one c.in_ok-place.ensures.place c.in_ok-place.ensures.more (c.requires.shallow.ended) in
    let p3 = read c.in_ok-two.ensures.token p2 in
    let m3 : Moves c.args.words.now c.args.spot c.in_ok-two.two = moved_then m2 (moved_by_one c.in_ok-two.ensures.place c.in_ok-two.ensures.more (m2.ended)) in
    exits (N form.TypeName ∷ []) _ c.from_residual-in_err-of.result c.in_err-of.field-0.0 c.from_residual-in_err-of.ensures.1 p3 c.in_err-of.ensures.refused

pub returns-in_err-four-clause-refused : goal.returns-in_err-four-clause-refused
returns-in_err-four-clause-refused c =
    let p1 = starts c.args.words.now c.args.spot (Here ∷ T terminal.Sizeof ∷ T terminal.Open ∷ N form.TypeName ∷ T terminal.Close ∷ B MakeSizeof ∷ []) in
    let p2 = read c.in_ok-place.ensures.read p1 in
    let m2 : Moves c.args.words.now c.args.spot c.in_ok-place.one = moved_by_one c.in_ok-place.ensures.place c.in_ok-place.ensures.more (c.requires.shallow.ended) in
    let p3 = read c.in_ok-two.ensures.token p2 in
    let m3 : Moves c.args.words.now c.args.spot c.in_ok-two.two = moved_then m2 (moved_by_one c.in_ok-two.ensures.place c.in_ok-two.ensures.more (m2.ended)) in
    let p4 = read c.in_ok-of.ensures.read.leads p3 in
    let m4 : Moves c.args.words.now c.args.spot c.in_ok-of.three = moved_then m3 (moved_by_form c.in_ok-of.ensures.read (m3.ended)) in
    exits (T terminal.Close ∷ []) _ c.from_residual-in_err-four.result c.in_err-four.field-0.0 c.from_residual-in_err-four.ensures.1 p4 c.in_err-four.ensures.no_token

pub returns-clause-read : goal.returns-clause-read
returns-clause-read c =
    let p1 = starts c.args.words.now c.args.spot (Here ∷ T terminal.Sizeof ∷ T terminal.Open ∷ N form.TypeName ∷ T terminal.Close ∷ B MakeSizeof ∷ []) in
    let p2 = read c.in_ok-place.ensures.read p1 in
    let m2 : Moves c.args.words.now c.args.spot c.in_ok-place.one = moved_by_one c.in_ok-place.ensures.place c.in_ok-place.ensures.more (c.requires.shallow.ended) in
    let p3 = read c.in_ok-two.ensures.token p2 in
    let m3 : Moves c.args.words.now c.args.spot c.in_ok-two.two = moved_then m2 (moved_by_one c.in_ok-two.ensures.place c.in_ok-two.ensures.more (m2.ended)) in
    let p4 = read c.in_ok-of.ensures.read.leads p3 in
    let m4 : Moves c.args.words.now c.args.spot c.in_ok-of.three = moved_then m3 (moved_by_form c.in_ok-of.ensures.read (m3.ended)) in
    let p5 = read c.in_ok-four.ensures.token p4 in
    let m5 : Moves c.args.words.now c.args.spot c.in_ok-four.four = moved_then m4 (moved_by_one c.in_ok-four.ensures.place c.in_ok-four.ensures.more (m4.ended)) in
    record { leads = rw c.at_place.ensures (made (λ built. refl) p5); moves = m5 }
