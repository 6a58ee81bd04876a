use Rattle.std.proofs.Common.{[], ◌∷◌, ◌+◌, drop, false, refl, sym, ap, ◌∙◌, arith, lit<}
use Rattle.c_parser.specs.declared.spot.TheConstants.{NESTING}
use Rattle.c_grammar.specs.declared.words.Terminal.TheVariants as terminal
use Rattle.c_parser.specs.Paths.{Breaks}
use Rattle.c_parser.proofs.NumberLemmas.{number_else}
use Rattle.c_parser.proofs.PathLemmas.{begin_path, rule_path, pair_path, build_path, breaks, err_out}
use Rattle.c_parser.proofs.FormLemmas.{only_place, place_then, begun_path}
use Rattle.c_ast.specs.declared.program.Shape.TheVariants as shape
use Rattle.c_grammar.specs.Grammar.{N, T, L, B, PerhapsLength}
use Rattle.c_grammar.specs.Steps.{Leaf, OfShape, Give, MakeArray}
use Rattle.c_parser.proofs.declarators.perhaps_length.Goals as goal

pub returns-then-not-next_is-clause-read : goal.returns-then-not-next_is-clause-read
returns-then-not-next_is-clause-read c =
    let number = number_else PerhapsLength terminal.OpenBracket (λ w ws. refl) refl (drop c.args.spot.at c.args.words.now) false (sym c.next_is.ensures ∙ c.if-not-next_is.true) in
    record {
      leads = build_path NESTING c.args.words.now c.args.spot (N PerhapsLength ∷ []) c.args.spot (Give (OfShape shape.Plain)) [] [] (OfShape shape.Plain ∷ []) (λ built. refl)
          (rule_path NESTING c.args.words.now c.args.spot (N PerhapsLength ∷ []) c.args.spot PerhapsLength [] [] 1 number (lit< tt) (begin_path NESTING c.args.words.now c.args.spot (N PerhapsLength ∷ [])));
      same = refl;
      on = omega arith;
      within = c.requires.within;
    }

pub returns-in_err-one-clause-refused : goal.returns-in_err-one-clause-refused
returns-in_err-one-clause-refused c =
    err_out (Breaks NESTING c.args.words.now c.args.spot (N PerhapsLength ∷ [])) c.from_residual.result c.in_err-one.field-0.0 c.from_residual.ensures.1
    (breaks NESTING c.args.words.now c.args.spot (N PerhapsLength ∷ []) c.args.spot (T terminal.OpenBracket ∷ []) (L terminal.Number ∷ T terminal.CloseBracket ∷ B MakeArray ∷ []) [] c.in_err-one.field-0.0
    (begun_path c.args.words.now c.args.spot PerhapsLength terminal.OpenBracket 0 (T terminal.OpenBracket ∷ L terminal.Number ∷ T terminal.CloseBracket ∷ B MakeArray ∷ []) (λ w ws. refl) refl (lit< tt) refl (sym c.next_is.ensures ∙ c.if-not-next_is.false)) c.in_err-one.ensures.no_token)

pub returns-in_err-word-clause-refused : goal.returns-in_err-word-clause-refused
returns-in_err-word-clause-refused c =
    err_out (Breaks NESTING c.args.words.now c.args.spot (N PerhapsLength ∷ [])) c.from_residual-in_err-word.result c.in_err-word.field-0.0 c.from_residual-in_err-word.ensures.1
    (breaks NESTING c.args.words.now c.args.spot (N PerhapsLength ∷ []) c.in_ok-one.one (L terminal.Number ∷ []) (T terminal.CloseBracket ∷ B MakeArray ∷ []) [] c.in_err-word.field-0.0
    (pair_path NESTING c.args.words.now c.args.spot (N PerhapsLength ∷ []) c.args.spot (T terminal.OpenBracket ∷ []) (L terminal.Number ∷ T terminal.CloseBracket ∷ B MakeArray ∷ []) [] c.in_ok-one.one [] (begun_path c.args.words.now c.args.spot PerhapsLength terminal.OpenBracket 0 (T terminal.OpenBracket ∷ L terminal.Number ∷ T terminal.CloseBracket ∷ B MakeArray ∷ []) (λ w ws. refl) refl (lit< tt) refl (sym c.next_is.ensures ∙ c.if-not-next_is.false)) c.in_ok-one.ensures.token) c.in_err-word.ensures.no_leaf)

pub returns-in_err-three-clause-refused : goal.returns-in_err-three-clause-refused
returns-in_err-three-clause-refused c =
    err_out (Breaks NESTING c.args.words.now c.args.spot (N PerhapsLength ∷ [])) c.from_residual-in_err-three.result c.in_err-three.field-0.0 c.from_residual-in_err-three.ensures.1
    (breaks NESTING c.args.words.now c.args.spot (N PerhapsLength ∷ []) c.in_ok-word.two (T terminal.CloseBracket ∷ []) (B MakeArray ∷ []) (Leaf c.in_ok-word.word.place c.in_ok-word.word.value ∷ []) c.in_err-three.field-0.0
    (pair_path NESTING c.args.words.now c.args.spot (N PerhapsLength ∷ []) c.in_ok-one.one (L terminal.Number ∷ []) (T terminal.CloseBracket ∷ B MakeArray ∷ []) [] c.in_ok-word.two (Leaf c.in_ok-word.word.place c.in_ok-word.word.value ∷ []) (pair_path NESTING c.args.words.now c.args.spot (N PerhapsLength ∷ []) c.args.spot (T terminal.OpenBracket ∷ []) (L terminal.Number ∷ T terminal.CloseBracket ∷ B MakeArray ∷ []) [] c.in_ok-one.one [] (begun_path c.args.words.now c.args.spot PerhapsLength terminal.OpenBracket 0 (T terminal.OpenBracket ∷ L terminal.Number ∷ T terminal.CloseBracket ∷ B MakeArray ∷ []) (λ w ws. refl) refl (lit< tt) refl (sym c.next_is.ensures ∙ c.if-not-next_is.false)) c.in_ok-one.ensures.token) c.in_ok-word.ensures.leaf) c.in_err-three.ensures.no_token)

pub returns-clause-read : goal.returns-clause-read
returns-clause-read c = record {
  leads = build_path NESTING c.args.words.now c.args.spot (N PerhapsLength ∷ []) c.in_ok-three.three MakeArray [] (Leaf c.in_ok-word.word.place c.in_ok-word.word.value ∷ []) (OfShape (shape.Array c.in_ok-word.word.value) ∷ []) (λ built. refl) (pair_path NESTING c.args.words.now c.args.spot (N PerhapsLength ∷ []) c.in_ok-word.two (T terminal.CloseBracket ∷ []) (B MakeArray ∷ []) (Leaf c.in_ok-word.word.place c.in_ok-word.word.value ∷ []) c.in_ok-three.three [] (pair_path NESTING c.args.words.now c.args.spot (N PerhapsLength ∷ []) c.in_ok-one.one (L terminal.Number ∷ []) (T terminal.CloseBracket ∷ B MakeArray ∷ []) [] c.in_ok-word.two (Leaf c.in_ok-word.word.place c.in_ok-word.word.value ∷ []) (pair_path NESTING c.args.words.now c.args.spot (N PerhapsLength ∷ []) c.args.spot (T terminal.OpenBracket ∷ []) (L terminal.Number ∷ T terminal.CloseBracket ∷ B MakeArray ∷ []) [] c.in_ok-one.one [] (begun_path c.args.words.now c.args.spot PerhapsLength terminal.OpenBracket 0 (T terminal.OpenBracket ∷ L terminal.Number ∷ T terminal.CloseBracket ∷ B MakeArray ∷ []) (λ w ws. refl) refl (lit< tt) refl (sym c.next_is.ensures ∙ c.if-not-next_is.false)) c.in_ok-one.ensures.token) c.in_ok-word.ensures.leaf) c.in_ok-three.ensures.token);
  same = only_place c.args.spot c.in_ok-three.three (c.in_ok-word.two.at + 1) (place_then c.args.spot c.in_ok-word.two c.in_ok-three.three (c.in_ok-one.one.at + 1) (c.in_ok-word.two.at + 1) (place_then c.args.spot c.in_ok-one.one c.in_ok-word.two (c.args.spot.at + 1) (c.in_ok-one.one.at + 1) c.in_ok-one.ensures.place c.in_ok-word.ensures.place) c.in_ok-three.ensures.place);
  on = omega (arith, ap (λ s. s.at) c.in_ok-one.ensures.place, ap (λ s. s.at) c.in_ok-word.ensures.place, ap (λ s. s.at) c.in_ok-three.ensures.place);
  within = omega (arith, ap (λ s. s.at) c.in_ok-three.ensures.place, c.in_ok-three.ensures.more);
}
