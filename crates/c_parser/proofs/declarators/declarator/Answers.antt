use Rattle.std.proofs.Common.{[], ◌∷◌, ◌+◌, drop, refl, sym, ap, ◌∙◌, arith, lit<}
use Rattle.c_parser.specs.declared.spot.TheConstants.{NESTING}
use Rattle.c_grammar.specs.declared.words.Terminal.TheVariants as terminal
use Rattle.c_grammar.specs.Grammar as form
use Rattle.c_parser.specs.Paths.{Breaks}
use Rattle.c_parser.proofs.NumberLemmas.{number_at}
use Rattle.c_parser.proofs.PathLemmas.{begin_path, rule_path, pair_path, build_path, breaks, err_out}
use Rattle.c_parser.proofs.FormLemmas.{only_place, place_then}
use Rattle.c_ast.specs.declared.program.Shape.TheVariants as shape
use Rattle.c_grammar.specs.Grammar.{Symbol, N, T, L, B, Pointer, PerhapsPrivate, ParameterTypes, PerhapsLength, Left, AfterPointer}
use Rattle.c_grammar.specs.Steps.{Leaf, OfShape, OfDeclarator, Private, Stars, Types, MakeDeclarator, MakePointer}
use Rattle.c_parser.proofs.DeclaratorLemmas.{declarator_number, named_number}
use Rattle.c_parser.proofs.declarators.declarator.Goals as goal

pub returns-in_err-stars-clause-refused : goal.returns-in_err-stars-clause-refused
returns-in_err-stars-clause-refused c =
    err_out (Breaks NESTING c.args.words.now c.args.spot (N form.Declarator ∷ [])) c.from_residual.result c.in_err-stars.field-0.0 c.from_residual.ensures.1
    (breaks NESTING c.args.words.now c.args.spot (N form.Declarator ∷ []) c.args.spot (N Pointer ∷ []) (N (Left AfterPointer) ∷ []) [] c.in_err-stars.field-0.0
    (rule_path NESTING c.args.words.now c.args.spot (N form.Declarator ∷ []) c.args.spot form.Declarator [] [] 0 (declarator_number (drop c.args.spot.at c.args.words.now)) (lit< tt) (begin_path NESTING c.args.words.now c.args.spot (N form.Declarator ∷ []))) c.in_err-stars.ensures.refused)

pub returns-in_err-word-clause-refused : goal.returns-in_err-word-clause-refused
returns-in_err-word-clause-refused c =
    err_out (Breaks NESTING c.args.words.now c.args.spot (N form.Declarator ∷ [])) c.from_residual-in_err-word.result c.in_err-word.field-0.0 c.from_residual-in_err-word.ensures.1
    (breaks NESTING c.args.words.now c.args.spot (N form.Declarator ∷ []) c.in_ok-stars.one (L terminal.Name ∷ []) (N PerhapsLength ∷ B MakeDeclarator ∷ []) (Stars c.in_ok-stars.stars ∷ []) c.in_err-word.field-0.0
    (rule_path NESTING c.args.words.now c.args.spot (N form.Declarator ∷ []) c.in_ok-stars.one (Left AfterPointer) [] (Stars c.in_ok-stars.stars ∷ []) 0 (named_number (drop c.in_ok-stars.one.at c.args.words.now) (sym c.next_is.ensures ∙ c.if-not-next_is.true)) (lit< tt) (pair_path NESTING c.args.words.now c.args.spot (N form.Declarator ∷ []) c.args.spot (N Pointer ∷ []) (N (Left AfterPointer) ∷ []) [] c.in_ok-stars.one (Stars c.in_ok-stars.stars ∷ []) (rule_path NESTING c.args.words.now c.args.spot (N form.Declarator ∷ []) c.args.spot form.Declarator [] [] 0 (declarator_number (drop c.args.spot.at c.args.words.now)) (lit< tt) (begin_path NESTING c.args.words.now c.args.spot (N form.Declarator ∷ []))) c.in_ok-stars.ensures.read.leads)) c.in_err-word.ensures.no_leaf)

pub returns-in_err-shape-clause-refused : goal.returns-in_err-shape-clause-refused
returns-in_err-shape-clause-refused c =
    err_out (Breaks NESTING c.args.words.now c.args.spot (N form.Declarator ∷ [])) c.from_residual-in_err-shape.result c.in_err-shape.field-0.0 c.from_residual-in_err-shape.ensures.1
    (breaks NESTING c.args.words.now c.args.spot (N form.Declarator ∷ []) c.in_ok-word.two (N PerhapsLength ∷ []) (B MakeDeclarator ∷ []) (Leaf c.in_ok-word.word.place c.in_ok-word.word.value ∷ Stars c.in_ok-stars.stars ∷ []) c.in_err-shape.field-0.0
    (pair_path NESTING c.args.words.now c.args.spot (N form.Declarator ∷ []) c.in_ok-stars.one (L terminal.Name ∷ []) (N PerhapsLength ∷ B MakeDeclarator ∷ []) (Stars c.in_ok-stars.stars ∷ []) c.in_ok-word.two (Leaf c.in_ok-word.word.place c.in_ok-word.word.value ∷ []) (rule_path NESTING c.args.words.now c.args.spot (N form.Declarator ∷ []) c.in_ok-stars.one (Left AfterPointer) [] (Stars c.in_ok-stars.stars ∷ []) 0 (named_number (drop c.in_ok-stars.one.at c.args.words.now) (sym c.next_is.ensures ∙ c.if-not-next_is.true)) (lit< tt) (pair_path NESTING c.args.words.now c.args.spot (N form.Declarator ∷ []) c.args.spot (N Pointer ∷ []) (N (Left AfterPointer) ∷ []) [] c.in_ok-stars.one (Stars c.in_ok-stars.stars ∷ []) (rule_path NESTING c.args.words.now c.args.spot (N form.Declarator ∷ []) c.args.spot form.Declarator [] [] 0 (declarator_number (drop c.args.spot.at c.args.words.now)) (lit< tt) (begin_path NESTING c.args.words.now c.args.spot (N form.Declarator ∷ []))) c.in_ok-stars.ensures.read.leads)) c.in_ok-word.ensures.leaf) c.in_err-shape.ensures.refused)

pub returns-then-not-next_is-clause-read : goal.returns-then-not-next_is-clause-read
returns-then-not-next_is-clause-read c = record {
  leads = build_path NESTING c.args.words.now c.args.spot (N form.Declarator ∷ []) c.in_ok-shape.three MakeDeclarator [] (OfShape c.in_ok-shape.shape ∷ Leaf c.in_ok-word.word.place c.in_ok-word.word.value ∷ Stars c.in_ok-stars.stars ∷ []) (OfDeclarator (record { name = c.in_ok-word.word.value; place = c.in_ok-word.word.place; stars = c.in_ok-stars.stars; shape = c.in_ok-shape.shape }) ∷ []) (λ built. refl) (pair_path NESTING c.args.words.now c.args.spot (N form.Declarator ∷ []) c.in_ok-word.two (N PerhapsLength ∷ []) (B MakeDeclarator ∷ []) (Leaf c.in_ok-word.word.place c.in_ok-word.word.value ∷ Stars c.in_ok-stars.stars ∷ []) c.in_ok-shape.three (OfShape c.in_ok-shape.shape ∷ []) (pair_path NESTING c.args.words.now c.args.spot (N form.Declarator ∷ []) c.in_ok-stars.one (L terminal.Name ∷ []) (N PerhapsLength ∷ B MakeDeclarator ∷ []) (Stars c.in_ok-stars.stars ∷ []) c.in_ok-word.two (Leaf c.in_ok-word.word.place c.in_ok-word.word.value ∷ []) (rule_path NESTING c.args.words.now c.args.spot (N form.Declarator ∷ []) c.in_ok-stars.one (Left AfterPointer) [] (Stars c.in_ok-stars.stars ∷ []) 0 (named_number (drop c.in_ok-stars.one.at c.args.words.now) (sym c.next_is.ensures ∙ c.if-not-next_is.true)) (lit< tt) (pair_path NESTING c.args.words.now c.args.spot (N form.Declarator ∷ []) c.args.spot (N Pointer ∷ []) (N (Left AfterPointer) ∷ []) [] c.in_ok-stars.one (Stars c.in_ok-stars.stars ∷ []) (rule_path NESTING c.args.words.now c.args.spot (N form.Declarator ∷ []) c.args.spot form.Declarator [] [] 0 (declarator_number (drop c.args.spot.at c.args.words.now)) (lit< tt) (begin_path NESTING c.args.words.now c.args.spot (N form.Declarator ∷ []))) c.in_ok-stars.ensures.read.leads)) c.in_ok-word.ensures.leaf) c.in_ok-shape.ensures.read.leads);
  same = only_place c.args.spot c.in_ok-shape.three c.in_ok-shape.three.at (place_then c.args.spot c.in_ok-word.two c.in_ok-shape.three (c.in_ok-stars.one.at + 1) c.in_ok-shape.three.at (place_then c.args.spot c.in_ok-stars.one c.in_ok-word.two c.in_ok-stars.one.at (c.in_ok-stars.one.at + 1) c.in_ok-stars.ensures.read.same c.in_ok-word.ensures.place) c.in_ok-shape.ensures.read.same);
  on = omega (arith, ap (λ s. s.at) c.in_ok-word.ensures.place, c.in_ok-shape.ensures.read.on, c.in_ok-stars.ensures.read.on);
  within = c.in_ok-shape.ensures.read.within;
}

pub returns-in_err-two-clause-refused : goal.returns-in_err-two-clause-refused
returns-in_err-two-clause-refused c =
    err_out (Breaks NESTING c.args.words.now c.args.spot (N form.Declarator ∷ [])) c.from_residual-in_err-two.result c.in_err-two.field-0.0 c.from_residual-in_err-two.ensures.1
    (breaks NESTING c.args.words.now c.args.spot (N form.Declarator ∷ []) c.in_ok-stars.one (T terminal.Open ∷ []) (T terminal.Star ∷ N PerhapsPrivate ∷ L terminal.Name ∷ T terminal.Close ∷ T terminal.Open ∷ N ParameterTypes ∷ T terminal.Close ∷ B MakePointer ∷ []) (Stars c.in_ok-stars.stars ∷ []) c.in_err-two.field-0.0
    (rule_path NESTING c.args.words.now c.args.spot (N form.Declarator ∷ []) c.in_ok-stars.one (Left AfterPointer) [] (Stars c.in_ok-stars.stars ∷ []) 1 (number_at (Left AfterPointer) terminal.Open (λ w ws. refl) (drop c.in_ok-stars.one.at c.args.words.now) (sym c.next_is.ensures ∙ c.if-not-next_is.false)) (lit< tt) (pair_path NESTING c.args.words.now c.args.spot (N form.Declarator ∷ []) c.args.spot (N Pointer ∷ []) (N (Left AfterPointer) ∷ []) [] c.in_ok-stars.one (Stars c.in_ok-stars.stars ∷ []) (rule_path NESTING c.args.words.now c.args.spot (N form.Declarator ∷ []) c.args.spot form.Declarator [] [] 0 (declarator_number (drop c.args.spot.at c.args.words.now)) (lit< tt) (begin_path NESTING c.args.words.now c.args.spot (N form.Declarator ∷ []))) c.in_ok-stars.ensures.read.leads)) c.in_err-two.ensures.no_token)

pub returns-in_err-three-clause-refused : goal.returns-in_err-three-clause-refused
returns-in_err-three-clause-refused c =
    err_out (Breaks NESTING c.args.words.now c.args.spot (N form.Declarator ∷ [])) c.from_residual-in_err-three.result c.in_err-three.field-0.0 c.from_residual-in_err-three.ensures.1
    (breaks NESTING c.args.words.now c.args.spot (N form.Declarator ∷ []) c.in_ok-two.two (T terminal.Star ∷ []) (N PerhapsPrivate ∷ L terminal.Name ∷ T terminal.Close ∷ T terminal.Open ∷ N ParameterTypes ∷ T terminal.Close ∷ B MakePointer ∷ []) (Stars c.in_ok-stars.stars ∷ []) c.in_err-three.field-0.0
    (pair_path NESTING c.args.words.now c.args.spot (N form.Declarator ∷ []) c.in_ok-stars.one (T terminal.Open ∷ []) (T terminal.Star ∷ N PerhapsPrivate ∷ L terminal.Name ∷ T terminal.Close ∷ T terminal.Open ∷ N ParameterTypes ∷ T terminal.Close ∷ B MakePointer ∷ []) (Stars c.in_ok-stars.stars ∷ []) c.in_ok-two.two [] (rule_path NESTING c.args.words.now c.args.spot (N form.Declarator ∷ []) c.in_ok-stars.one (Left AfterPointer) [] (Stars c.in_ok-stars.stars ∷ []) 1 (number_at (Left AfterPointer) terminal.Open (λ w ws. refl) (drop c.in_ok-stars.one.at c.args.words.now) (sym c.next_is.ensures ∙ c.if-not-next_is.false)) (lit< tt) (pair_path NESTING c.args.words.now c.args.spot (N form.Declarator ∷ []) c.args.spot (N Pointer ∷ []) (N (Left AfterPointer) ∷ []) [] c.in_ok-stars.one (Stars c.in_ok-stars.stars ∷ []) (rule_path NESTING c.args.words.now c.args.spot (N form.Declarator ∷ []) c.args.spot form.Declarator [] [] 0 (declarator_number (drop c.args.spot.at c.args.words.now)) (lit< tt) (begin_path NESTING c.args.words.now c.args.spot (N form.Declarator ∷ []))) c.in_ok-stars.ensures.read.leads)) c.in_ok-two.ensures.token) c.in_err-three.ensures.no_token)

pub returns-in_err-is_private-clause-refused : goal.returns-in_err-is_private-clause-refused
returns-in_err-is_private-clause-refused c =
    err_out (Breaks NESTING c.args.words.now c.args.spot (N form.Declarator ∷ [])) c.from_residual-in_err-is_private.result c.in_err-is_private.field-0.0 c.from_residual-in_err-is_private.ensures.1
    (breaks NESTING c.args.words.now c.args.spot (N form.Declarator ∷ []) c.in_ok-three.three (N PerhapsPrivate ∷ []) (L terminal.Name ∷ T terminal.Close ∷ T terminal.Open ∷ N ParameterTypes ∷ T terminal.Close ∷ B MakePointer ∷ []) (Stars c.in_ok-stars.stars ∷ []) c.in_err-is_private.field-0.0
    (pair_path NESTING c.args.words.now c.args.spot (N form.Declarator ∷ []) c.in_ok-two.two (T terminal.Star ∷ []) (N PerhapsPrivate ∷ L terminal.Name ∷ T terminal.Close ∷ T terminal.Open ∷ N ParameterTypes ∷ T terminal.Close ∷ B MakePointer ∷ []) (Stars c.in_ok-stars.stars ∷ []) c.in_ok-three.three [] (pair_path NESTING c.args.words.now c.args.spot (N form.Declarator ∷ []) c.in_ok-stars.one (T terminal.Open ∷ []) (T terminal.Star ∷ N PerhapsPrivate ∷ L terminal.Name ∷ T terminal.Close ∷ T terminal.Open ∷ N ParameterTypes ∷ T terminal.Close ∷ B MakePointer ∷ []) (Stars c.in_ok-stars.stars ∷ []) c.in_ok-two.two [] (rule_path NESTING c.args.words.now c.args.spot (N form.Declarator ∷ []) c.in_ok-stars.one (Left AfterPointer) [] (Stars c.in_ok-stars.stars ∷ []) 1 (number_at (Left AfterPointer) terminal.Open (λ w ws. refl) (drop c.in_ok-stars.one.at c.args.words.now) (sym c.next_is.ensures ∙ c.if-not-next_is.false)) (lit< tt) (pair_path NESTING c.args.words.now c.args.spot (N form.Declarator ∷ []) c.args.spot (N Pointer ∷ []) (N (Left AfterPointer) ∷ []) [] c.in_ok-stars.one (Stars c.in_ok-stars.stars ∷ []) (rule_path NESTING c.args.words.now c.args.spot (N form.Declarator ∷ []) c.args.spot form.Declarator [] [] 0 (declarator_number (drop c.args.spot.at c.args.words.now)) (lit< tt) (begin_path NESTING c.args.words.now c.args.spot (N form.Declarator ∷ []))) c.in_ok-stars.ensures.read.leads)) c.in_ok-two.ensures.token) c.in_ok-three.ensures.token) c.in_err-is_private.ensures.refused)

pub returns-in_err-word-2-clause-refused : goal.returns-in_err-word-2-clause-refused
returns-in_err-word-2-clause-refused c =
    err_out (Breaks NESTING c.args.words.now c.args.spot (N form.Declarator ∷ [])) c.from_residual-in_err-word-2.result c.in_err-word-2.field-0.0 c.from_residual-in_err-word-2.ensures.1
    (breaks NESTING c.args.words.now c.args.spot (N form.Declarator ∷ []) c.in_ok-is_private.four (L terminal.Name ∷ []) (T terminal.Close ∷ T terminal.Open ∷ N ParameterTypes ∷ T terminal.Close ∷ B MakePointer ∷ []) (Private c.in_ok-is_private.is_private ∷ Stars c.in_ok-stars.stars ∷ []) c.in_err-word-2.field-0.0
    (pair_path NESTING c.args.words.now c.args.spot (N form.Declarator ∷ []) c.in_ok-three.three (N PerhapsPrivate ∷ []) (L terminal.Name ∷ T terminal.Close ∷ T terminal.Open ∷ N ParameterTypes ∷ T terminal.Close ∷ B MakePointer ∷ []) (Stars c.in_ok-stars.stars ∷ []) c.in_ok-is_private.four (Private c.in_ok-is_private.is_private ∷ []) (pair_path NESTING c.args.words.now c.args.spot (N form.Declarator ∷ []) c.in_ok-two.two (T terminal.Star ∷ []) (N PerhapsPrivate ∷ L terminal.Name ∷ T terminal.Close ∷ T terminal.Open ∷ N ParameterTypes ∷ T terminal.Close ∷ B MakePointer ∷ []) (Stars c.in_ok-stars.stars ∷ []) c.in_ok-three.three [] (pair_path NESTING c.args.words.now c.args.spot (N form.Declarator ∷ []) c.in_ok-stars.one (T terminal.Open ∷ []) (T terminal.Star ∷ N PerhapsPrivate ∷ L terminal.Name ∷ T terminal.Close ∷ T terminal.Open ∷ N ParameterTypes ∷ T terminal.Close ∷ B MakePointer ∷ []) (Stars c.in_ok-stars.stars ∷ []) c.in_ok-two.two [] (rule_path NESTING c.args.words.now c.args.spot (N form.Declarator ∷ []) c.in_ok-stars.one (Left AfterPointer) [] (Stars c.in_ok-stars.stars ∷ []) 1 (number_at (Left AfterPointer) terminal.Open (λ w ws. refl) (drop c.in_ok-stars.one.at c.args.words.now) (sym c.next_is.ensures ∙ c.if-not-next_is.false)) (lit< tt) (pair_path NESTING c.args.words.now c.args.spot (N form.Declarator ∷ []) c.args.spot (N Pointer ∷ []) (N (Left AfterPointer) ∷ []) [] c.in_ok-stars.one (Stars c.in_ok-stars.stars ∷ []) (rule_path NESTING c.args.words.now c.args.spot (N form.Declarator ∷ []) c.args.spot form.Declarator [] [] 0 (declarator_number (drop c.args.spot.at c.args.words.now)) (lit< tt) (begin_path NESTING c.args.words.now c.args.spot (N form.Declarator ∷ []))) c.in_ok-stars.ensures.read.leads)) c.in_ok-two.ensures.token) c.in_ok-three.ensures.token) c.in_ok-is_private.ensures.read.leads) c.in_err-word-2.ensures.no_leaf)

pub returns-in_err-six-clause-refused : goal.returns-in_err-six-clause-refused
returns-in_err-six-clause-refused c =
    err_out (Breaks NESTING c.args.words.now c.args.spot (N form.Declarator ∷ [])) c.from_residual-in_err-six.result c.in_err-six.field-0.0 c.from_residual-in_err-six.ensures.1
    (breaks NESTING c.args.words.now c.args.spot (N form.Declarator ∷ []) c.in_ok-word-2.five (T terminal.Close ∷ []) (T terminal.Open ∷ N ParameterTypes ∷ T terminal.Close ∷ B MakePointer ∷ []) (Leaf c.in_ok-word-2.word.place c.in_ok-word-2.word.value ∷ Private c.in_ok-is_private.is_private ∷ Stars c.in_ok-stars.stars ∷ []) c.in_err-six.field-0.0
    (pair_path NESTING c.args.words.now c.args.spot (N form.Declarator ∷ []) c.in_ok-is_private.four (L terminal.Name ∷ []) (T terminal.Close ∷ T terminal.Open ∷ N ParameterTypes ∷ T terminal.Close ∷ B MakePointer ∷ []) (Private c.in_ok-is_private.is_private ∷ Stars c.in_ok-stars.stars ∷ []) c.in_ok-word-2.five (Leaf c.in_ok-word-2.word.place c.in_ok-word-2.word.value ∷ []) (pair_path NESTING c.args.words.now c.args.spot (N form.Declarator ∷ []) c.in_ok-three.three (N PerhapsPrivate ∷ []) (L terminal.Name ∷ T terminal.Close ∷ T terminal.Open ∷ N ParameterTypes ∷ T terminal.Close ∷ B MakePointer ∷ []) (Stars c.in_ok-stars.stars ∷ []) c.in_ok-is_private.four (Private c.in_ok-is_private.is_private ∷ []) (pair_path NESTING c.args.words.now c.args.spot (N form.Declarator ∷ []) c.in_ok-two.two (T terminal.Star ∷ []) (N PerhapsPrivate ∷ L terminal.Name ∷ T terminal.Close ∷ T terminal.Open ∷ N ParameterTypes ∷ T terminal.Close ∷ B MakePointer ∷ []) (Stars c.in_ok-stars.stars ∷ []) c.in_ok-three.three [] (pair_path NESTING c.args.words.now c.args.spot (N form.Declarator ∷ []) c.in_ok-stars.one (T terminal.Open ∷ []) (T terminal.Star ∷ N PerhapsPrivate ∷ L terminal.Name ∷ T terminal.Close ∷ T terminal.Open ∷ N ParameterTypes ∷ T terminal.Close ∷ B MakePointer ∷ []) (Stars c.in_ok-stars.stars ∷ []) c.in_ok-two.two [] (rule_path NESTING c.args.words.now c.args.spot (N form.Declarator ∷ []) c.in_ok-stars.one (Left AfterPointer) [] (Stars c.in_ok-stars.stars ∷ []) 1 (number_at (Left AfterPointer) terminal.Open (λ w ws. refl) (drop c.in_ok-stars.one.at c.args.words.now) (sym c.next_is.ensures ∙ c.if-not-next_is.false)) (lit< tt) (pair_path NESTING c.args.words.now c.args.spot (N form.Declarator ∷ []) c.args.spot (N Pointer ∷ []) (N (Left AfterPointer) ∷ []) [] c.in_ok-stars.one (Stars c.in_ok-stars.stars ∷ []) (rule_path NESTING c.args.words.now c.args.spot (N form.Declarator ∷ []) c.args.spot form.Declarator [] [] 0 (declarator_number (drop c.args.spot.at c.args.words.now)) (lit< tt) (begin_path NESTING c.args.words.now c.args.spot (N form.Declarator ∷ []))) c.in_ok-stars.ensures.read.leads)) c.in_ok-two.ensures.token) c.in_ok-three.ensures.token) c.in_ok-is_private.ensures.read.leads) c.in_ok-word-2.ensures.leaf) c.in_err-six.ensures.no_token)

pub returns-in_err-seven-clause-refused : goal.returns-in_err-seven-clause-refused
returns-in_err-seven-clause-refused c =
    err_out (Breaks NESTING c.args.words.now c.args.spot (N form.Declarator ∷ [])) c.from_residual-in_err-seven.result c.in_err-seven.field-0.0 c.from_residual-in_err-seven.ensures.1
    (breaks NESTING c.args.words.now c.args.spot (N form.Declarator ∷ []) c.in_ok-six.six (T terminal.Open ∷ []) (N ParameterTypes ∷ T terminal.Close ∷ B MakePointer ∷ []) (Leaf c.in_ok-word-2.word.place c.in_ok-word-2.word.value ∷ Private c.in_ok-is_private.is_private ∷ Stars c.in_ok-stars.stars ∷ []) c.in_err-seven.field-0.0
    (pair_path NESTING c.args.words.now c.args.spot (N form.Declarator ∷ []) c.in_ok-word-2.five (T terminal.Close ∷ []) (T terminal.Open ∷ N ParameterTypes ∷ T terminal.Close ∷ B MakePointer ∷ []) (Leaf c.in_ok-word-2.word.place c.in_ok-word-2.word.value ∷ Private c.in_ok-is_private.is_private ∷ Stars c.in_ok-stars.stars ∷ []) c.in_ok-six.six [] (pair_path NESTING c.args.words.now c.args.spot (N form.Declarator ∷ []) c.in_ok-is_private.four (L terminal.Name ∷ []) (T terminal.Close ∷ T terminal.Open ∷ N ParameterTypes ∷ T terminal.Close ∷ B MakePointer ∷ []) (Private c.in_ok-is_private.is_private ∷ Stars c.in_ok-stars.stars ∷ []) c.in_ok-word-2.five (Leaf c.in_ok-word-2.word.place c.in_ok-word-2.word.value ∷ []) (pair_path NESTING c.args.words.now c.args.spot (N form.Declarator ∷ []) c.in_ok-three.three (N PerhapsPrivate ∷ []) (L terminal.Name ∷ T terminal.Close ∷ T terminal.Open ∷ N ParameterTypes ∷ T terminal.Close ∷ B MakePointer ∷ []) (Stars c.in_ok-stars.stars ∷ []) c.in_ok-is_private.four (Private c.in_ok-is_private.is_private ∷ []) (pair_path NESTING c.args.words.now c.args.spot (N form.Declarator ∷ []) c.in_ok-two.two (T terminal.Star ∷ []) (N PerhapsPrivate ∷ L terminal.Name ∷ T terminal.Close ∷ T terminal.Open ∷ N ParameterTypes ∷ T terminal.Close ∷ B MakePointer ∷ []) (Stars c.in_ok-stars.stars ∷ []) c.in_ok-three.three [] (pair_path NESTING c.args.words.now c.args.spot (N form.Declarator ∷ []) c.in_ok-stars.one (T terminal.Open ∷ []) (T terminal.Star ∷ N PerhapsPrivate ∷ L terminal.Name ∷ T terminal.Close ∷ T terminal.Open ∷ N ParameterTypes ∷ T terminal.Close ∷ B MakePointer ∷ []) (Stars c.in_ok-stars.stars ∷ []) c.in_ok-two.two [] (rule_path NESTING c.args.words.now c.args.spot (N form.Declarator ∷ []) c.in_ok-stars.one (Left AfterPointer) [] (Stars c.in_ok-stars.stars ∷ []) 1 (number_at (Left AfterPointer) terminal.Open (λ w ws. refl) (drop c.in_ok-stars.one.at c.args.words.now) (sym c.next_is.ensures ∙ c.if-not-next_is.false)) (lit< tt) (pair_path NESTING c.args.words.now c.args.spot (N form.Declarator ∷ []) c.args.spot (N Pointer ∷ []) (N (Left AfterPointer) ∷ []) [] c.in_ok-stars.one (Stars c.in_ok-stars.stars ∷ []) (rule_path NESTING c.args.words.now c.args.spot (N form.Declarator ∷ []) c.args.spot form.Declarator [] [] 0 (declarator_number (drop c.args.spot.at c.args.words.now)) (lit< tt) (begin_path NESTING c.args.words.now c.args.spot (N form.Declarator ∷ []))) c.in_ok-stars.ensures.read.leads)) c.in_ok-two.ensures.token) c.in_ok-three.ensures.token) c.in_ok-is_private.ensures.read.leads) c.in_ok-word-2.ensures.leaf) c.in_ok-six.ensures.token) c.in_err-seven.ensures.no_token)

pub returns-in_err-parameters-clause-refused : goal.returns-in_err-parameters-clause-refused
returns-in_err-parameters-clause-refused c =
    err_out (Breaks NESTING c.args.words.now c.args.spot (N form.Declarator ∷ [])) c.from_residual-in_err-parameters.result c.in_err-parameters.field-0.0 c.from_residual-in_err-parameters.ensures.1
    (breaks NESTING c.args.words.now c.args.spot (N form.Declarator ∷ []) c.in_ok-seven.seven (N ParameterTypes ∷ []) (T terminal.Close ∷ B MakePointer ∷ []) (Leaf c.in_ok-word-2.word.place c.in_ok-word-2.word.value ∷ Private c.in_ok-is_private.is_private ∷ Stars c.in_ok-stars.stars ∷ []) c.in_err-parameters.field-0.0
    (pair_path NESTING c.args.words.now c.args.spot (N form.Declarator ∷ []) c.in_ok-six.six (T terminal.Open ∷ []) (N ParameterTypes ∷ T terminal.Close ∷ B MakePointer ∷ []) (Leaf c.in_ok-word-2.word.place c.in_ok-word-2.word.value ∷ Private c.in_ok-is_private.is_private ∷ Stars c.in_ok-stars.stars ∷ []) c.in_ok-seven.seven [] (pair_path NESTING c.args.words.now c.args.spot (N form.Declarator ∷ []) c.in_ok-word-2.five (T terminal.Close ∷ []) (T terminal.Open ∷ N ParameterTypes ∷ T terminal.Close ∷ B MakePointer ∷ []) (Leaf c.in_ok-word-2.word.place c.in_ok-word-2.word.value ∷ Private c.in_ok-is_private.is_private ∷ Stars c.in_ok-stars.stars ∷ []) c.in_ok-six.six [] (pair_path NESTING c.args.words.now c.args.spot (N form.Declarator ∷ []) c.in_ok-is_private.four (L terminal.Name ∷ []) (T terminal.Close ∷ T terminal.Open ∷ N ParameterTypes ∷ T terminal.Close ∷ B MakePointer ∷ []) (Private c.in_ok-is_private.is_private ∷ Stars c.in_ok-stars.stars ∷ []) c.in_ok-word-2.five (Leaf c.in_ok-word-2.word.place c.in_ok-word-2.word.value ∷ []) (pair_path NESTING c.args.words.now c.args.spot (N form.Declarator ∷ []) c.in_ok-three.three (N PerhapsPrivate ∷ []) (L terminal.Name ∷ T terminal.Close ∷ T terminal.Open ∷ N ParameterTypes ∷ T terminal.Close ∷ B MakePointer ∷ []) (Stars c.in_ok-stars.stars ∷ []) c.in_ok-is_private.four (Private c.in_ok-is_private.is_private ∷ []) (pair_path NESTING c.args.words.now c.args.spot (N form.Declarator ∷ []) c.in_ok-two.two (T terminal.Star ∷ []) (N PerhapsPrivate ∷ L terminal.Name ∷ T terminal.Close ∷ T terminal.Open ∷ N ParameterTypes ∷ T terminal.Close ∷ B MakePointer ∷ []) (Stars c.in_ok-stars.stars ∷ []) c.in_ok-three.three [] (pair_path NESTING c.args.words.now c.args.spot (N form.Declarator ∷ []) c.in_ok-stars.one (T terminal.Open ∷ []) (T terminal.Star ∷ N PerhapsPrivate ∷ L terminal.Name ∷ T terminal.Close ∷ T terminal.Open ∷ N ParameterTypes ∷ T terminal.Close ∷ B MakePointer ∷ []) (Stars c.in_ok-stars.stars ∷ []) c.in_ok-two.two [] (rule_path NESTING c.args.words.now c.args.spot (N form.Declarator ∷ []) c.in_ok-stars.one (Left AfterPointer) [] (Stars c.in_ok-stars.stars ∷ []) 1 (number_at (Left AfterPointer) terminal.Open (λ w ws. refl) (drop c.in_ok-stars.one.at c.args.words.now) (sym c.next_is.ensures ∙ c.if-not-next_is.false)) (lit< tt) (pair_path NESTING c.args.words.now c.args.spot (N form.Declarator ∷ []) c.args.spot (N Pointer ∷ []) (N (Left AfterPointer) ∷ []) [] c.in_ok-stars.one (Stars c.in_ok-stars.stars ∷ []) (rule_path NESTING c.args.words.now c.args.spot (N form.Declarator ∷ []) c.args.spot form.Declarator [] [] 0 (declarator_number (drop c.args.spot.at c.args.words.now)) (lit< tt) (begin_path NESTING c.args.words.now c.args.spot (N form.Declarator ∷ []))) c.in_ok-stars.ensures.read.leads)) c.in_ok-two.ensures.token) c.in_ok-three.ensures.token) c.in_ok-is_private.ensures.read.leads) c.in_ok-word-2.ensures.leaf) c.in_ok-six.ensures.token) c.in_ok-seven.ensures.token) c.in_err-parameters.ensures.refused)

pub returns-in_err-nine-clause-refused : goal.returns-in_err-nine-clause-refused
returns-in_err-nine-clause-refused c =
    err_out (Breaks NESTING c.args.words.now c.args.spot (N form.Declarator ∷ [])) c.from_residual-in_err-nine.result c.in_err-nine.field-0.0 c.from_residual-in_err-nine.ensures.1
    (breaks NESTING c.args.words.now c.args.spot (N form.Declarator ∷ []) c.in_ok-parameters.eight (T terminal.Close ∷ []) (B MakePointer ∷ []) (Types c.in_ok-parameters.parameters ∷ Leaf c.in_ok-word-2.word.place c.in_ok-word-2.word.value ∷ Private c.in_ok-is_private.is_private ∷ Stars c.in_ok-stars.stars ∷ []) c.in_err-nine.field-0.0
    (pair_path NESTING c.args.words.now c.args.spot (N form.Declarator ∷ []) c.in_ok-seven.seven (N ParameterTypes ∷ []) (T terminal.Close ∷ B MakePointer ∷ []) (Leaf c.in_ok-word-2.word.place c.in_ok-word-2.word.value ∷ Private c.in_ok-is_private.is_private ∷ Stars c.in_ok-stars.stars ∷ []) c.in_ok-parameters.eight (Types c.in_ok-parameters.parameters ∷ []) (pair_path NESTING c.args.words.now c.args.spot (N form.Declarator ∷ []) c.in_ok-six.six (T terminal.Open ∷ []) (N ParameterTypes ∷ T terminal.Close ∷ B MakePointer ∷ []) (Leaf c.in_ok-word-2.word.place c.in_ok-word-2.word.value ∷ Private c.in_ok-is_private.is_private ∷ Stars c.in_ok-stars.stars ∷ []) c.in_ok-seven.seven [] (pair_path NESTING c.args.words.now c.args.spot (N form.Declarator ∷ []) c.in_ok-word-2.five (T terminal.Close ∷ []) (T terminal.Open ∷ N ParameterTypes ∷ T terminal.Close ∷ B MakePointer ∷ []) (Leaf c.in_ok-word-2.word.place c.in_ok-word-2.word.value ∷ Private c.in_ok-is_private.is_private ∷ Stars c.in_ok-stars.stars ∷ []) c.in_ok-six.six [] (pair_path NESTING c.args.words.now c.args.spot (N form.Declarator ∷ []) c.in_ok-is_private.four (L terminal.Name ∷ []) (T terminal.Close ∷ T terminal.Open ∷ N ParameterTypes ∷ T terminal.Close ∷ B MakePointer ∷ []) (Private c.in_ok-is_private.is_private ∷ Stars c.in_ok-stars.stars ∷ []) c.in_ok-word-2.five (Leaf c.in_ok-word-2.word.place c.in_ok-word-2.word.value ∷ []) (pair_path NESTING c.args.words.now c.args.spot (N form.Declarator ∷ []) c.in_ok-three.three (N PerhapsPrivate ∷ []) (L terminal.Name ∷ T terminal.Close ∷ T terminal.Open ∷ N ParameterTypes ∷ T terminal.Close ∷ B MakePointer ∷ []) (Stars c.in_ok-stars.stars ∷ []) c.in_ok-is_private.four (Private c.in_ok-is_private.is_private ∷ []) (pair_path NESTING c.args.words.now c.args.spot (N form.Declarator ∷ []) c.in_ok-two.two (T terminal.Star ∷ []) (N PerhapsPrivate ∷ L terminal.Name ∷ T terminal.Close ∷ T terminal.Open ∷ N ParameterTypes ∷ T terminal.Close ∷ B MakePointer ∷ []) (Stars c.in_ok-stars.stars ∷ []) c.in_ok-three.three [] (pair_path NESTING c.args.words.now c.args.spot (N form.Declarator ∷ []) c.in_ok-stars.one (T terminal.Open ∷ []) (T terminal.Star ∷ N PerhapsPrivate ∷ L terminal.Name ∷ T terminal.Close ∷ T terminal.Open ∷ N ParameterTypes ∷ T terminal.Close ∷ B MakePointer ∷ []) (Stars c.in_ok-stars.stars ∷ []) c.in_ok-two.two [] (rule_path NESTING c.args.words.now c.args.spot (N form.Declarator ∷ []) c.in_ok-stars.one (Left AfterPointer) [] (Stars c.in_ok-stars.stars ∷ []) 1 (number_at (Left AfterPointer) terminal.Open (λ w ws. refl) (drop c.in_ok-stars.one.at c.args.words.now) (sym c.next_is.ensures ∙ c.if-not-next_is.false)) (lit< tt) (pair_path NESTING c.args.words.now c.args.spot (N form.Declarator ∷ []) c.args.spot (N Pointer ∷ []) (N (Left AfterPointer) ∷ []) [] c.in_ok-stars.one (Stars c.in_ok-stars.stars ∷ []) (rule_path NESTING c.args.words.now c.args.spot (N form.Declarator ∷ []) c.args.spot form.Declarator [] [] 0 (declarator_number (drop c.args.spot.at c.args.words.now)) (lit< tt) (begin_path NESTING c.args.words.now c.args.spot (N form.Declarator ∷ []))) c.in_ok-stars.ensures.read.leads)) c.in_ok-two.ensures.token) c.in_ok-three.ensures.token) c.in_ok-is_private.ensures.read.leads) c.in_ok-word-2.ensures.leaf) c.in_ok-six.ensures.token) c.in_ok-seven.ensures.token) c.in_ok-parameters.ensures.read.leads) c.in_err-nine.ensures.no_token)

pub returns-clause-read : goal.returns-clause-read
returns-clause-read c = record {
  leads = build_path NESTING c.args.words.now c.args.spot (N form.Declarator ∷ []) c.in_ok-nine.nine MakePointer [] (Types c.in_ok-parameters.parameters ∷ Leaf c.in_ok-word-2.word.place c.in_ok-word-2.word.value ∷ Private c.in_ok-is_private.is_private ∷ Stars c.in_ok-stars.stars ∷ []) (OfDeclarator (record { name = c.in_ok-word-2.word.value; place = c.in_ok-word-2.word.place; stars = c.in_ok-stars.stars; shape = shape.FunctionPointer c.in_ok-is_private.is_private c.in_ok-parameters.parameters }) ∷ []) (λ built. refl) (pair_path NESTING c.args.words.now c.args.spot (N form.Declarator ∷ []) c.in_ok-parameters.eight (T terminal.Close ∷ []) (B MakePointer ∷ []) (Types c.in_ok-parameters.parameters ∷ Leaf c.in_ok-word-2.word.place c.in_ok-word-2.word.value ∷ Private c.in_ok-is_private.is_private ∷ Stars c.in_ok-stars.stars ∷ []) c.in_ok-nine.nine [] (pair_path NESTING c.args.words.now c.args.spot (N form.Declarator ∷ []) c.in_ok-seven.seven (N ParameterTypes ∷ []) (T terminal.Close ∷ B MakePointer ∷ []) (Leaf c.in_ok-word-2.word.place c.in_ok-word-2.word.value ∷ Private c.in_ok-is_private.is_private ∷ Stars c.in_ok-stars.stars ∷ []) c.in_ok-parameters.eight (Types c.in_ok-parameters.parameters ∷ []) (pair_path NESTING c.args.words.now c.args.spot (N form.Declarator ∷ []) c.in_ok-six.six (T terminal.Open ∷ []) (N ParameterTypes ∷ T terminal.Close ∷ B MakePointer ∷ []) (Leaf c.in_ok-word-2.word.place c.in_ok-word-2.word.value ∷ Private c.in_ok-is_private.is_private ∷ Stars c.in_ok-stars.stars ∷ []) c.in_ok-seven.seven [] (pair_path NESTING c.args.words.now c.args.spot (N form.Declarator ∷ []) c.in_ok-word-2.five (T terminal.Close ∷ []) (T terminal.Open ∷ N ParameterTypes ∷ T terminal.Close ∷ B MakePointer ∷ []) (Leaf c.in_ok-word-2.word.place c.in_ok-word-2.word.value ∷ Private c.in_ok-is_private.is_private ∷ Stars c.in_ok-stars.stars ∷ []) c.in_ok-six.six [] (pair_path NESTING c.args.words.now c.args.spot (N form.Declarator ∷ []) c.in_ok-is_private.four (L terminal.Name ∷ []) (T terminal.Close ∷ T terminal.Open ∷ N ParameterTypes ∷ T terminal.Close ∷ B MakePointer ∷ []) (Private c.in_ok-is_private.is_private ∷ Stars c.in_ok-stars.stars ∷ []) c.in_ok-word-2.five (Leaf c.in_ok-word-2.word.place c.in_ok-word-2.word.value ∷ []) (pair_path NESTING c.args.words.now c.args.spot (N form.Declarator ∷ []) c.in_ok-three.three (N PerhapsPrivate ∷ []) (L terminal.Name ∷ T terminal.Close ∷ T terminal.Open ∷ N ParameterTypes ∷ T terminal.Close ∷ B MakePointer ∷ []) (Stars c.in_ok-stars.stars ∷ []) c.in_ok-is_private.four (Private c.in_ok-is_private.is_private ∷ []) (pair_path NESTING c.args.words.now c.args.spot (N form.Declarator ∷ []) c.in_ok-two.two (T terminal.Star ∷ []) (N PerhapsPrivate ∷ L terminal.Name ∷ T terminal.Close ∷ T terminal.Open ∷ N ParameterTypes ∷ T terminal.Close ∷ B MakePointer ∷ []) (Stars c.in_ok-stars.stars ∷ []) c.in_ok-three.three [] (pair_path NESTING c.args.words.now c.args.spot (N form.Declarator ∷ []) c.in_ok-stars.one (T terminal.Open ∷ []) (T terminal.Star ∷ N PerhapsPrivate ∷ L terminal.Name ∷ T terminal.Close ∷ T terminal.Open ∷ N ParameterTypes ∷ T terminal.Close ∷ B MakePointer ∷ []) (Stars c.in_ok-stars.stars ∷ []) c.in_ok-two.two [] (rule_path NESTING c.args.words.now c.args.spot (N form.Declarator ∷ []) c.in_ok-stars.one (Left AfterPointer) [] (Stars c.in_ok-stars.stars ∷ []) 1 (number_at (Left AfterPointer) terminal.Open (λ w ws. refl) (drop c.in_ok-stars.one.at c.args.words.now) (sym c.next_is.ensures ∙ c.if-not-next_is.false)) (lit< tt) (pair_path NESTING c.args.words.now c.args.spot (N form.Declarator ∷ []) c.args.spot (N Pointer ∷ []) (N (Left AfterPointer) ∷ []) [] c.in_ok-stars.one (Stars c.in_ok-stars.stars ∷ []) (rule_path NESTING c.args.words.now c.args.spot (N form.Declarator ∷ []) c.args.spot form.Declarator [] [] 0 (declarator_number (drop c.args.spot.at c.args.words.now)) (lit< tt) (begin_path NESTING c.args.words.now c.args.spot (N form.Declarator ∷ []))) c.in_ok-stars.ensures.read.leads)) c.in_ok-two.ensures.token) c.in_ok-three.ensures.token) c.in_ok-is_private.ensures.read.leads) c.in_ok-word-2.ensures.leaf) c.in_ok-six.ensures.token) c.in_ok-seven.ensures.token) c.in_ok-parameters.ensures.read.leads) c.in_ok-nine.ensures.token);
  same = only_place c.args.spot c.in_ok-nine.nine (c.in_ok-parameters.eight.at + 1) (place_then c.args.spot c.in_ok-parameters.eight c.in_ok-nine.nine c.in_ok-parameters.eight.at (c.in_ok-parameters.eight.at + 1) (place_then c.args.spot c.in_ok-seven.seven c.in_ok-parameters.eight (c.in_ok-six.six.at + 1) c.in_ok-parameters.eight.at (place_then c.args.spot c.in_ok-six.six c.in_ok-seven.seven (c.in_ok-word-2.five.at + 1) (c.in_ok-six.six.at + 1) (place_then c.args.spot c.in_ok-word-2.five c.in_ok-six.six (c.in_ok-is_private.four.at + 1) (c.in_ok-word-2.five.at + 1) (place_then c.args.spot c.in_ok-is_private.four c.in_ok-word-2.five c.in_ok-is_private.four.at (c.in_ok-is_private.four.at + 1) (place_then c.args.spot c.in_ok-three.three c.in_ok-is_private.four (c.in_ok-two.two.at + 1) c.in_ok-is_private.four.at (place_then c.args.spot c.in_ok-two.two c.in_ok-three.three (c.in_ok-stars.one.at + 1) (c.in_ok-two.two.at + 1) (place_then c.args.spot c.in_ok-stars.one c.in_ok-two.two c.in_ok-stars.one.at (c.in_ok-stars.one.at + 1) c.in_ok-stars.ensures.read.same c.in_ok-two.ensures.place) c.in_ok-three.ensures.place) c.in_ok-is_private.ensures.read.same) c.in_ok-word-2.ensures.place) c.in_ok-six.ensures.place) c.in_ok-seven.ensures.place) c.in_ok-parameters.ensures.read.same) c.in_ok-nine.ensures.place);
  on = omega (arith, ap (λ s. s.at) c.in_ok-two.ensures.place, ap (λ s. s.at) c.in_ok-three.ensures.place, c.in_ok-is_private.ensures.read.on, ap (λ s. s.at) c.in_ok-word-2.ensures.place, ap (λ s. s.at) c.in_ok-six.ensures.place, ap (λ s. s.at) c.in_ok-seven.ensures.place, c.in_ok-parameters.ensures.read.on, ap (λ s. s.at) c.in_ok-nine.ensures.place, c.in_ok-stars.ensures.read.on);
  within = omega (arith, ap (λ s. s.at) c.in_ok-nine.ensures.place, c.in_ok-nine.ensures.more);
}
