use Rattle.std.proofs.Common.{List, [], ◌∷◌, ◌++◌, ◌≡◌, ◌+◌, ◌-◌, drop, false, refl, sym, ap, subst, ◌∙◌, arith, lit<}
use Rattle.c_ast.specs.declared.program.TypeName.{TypeName}
use Rattle.c_ast.specs.declared.program.TypeShape as type_shape
use Rattle.c_parser.specs.declared.spot.Spot.{Spot}
use Rattle.c_parser.specs.declared.spot.TheConstants.{NESTING}
use Rattle.c_grammar.specs.declared.words.Terminal.TheVariants as terminal
use Rattle.c_grammar.specs.Grammar as form
use Rattle.c_grammar.specs.Grammar.{Symbol, N, T, M, B, Pointer, Specifier, PerhapsPrivate, PerhapsPointer, ParameterTypes, MoreTypes, Out}
use Rattle.c_grammar.specs.Steps.{OfSpecifier, OfType, OfTypeShape, Private, Stars, Types, Give, Push, MakeType, MakePointerType}
use Rattle.c_parser.specs.Paths.{Breaks, Path}
use Rattle.c_parser.proofs.NumberLemmas.{number_else}
use Rattle.c_parser.proofs.PathLemmas.{begin_path, rule_path, pair_path, build_path, breaks, err_out}
use Rattle.c_parser.proofs.FormLemmas.{only_place, place_then, begun_path}
use Rattle.c_parser.proofs.TypeNameLemmas.{type_name_number, deeper, after_first, after_comma, void_path, void_read, no_types, list_path, first_path, comma_path, after_comma_path, next_path, list_end}
use Rattle.c_parser.proofs.type_names.+type_names.Goals as goal

pub perhaps_pointer-returns-then-not-next_is-clause-read : goal.perhaps_pointer-returns-then-not-next_is-clause-read
perhaps_pointer-returns-then-not-next_is-clause-read t c =
    let number = number_else PerhapsPointer terminal.Open (λ w ws. refl) refl (drop c.args.spot.at c.args.words.now) false (sym c.next_is.ensures ∙ c.if-not-next_is.true) in
    record {
      leads = build_path NESTING c.args.words.now c.args.spot (N PerhapsPointer ∷ []) c.args.spot (Give (OfTypeShape type_shape.Plain)) [] [] (OfTypeShape type_shape.Plain ∷ []) (λ built. refl)
          (rule_path NESTING c.args.words.now c.args.spot (N PerhapsPointer ∷ []) c.args.spot PerhapsPointer [] [] 1 number (lit< tt) (begin_path NESTING c.args.words.now c.args.spot (N PerhapsPointer ∷ [])));
      same = refl;
      on = omega arith;
      within = c.requires.ready.within;
    }

pub perhaps_pointer-returns-in_err-one-clause-refused : goal.perhaps_pointer-returns-in_err-one-clause-refused
perhaps_pointer-returns-in_err-one-clause-refused t c =
    err_out (Breaks NESTING c.args.words.now c.args.spot (N PerhapsPointer ∷ [])) c.from_residual.result c.in_err-one.field-0.0 c.from_residual.ensures.1
    (breaks NESTING c.args.words.now c.args.spot (N PerhapsPointer ∷ []) c.args.spot (T terminal.Open ∷ []) (T terminal.Star ∷ N PerhapsPrivate ∷ T terminal.Close ∷ T terminal.Open ∷ N ParameterTypes ∷ T terminal.Close ∷ B MakePointerType ∷ []) [] c.in_err-one.field-0.0
    (begun_path c.args.words.now c.args.spot PerhapsPointer terminal.Open 0 (T terminal.Open ∷ T terminal.Star ∷ N PerhapsPrivate ∷ T terminal.Close ∷ T terminal.Open ∷ N ParameterTypes ∷ T terminal.Close ∷ B MakePointerType ∷ []) (λ w ws. refl) refl (lit< tt) refl (sym c.next_is.ensures ∙ c.if-not-next_is.false)) c.in_err-one.ensures.no_token)

pub perhaps_pointer-returns-in_err-two-clause-refused : goal.perhaps_pointer-returns-in_err-two-clause-refused
perhaps_pointer-returns-in_err-two-clause-refused t c =
    err_out (Breaks NESTING c.args.words.now c.args.spot (N PerhapsPointer ∷ [])) c.from_residual-in_err-two.result c.in_err-two.field-0.0 c.from_residual-in_err-two.ensures.1
    (breaks NESTING c.args.words.now c.args.spot (N PerhapsPointer ∷ []) c.in_ok-one.one (T terminal.Star ∷ []) (N PerhapsPrivate ∷ T terminal.Close ∷ T terminal.Open ∷ N ParameterTypes ∷ T terminal.Close ∷ B MakePointerType ∷ []) [] c.in_err-two.field-0.0
    (pair_path NESTING c.args.words.now c.args.spot (N PerhapsPointer ∷ []) c.args.spot (T terminal.Open ∷ []) (T terminal.Star ∷ N PerhapsPrivate ∷ T terminal.Close ∷ T terminal.Open ∷ N ParameterTypes ∷ T terminal.Close ∷ B MakePointerType ∷ []) [] c.in_ok-one.one [] (begun_path c.args.words.now c.args.spot PerhapsPointer terminal.Open 0 (T terminal.Open ∷ T terminal.Star ∷ N PerhapsPrivate ∷ T terminal.Close ∷ T terminal.Open ∷ N ParameterTypes ∷ T terminal.Close ∷ B MakePointerType ∷ []) (λ w ws. refl) refl (lit< tt) refl (sym c.next_is.ensures ∙ c.if-not-next_is.false)) c.in_ok-one.ensures.token) c.in_err-two.ensures.no_token)

pub perhaps_pointer-returns-in_err-is_private-clause-refused : goal.perhaps_pointer-returns-in_err-is_private-clause-refused
perhaps_pointer-returns-in_err-is_private-clause-refused t c =
    err_out (Breaks NESTING c.args.words.now c.args.spot (N PerhapsPointer ∷ [])) c.from_residual-in_err-is_private.result c.in_err-is_private.field-0.0 c.from_residual-in_err-is_private.ensures.1
    (breaks NESTING c.args.words.now c.args.spot (N PerhapsPointer ∷ []) c.in_ok-two.two (N PerhapsPrivate ∷ []) (T terminal.Close ∷ T terminal.Open ∷ N ParameterTypes ∷ T terminal.Close ∷ B MakePointerType ∷ []) [] c.in_err-is_private.field-0.0
    (pair_path NESTING c.args.words.now c.args.spot (N PerhapsPointer ∷ []) c.in_ok-one.one (T terminal.Star ∷ []) (N PerhapsPrivate ∷ T terminal.Close ∷ T terminal.Open ∷ N ParameterTypes ∷ T terminal.Close ∷ B MakePointerType ∷ []) [] c.in_ok-two.two [] (pair_path NESTING c.args.words.now c.args.spot (N PerhapsPointer ∷ []) c.args.spot (T terminal.Open ∷ []) (T terminal.Star ∷ N PerhapsPrivate ∷ T terminal.Close ∷ T terminal.Open ∷ N ParameterTypes ∷ T terminal.Close ∷ B MakePointerType ∷ []) [] c.in_ok-one.one [] (begun_path c.args.words.now c.args.spot PerhapsPointer terminal.Open 0 (T terminal.Open ∷ T terminal.Star ∷ N PerhapsPrivate ∷ T terminal.Close ∷ T terminal.Open ∷ N ParameterTypes ∷ T terminal.Close ∷ B MakePointerType ∷ []) (λ w ws. refl) refl (lit< tt) refl (sym c.next_is.ensures ∙ c.if-not-next_is.false)) c.in_ok-one.ensures.token) c.in_ok-two.ensures.token) c.in_err-is_private.ensures.refused)

pub perhaps_pointer-returns-in_err-four-clause-refused : goal.perhaps_pointer-returns-in_err-four-clause-refused
perhaps_pointer-returns-in_err-four-clause-refused t c =
    err_out (Breaks NESTING c.args.words.now c.args.spot (N PerhapsPointer ∷ [])) c.from_residual-in_err-four.result c.in_err-four.field-0.0 c.from_residual-in_err-four.ensures.1
    (breaks NESTING c.args.words.now c.args.spot (N PerhapsPointer ∷ []) c.in_ok-is_private.three (T terminal.Close ∷ []) (T terminal.Open ∷ N ParameterTypes ∷ T terminal.Close ∷ B MakePointerType ∷ []) (Private c.in_ok-is_private.is_private ∷ []) c.in_err-four.field-0.0
    (pair_path NESTING c.args.words.now c.args.spot (N PerhapsPointer ∷ []) c.in_ok-two.two (N PerhapsPrivate ∷ []) (T terminal.Close ∷ T terminal.Open ∷ N ParameterTypes ∷ T terminal.Close ∷ B MakePointerType ∷ []) [] c.in_ok-is_private.three (Private c.in_ok-is_private.is_private ∷ []) (pair_path NESTING c.args.words.now c.args.spot (N PerhapsPointer ∷ []) c.in_ok-one.one (T terminal.Star ∷ []) (N PerhapsPrivate ∷ T terminal.Close ∷ T terminal.Open ∷ N ParameterTypes ∷ T terminal.Close ∷ B MakePointerType ∷ []) [] c.in_ok-two.two [] (pair_path NESTING c.args.words.now c.args.spot (N PerhapsPointer ∷ []) c.args.spot (T terminal.Open ∷ []) (T terminal.Star ∷ N PerhapsPrivate ∷ T terminal.Close ∷ T terminal.Open ∷ N ParameterTypes ∷ T terminal.Close ∷ B MakePointerType ∷ []) [] c.in_ok-one.one [] (begun_path c.args.words.now c.args.spot PerhapsPointer terminal.Open 0 (T terminal.Open ∷ T terminal.Star ∷ N PerhapsPrivate ∷ T terminal.Close ∷ T terminal.Open ∷ N ParameterTypes ∷ T terminal.Close ∷ B MakePointerType ∷ []) (λ w ws. refl) refl (lit< tt) refl (sym c.next_is.ensures ∙ c.if-not-next_is.false)) c.in_ok-one.ensures.token) c.in_ok-two.ensures.token) c.in_ok-is_private.ensures.read.leads) c.in_err-four.ensures.no_token)

pub perhaps_pointer-returns-in_err-five-clause-refused : goal.perhaps_pointer-returns-in_err-five-clause-refused
perhaps_pointer-returns-in_err-five-clause-refused t c =
    err_out (Breaks NESTING c.args.words.now c.args.spot (N PerhapsPointer ∷ [])) c.from_residual-in_err-five.result c.in_err-five.field-0.0 c.from_residual-in_err-five.ensures.1
    (breaks NESTING c.args.words.now c.args.spot (N PerhapsPointer ∷ []) c.in_ok-four.four (T terminal.Open ∷ []) (N ParameterTypes ∷ T terminal.Close ∷ B MakePointerType ∷ []) (Private c.in_ok-is_private.is_private ∷ []) c.in_err-five.field-0.0
    (pair_path NESTING c.args.words.now c.args.spot (N PerhapsPointer ∷ []) c.in_ok-is_private.three (T terminal.Close ∷ []) (T terminal.Open ∷ N ParameterTypes ∷ T terminal.Close ∷ B MakePointerType ∷ []) (Private c.in_ok-is_private.is_private ∷ []) c.in_ok-four.four [] (pair_path NESTING c.args.words.now c.args.spot (N PerhapsPointer ∷ []) c.in_ok-two.two (N PerhapsPrivate ∷ []) (T terminal.Close ∷ T terminal.Open ∷ N ParameterTypes ∷ T terminal.Close ∷ B MakePointerType ∷ []) [] c.in_ok-is_private.three (Private c.in_ok-is_private.is_private ∷ []) (pair_path NESTING c.args.words.now c.args.spot (N PerhapsPointer ∷ []) c.in_ok-one.one (T terminal.Star ∷ []) (N PerhapsPrivate ∷ T terminal.Close ∷ T terminal.Open ∷ N ParameterTypes ∷ T terminal.Close ∷ B MakePointerType ∷ []) [] c.in_ok-two.two [] (pair_path NESTING c.args.words.now c.args.spot (N PerhapsPointer ∷ []) c.args.spot (T terminal.Open ∷ []) (T terminal.Star ∷ N PerhapsPrivate ∷ T terminal.Close ∷ T terminal.Open ∷ N ParameterTypes ∷ T terminal.Close ∷ B MakePointerType ∷ []) [] c.in_ok-one.one [] (begun_path c.args.words.now c.args.spot PerhapsPointer terminal.Open 0 (T terminal.Open ∷ T terminal.Star ∷ N PerhapsPrivate ∷ T terminal.Close ∷ T terminal.Open ∷ N ParameterTypes ∷ T terminal.Close ∷ B MakePointerType ∷ []) (λ w ws. refl) refl (lit< tt) refl (sym c.next_is.ensures ∙ c.if-not-next_is.false)) c.in_ok-one.ensures.token) c.in_ok-two.ensures.token) c.in_ok-is_private.ensures.read.leads) c.in_ok-four.ensures.token) c.in_err-five.ensures.no_token)

pub perhaps_pointer-returns-in_err-parameters-clause-refused : goal.perhaps_pointer-returns-in_err-parameters-clause-refused
perhaps_pointer-returns-in_err-parameters-clause-refused t c =
    err_out (Breaks NESTING c.args.words.now c.args.spot (N PerhapsPointer ∷ [])) c.from_residual-in_err-parameters.result c.in_err-parameters.field-0.0 c.from_residual-in_err-parameters.ensures.1
    (breaks NESTING c.args.words.now c.args.spot (N PerhapsPointer ∷ []) c.in_ok-five.five (N ParameterTypes ∷ []) (T terminal.Close ∷ B MakePointerType ∷ []) (Private c.in_ok-is_private.is_private ∷ []) c.in_err-parameters.field-0.0
    (pair_path NESTING c.args.words.now c.args.spot (N PerhapsPointer ∷ []) c.in_ok-four.four (T terminal.Open ∷ []) (N ParameterTypes ∷ T terminal.Close ∷ B MakePointerType ∷ []) (Private c.in_ok-is_private.is_private ∷ []) c.in_ok-five.five [] (pair_path NESTING c.args.words.now c.args.spot (N PerhapsPointer ∷ []) c.in_ok-is_private.three (T terminal.Close ∷ []) (T terminal.Open ∷ N ParameterTypes ∷ T terminal.Close ∷ B MakePointerType ∷ []) (Private c.in_ok-is_private.is_private ∷ []) c.in_ok-four.four [] (pair_path NESTING c.args.words.now c.args.spot (N PerhapsPointer ∷ []) c.in_ok-two.two (N PerhapsPrivate ∷ []) (T terminal.Close ∷ T terminal.Open ∷ N ParameterTypes ∷ T terminal.Close ∷ B MakePointerType ∷ []) [] c.in_ok-is_private.three (Private c.in_ok-is_private.is_private ∷ []) (pair_path NESTING c.args.words.now c.args.spot (N PerhapsPointer ∷ []) c.in_ok-one.one (T terminal.Star ∷ []) (N PerhapsPrivate ∷ T terminal.Close ∷ T terminal.Open ∷ N ParameterTypes ∷ T terminal.Close ∷ B MakePointerType ∷ []) [] c.in_ok-two.two [] (pair_path NESTING c.args.words.now c.args.spot (N PerhapsPointer ∷ []) c.args.spot (T terminal.Open ∷ []) (T terminal.Star ∷ N PerhapsPrivate ∷ T terminal.Close ∷ T terminal.Open ∷ N ParameterTypes ∷ T terminal.Close ∷ B MakePointerType ∷ []) [] c.in_ok-one.one [] (begun_path c.args.words.now c.args.spot PerhapsPointer terminal.Open 0 (T terminal.Open ∷ T terminal.Star ∷ N PerhapsPrivate ∷ T terminal.Close ∷ T terminal.Open ∷ N ParameterTypes ∷ T terminal.Close ∷ B MakePointerType ∷ []) (λ w ws. refl) refl (lit< tt) refl (sym c.next_is.ensures ∙ c.if-not-next_is.false)) c.in_ok-one.ensures.token) c.in_ok-two.ensures.token) c.in_ok-is_private.ensures.read.leads) c.in_ok-four.ensures.token) c.in_ok-five.ensures.token) c.in_err-parameters.ensures.refused)

pub perhaps_pointer-returns-in_err-seven-clause-refused : goal.perhaps_pointer-returns-in_err-seven-clause-refused
perhaps_pointer-returns-in_err-seven-clause-refused t c =
    err_out (Breaks NESTING c.args.words.now c.args.spot (N PerhapsPointer ∷ [])) c.from_residual-in_err-seven.result c.in_err-seven.field-0.0 c.from_residual-in_err-seven.ensures.1
    (breaks NESTING c.args.words.now c.args.spot (N PerhapsPointer ∷ []) c.in_ok-parameters.six (T terminal.Close ∷ []) (B MakePointerType ∷ []) (Types c.in_ok-parameters.parameters ∷ Private c.in_ok-is_private.is_private ∷ []) c.in_err-seven.field-0.0
    (pair_path NESTING c.args.words.now c.args.spot (N PerhapsPointer ∷ []) c.in_ok-five.five (N ParameterTypes ∷ []) (T terminal.Close ∷ B MakePointerType ∷ []) (Private c.in_ok-is_private.is_private ∷ []) c.in_ok-parameters.six (Types c.in_ok-parameters.parameters ∷ []) (pair_path NESTING c.args.words.now c.args.spot (N PerhapsPointer ∷ []) c.in_ok-four.four (T terminal.Open ∷ []) (N ParameterTypes ∷ T terminal.Close ∷ B MakePointerType ∷ []) (Private c.in_ok-is_private.is_private ∷ []) c.in_ok-five.five [] (pair_path NESTING c.args.words.now c.args.spot (N PerhapsPointer ∷ []) c.in_ok-is_private.three (T terminal.Close ∷ []) (T terminal.Open ∷ N ParameterTypes ∷ T terminal.Close ∷ B MakePointerType ∷ []) (Private c.in_ok-is_private.is_private ∷ []) c.in_ok-four.four [] (pair_path NESTING c.args.words.now c.args.spot (N PerhapsPointer ∷ []) c.in_ok-two.two (N PerhapsPrivate ∷ []) (T terminal.Close ∷ T terminal.Open ∷ N ParameterTypes ∷ T terminal.Close ∷ B MakePointerType ∷ []) [] c.in_ok-is_private.three (Private c.in_ok-is_private.is_private ∷ []) (pair_path NESTING c.args.words.now c.args.spot (N PerhapsPointer ∷ []) c.in_ok-one.one (T terminal.Star ∷ []) (N PerhapsPrivate ∷ T terminal.Close ∷ T terminal.Open ∷ N ParameterTypes ∷ T terminal.Close ∷ B MakePointerType ∷ []) [] c.in_ok-two.two [] (pair_path NESTING c.args.words.now c.args.spot (N PerhapsPointer ∷ []) c.args.spot (T terminal.Open ∷ []) (T terminal.Star ∷ N PerhapsPrivate ∷ T terminal.Close ∷ T terminal.Open ∷ N ParameterTypes ∷ T terminal.Close ∷ B MakePointerType ∷ []) [] c.in_ok-one.one [] (begun_path c.args.words.now c.args.spot PerhapsPointer terminal.Open 0 (T terminal.Open ∷ T terminal.Star ∷ N PerhapsPrivate ∷ T terminal.Close ∷ T terminal.Open ∷ N ParameterTypes ∷ T terminal.Close ∷ B MakePointerType ∷ []) (λ w ws. refl) refl (lit< tt) refl (sym c.next_is.ensures ∙ c.if-not-next_is.false)) c.in_ok-one.ensures.token) c.in_ok-two.ensures.token) c.in_ok-is_private.ensures.read.leads) c.in_ok-four.ensures.token) c.in_ok-five.ensures.token) c.in_ok-parameters.ensures.read.leads) c.in_err-seven.ensures.no_token)

pub perhaps_pointer-returns-clause-read : goal.perhaps_pointer-returns-clause-read
perhaps_pointer-returns-clause-read t c = record {
  leads = build_path NESTING c.args.words.now c.args.spot (N PerhapsPointer ∷ []) c.in_ok-seven.seven MakePointerType [] (Types c.in_ok-parameters.parameters ∷ Private c.in_ok-is_private.is_private ∷ []) (OfTypeShape (type_shape.FunctionPointer c.in_ok-is_private.is_private c.in_ok-parameters.parameters) ∷ []) (λ built. refl) (pair_path NESTING c.args.words.now c.args.spot (N PerhapsPointer ∷ []) c.in_ok-parameters.six (T terminal.Close ∷ []) (B MakePointerType ∷ []) (Types c.in_ok-parameters.parameters ∷ Private c.in_ok-is_private.is_private ∷ []) c.in_ok-seven.seven [] (pair_path NESTING c.args.words.now c.args.spot (N PerhapsPointer ∷ []) c.in_ok-five.five (N ParameterTypes ∷ []) (T terminal.Close ∷ B MakePointerType ∷ []) (Private c.in_ok-is_private.is_private ∷ []) c.in_ok-parameters.six (Types c.in_ok-parameters.parameters ∷ []) (pair_path NESTING c.args.words.now c.args.spot (N PerhapsPointer ∷ []) c.in_ok-four.four (T terminal.Open ∷ []) (N ParameterTypes ∷ T terminal.Close ∷ B MakePointerType ∷ []) (Private c.in_ok-is_private.is_private ∷ []) c.in_ok-five.five [] (pair_path NESTING c.args.words.now c.args.spot (N PerhapsPointer ∷ []) c.in_ok-is_private.three (T terminal.Close ∷ []) (T terminal.Open ∷ N ParameterTypes ∷ T terminal.Close ∷ B MakePointerType ∷ []) (Private c.in_ok-is_private.is_private ∷ []) c.in_ok-four.four [] (pair_path NESTING c.args.words.now c.args.spot (N PerhapsPointer ∷ []) c.in_ok-two.two (N PerhapsPrivate ∷ []) (T terminal.Close ∷ T terminal.Open ∷ N ParameterTypes ∷ T terminal.Close ∷ B MakePointerType ∷ []) [] c.in_ok-is_private.three (Private c.in_ok-is_private.is_private ∷ []) (pair_path NESTING c.args.words.now c.args.spot (N PerhapsPointer ∷ []) c.in_ok-one.one (T terminal.Star ∷ []) (N PerhapsPrivate ∷ T terminal.Close ∷ T terminal.Open ∷ N ParameterTypes ∷ T terminal.Close ∷ B MakePointerType ∷ []) [] c.in_ok-two.two [] (pair_path NESTING c.args.words.now c.args.spot (N PerhapsPointer ∷ []) c.args.spot (T terminal.Open ∷ []) (T terminal.Star ∷ N PerhapsPrivate ∷ T terminal.Close ∷ T terminal.Open ∷ N ParameterTypes ∷ T terminal.Close ∷ B MakePointerType ∷ []) [] c.in_ok-one.one [] (begun_path c.args.words.now c.args.spot PerhapsPointer terminal.Open 0 (T terminal.Open ∷ T terminal.Star ∷ N PerhapsPrivate ∷ T terminal.Close ∷ T terminal.Open ∷ N ParameterTypes ∷ T terminal.Close ∷ B MakePointerType ∷ []) (λ w ws. refl) refl (lit< tt) refl (sym c.next_is.ensures ∙ c.if-not-next_is.false)) c.in_ok-one.ensures.token) c.in_ok-two.ensures.token) c.in_ok-is_private.ensures.read.leads) c.in_ok-four.ensures.token) c.in_ok-five.ensures.token) c.in_ok-parameters.ensures.read.leads) c.in_ok-seven.ensures.token);
  same = only_place c.args.spot c.in_ok-seven.seven (c.in_ok-parameters.six.at + 1) (place_then c.args.spot c.in_ok-parameters.six c.in_ok-seven.seven c.in_ok-parameters.six.at (c.in_ok-parameters.six.at + 1) (place_then c.args.spot c.in_ok-five.five c.in_ok-parameters.six (c.in_ok-four.four.at + 1) c.in_ok-parameters.six.at (place_then c.args.spot c.in_ok-four.four c.in_ok-five.five (c.in_ok-is_private.three.at + 1) (c.in_ok-four.four.at + 1) (place_then c.args.spot c.in_ok-is_private.three c.in_ok-four.four c.in_ok-is_private.three.at (c.in_ok-is_private.three.at + 1) (place_then c.args.spot c.in_ok-two.two c.in_ok-is_private.three (c.in_ok-one.one.at + 1) c.in_ok-is_private.three.at (place_then c.args.spot c.in_ok-one.one c.in_ok-two.two (c.args.spot.at + 1) (c.in_ok-one.one.at + 1) c.in_ok-one.ensures.place c.in_ok-two.ensures.place) c.in_ok-is_private.ensures.read.same) c.in_ok-four.ensures.place) c.in_ok-five.ensures.place) c.in_ok-parameters.ensures.read.same) c.in_ok-seven.ensures.place);
  on = omega (arith, ap (λ s. s.at) c.in_ok-one.ensures.place, ap (λ s. s.at) c.in_ok-two.ensures.place, c.in_ok-is_private.ensures.read.on, ap (λ s. s.at) c.in_ok-four.ensures.place, ap (λ s. s.at) c.in_ok-five.ensures.place, c.in_ok-parameters.ensures.read.on, ap (λ s. s.at) c.in_ok-seven.ensures.place);
  within = omega (arith, ap (λ s. s.at) c.in_ok-seven.ensures.place, c.in_ok-seven.ensures.more);
}

pub type_name-returns-in_err-specifier-clause-refused : goal.type_name-returns-in_err-specifier-clause-refused
type_name-returns-in_err-specifier-clause-refused t c =
    err_out (Breaks NESTING c.args.words.now c.args.spot (N form.TypeName ∷ [])) c.from_residual.result c.in_err-specifier.field-0.0 c.from_residual.ensures.1
    (breaks NESTING c.args.words.now c.args.spot (N form.TypeName ∷ []) c.args.spot (N Specifier ∷ []) (N Pointer ∷ N PerhapsPointer ∷ B MakeType ∷ []) [] c.in_err-specifier.field-0.0
    (rule_path NESTING c.args.words.now c.args.spot (N form.TypeName ∷ []) c.args.spot form.TypeName [] [] 0 (type_name_number (drop c.args.spot.at c.args.words.now)) (lit< tt) (begin_path NESTING c.args.words.now c.args.spot (N form.TypeName ∷ []))) c.in_err-specifier.ensures.refused)

pub type_name-returns-in_err-stars-clause-refused : goal.type_name-returns-in_err-stars-clause-refused
type_name-returns-in_err-stars-clause-refused t c =
    err_out (Breaks NESTING c.args.words.now c.args.spot (N form.TypeName ∷ [])) c.from_residual-in_err-stars.result c.in_err-stars.field-0.0 c.from_residual-in_err-stars.ensures.1
    (breaks NESTING c.args.words.now c.args.spot (N form.TypeName ∷ []) c.in_ok-specifier.one (N Pointer ∷ []) (N PerhapsPointer ∷ B MakeType ∷ []) (OfSpecifier c.in_ok-specifier.specifier ∷ []) c.in_err-stars.field-0.0
    (pair_path NESTING c.args.words.now c.args.spot (N form.TypeName ∷ []) c.args.spot (N Specifier ∷ []) (N Pointer ∷ N PerhapsPointer ∷ B MakeType ∷ []) [] c.in_ok-specifier.one (OfSpecifier c.in_ok-specifier.specifier ∷ []) (rule_path NESTING c.args.words.now c.args.spot (N form.TypeName ∷ []) c.args.spot form.TypeName [] [] 0 (type_name_number (drop c.args.spot.at c.args.words.now)) (lit< tt) (begin_path NESTING c.args.words.now c.args.spot (N form.TypeName ∷ []))) c.in_ok-specifier.ensures.read.leads) c.in_err-stars.ensures.refused)

pub type_name-returns-in_err-shape-clause-refused : goal.type_name-returns-in_err-shape-clause-refused
type_name-returns-in_err-shape-clause-refused t c =
    err_out (Breaks NESTING c.args.words.now c.args.spot (N form.TypeName ∷ [])) c.from_residual-in_err-shape.result c.in_err-shape.field-0.0 c.from_residual-in_err-shape.ensures.1
    (breaks NESTING c.args.words.now c.args.spot (N form.TypeName ∷ []) c.in_ok-stars.two (N PerhapsPointer ∷ []) (B MakeType ∷ []) (Stars c.in_ok-stars.stars ∷ OfSpecifier c.in_ok-specifier.specifier ∷ []) c.in_err-shape.field-0.0
    (pair_path NESTING c.args.words.now c.args.spot (N form.TypeName ∷ []) c.in_ok-specifier.one (N Pointer ∷ []) (N PerhapsPointer ∷ B MakeType ∷ []) (OfSpecifier c.in_ok-specifier.specifier ∷ []) c.in_ok-stars.two (Stars c.in_ok-stars.stars ∷ []) (pair_path NESTING c.args.words.now c.args.spot (N form.TypeName ∷ []) c.args.spot (N Specifier ∷ []) (N Pointer ∷ N PerhapsPointer ∷ B MakeType ∷ []) [] c.in_ok-specifier.one (OfSpecifier c.in_ok-specifier.specifier ∷ []) (rule_path NESTING c.args.words.now c.args.spot (N form.TypeName ∷ []) c.args.spot form.TypeName [] [] 0 (type_name_number (drop c.args.spot.at c.args.words.now)) (lit< tt) (begin_path NESTING c.args.words.now c.args.spot (N form.TypeName ∷ []))) c.in_ok-specifier.ensures.read.leads) c.in_ok-stars.ensures.read.leads) c.in_err-shape.ensures.refused)

pub type_name-returns-clause-read : goal.type_name-returns-clause-read
type_name-returns-clause-read t c = record {
  leads = build_path NESTING c.args.words.now c.args.spot (N form.TypeName ∷ []) c.in_ok-shape.three MakeType [] (OfTypeShape c.in_ok-shape.shape ∷ Stars c.in_ok-stars.stars ∷ OfSpecifier c.in_ok-specifier.specifier ∷ []) (OfType (record { specifier = c.in_ok-specifier.specifier; stars = c.in_ok-stars.stars; shape = c.in_ok-shape.shape }) ∷ []) (λ built. refl) (pair_path NESTING c.args.words.now c.args.spot (N form.TypeName ∷ []) c.in_ok-stars.two (N PerhapsPointer ∷ []) (B MakeType ∷ []) (Stars c.in_ok-stars.stars ∷ OfSpecifier c.in_ok-specifier.specifier ∷ []) c.in_ok-shape.three (OfTypeShape c.in_ok-shape.shape ∷ []) (pair_path NESTING c.args.words.now c.args.spot (N form.TypeName ∷ []) c.in_ok-specifier.one (N Pointer ∷ []) (N PerhapsPointer ∷ B MakeType ∷ []) (OfSpecifier c.in_ok-specifier.specifier ∷ []) c.in_ok-stars.two (Stars c.in_ok-stars.stars ∷ []) (pair_path NESTING c.args.words.now c.args.spot (N form.TypeName ∷ []) c.args.spot (N Specifier ∷ []) (N Pointer ∷ N PerhapsPointer ∷ B MakeType ∷ []) [] c.in_ok-specifier.one (OfSpecifier c.in_ok-specifier.specifier ∷ []) (rule_path NESTING c.args.words.now c.args.spot (N form.TypeName ∷ []) c.args.spot form.TypeName [] [] 0 (type_name_number (drop c.args.spot.at c.args.words.now)) (lit< tt) (begin_path NESTING c.args.words.now c.args.spot (N form.TypeName ∷ []))) c.in_ok-specifier.ensures.read.leads) c.in_ok-stars.ensures.read.leads) c.in_ok-shape.ensures.read.leads);
  same = (place_then c.args.spot c.in_ok-stars.two c.in_ok-shape.three c.in_ok-stars.two.at c.in_ok-shape.three.at (place_then c.args.spot c.in_ok-specifier.one c.in_ok-stars.two c.in_ok-specifier.one.at c.in_ok-stars.two.at c.in_ok-specifier.ensures.read.same c.in_ok-stars.ensures.read.same) c.in_ok-shape.ensures.read.same);
  on = omega (arith, c.in_ok-specifier.ensures.read.on, c.in_ok-stars.ensures.read.on, c.in_ok-shape.ensures.read.on);
  within = c.in_ok-shape.ensures.read.within;
}

pub parameter_types-returns-in_err-behind-clause-refused : goal.parameter_types-returns-in_err-behind-clause-refused
parameter_types-returns-in_err-behind-clause-refused t c =
    err_out (Breaks NESTING c.args.words.now c.args.spot (N ParameterTypes ∷ [])) c.from_residual.result c.in_err-behind.field-0.0 c.from_residual.ensures.1
    (breaks NESTING c.args.words.now c.args.spot (N ParameterTypes ∷ []) (deeper c.args.spot) (T terminal.Void ∷ []) (B (Give (Types [])) ∷ M Out ∷ []) [] c.in_err-behind.field-0.0
    (void_path c.args.words.now c.args.spot (sym c.is_bare_void.ensures ∙ c.if-is_bare_void.true)) c.in_err-behind.ensures.no_token)

pub parameter_types-returns-then-is_bare_void-clause-read : goal.parameter_types-returns-then-is_bare_void-clause-read
parameter_types-returns-then-is_bare_void-clause-read t c =
    let behind = c.in_ok-behind.behind in
    let place = c.in_ok-behind.ensures.place in
    let outside : Spot = record behind { depth = c.args.spot.depth } in
    let back : c.args.spot.depth ≡ behind.depth - 1 = omega (arith, ap (λ s. s.depth) place) in
    record {
      leads = subst (λ (types : List TypeName). Path NESTING c.args.words.now c.args.spot (N ParameterTypes ∷ []) outside [] (Types types ∷ [])) (sym c.new-types.ensures)
          (void_read c.args.words.now c.args.spot behind outside (sym c.is_bare_void.ensures ∙ c.if-is_bare_void.true) c.in_ok-behind.ensures.token (λ i. record behind { depth = back i }));
      same = λ i. record { at = behind.at; depth = c.args.spot.depth; ended = (place i).ended; stars = (place i).stars };
      on = omega (arith, ap (λ s. s.at) place);
      within = omega (arith, ap (λ s. s.at) place, c.in_ok-behind.ensures.more);
    }

pub parameter_types-returns-then-not-begins_type-clause-read : goal.parameter_types-returns-then-not-begins_type-clause-read
parameter_types-returns-then-not-begins_type-clause-read t c = record {
  leads = subst (λ (types : List TypeName). Path NESTING c.args.words.now c.args.spot (N ParameterTypes ∷ []) c.args.spot [] (Types types ∷ [])) (sym c.new-types.ensures)
      (no_types c.args.words.now c.args.spot (sym c.is_bare_void.ensures ∙ c.if-is_bare_void.false) (sym c.begins_type.ensures ∙ c.if-not-begins_type.true));
  same = refl;
  on = omega arith;
  within = c.requires.ready.within;
}

pub parameter_types-returns-in_err-first-clause-refused : goal.parameter_types-returns-in_err-first-clause-refused
parameter_types-returns-in_err-first-clause-refused t c =
    err_out (Breaks NESTING c.args.words.now c.args.spot (N ParameterTypes ∷ [])) c.from_residual-in_err-first.result c.in_err-first.field-0.0 c.from_residual-in_err-first.ensures.1
    (breaks NESTING c.args.words.now c.args.spot (N ParameterTypes ∷ []) (deeper c.args.spot) (N form.TypeName ∷ []) after_first [] c.in_err-first.field-0.0
    (list_path c.args.words.now c.args.spot (sym c.is_bare_void.ensures ∙ c.if-is_bare_void.false) (sym c.begins_type.ensures ∙ c.if-not-begins_type.false)) c.in_err-first.ensures.refused)

pub parameter_types-loop-alloc-init : goal.parameter_types-loop-alloc-init
parameter_types-loop-alloc-init t c =
    let behind = c.in_ok-first.behind in
    let read = c.in_ok-first.ensures.read in
    let pushed : c.push.new.self ≡ c.in_ok-first.first ∷ [] = c.in_ok-push.ensures.ok ∙ ap (λ l. l ++ c.in_ok-first.first ∷ []) c.new-types.ensures in
    record {
      path = subst (λ (types : List TypeName). Path NESTING c.args.words.now c.args.spot (N ParameterTypes ∷ []) behind (N MoreTypes ∷ M Out ∷ []) (Types types ∷ [])) (sym pushed)
          (first_path c.args.words.now c.args.spot behind c.in_ok-first.first (sym c.is_bare_void.ensures ∙ c.if-is_bare_void.false) (sym c.begins_type.ensures ∙ c.if-not-begins_type.false) read.leads);
      on = read.on;
      within = read.within;
      depth = ap (λ s. s.depth) read.same;
      ended = ap (λ s. s.ended) read.same;
      stars = ap (λ s. s.stars) read.same ∙ c.requires.outside;
    }

pub parameter_types-returns-in_err-behind-2-clause-refused : goal.parameter_types-returns-in_err-behind-2-clause-refused
parameter_types-returns-in_err-behind-2-clause-refused t c =
    err_out (Breaks NESTING c.args.words.now c.args.spot (N ParameterTypes ∷ [])) c.from_residual-in_err-behind-2.result c.in_err-behind-2.field-0.0 c.from_residual-in_err-behind-2.ensures.1
    (breaks NESTING c.args.words.now c.args.spot (N ParameterTypes ∷ []) c.loop-alloc.here (T terminal.Comma ∷ []) after_comma (Types c.loop-alloc.types ∷ []) c.in_err-behind-2.field-0.0
    (comma_path c.args.words.now c.args.spot c.loop-alloc.here c.loop-alloc.types (sym c.next_is.ensures ∙ c.loop-alloc-test.true) c.loop-alloc.invariant.path) c.in_err-behind-2.ensures.no_token)

pub parameter_types-returns-in_err-next-clause-refused : goal.parameter_types-returns-in_err-next-clause-refused
parameter_types-returns-in_err-next-clause-refused t c =
    err_out (Breaks NESTING c.args.words.now c.args.spot (N ParameterTypes ∷ [])) c.from_residual-in_err-next.result c.in_err-next.field-0.0 c.from_residual-in_err-next.ensures.1
    (breaks NESTING c.args.words.now c.args.spot (N ParameterTypes ∷ []) c.in_ok-behind-2.behind (N form.TypeName ∷ []) (B Push ∷ N MoreTypes ∷ M Out ∷ []) (Types c.loop-alloc.types ∷ []) c.in_err-next.field-0.0
    (after_comma_path c.args.words.now c.args.spot c.loop-alloc.here c.in_ok-behind-2.behind c.loop-alloc.types (sym c.next_is.ensures ∙ c.loop-alloc-test.true) c.loop-alloc.invariant.path c.in_ok-behind-2.ensures.token) c.in_err-next.ensures.refused)

pub parameter_types-loop-alloc-preserved : goal.parameter_types-loop-alloc-preserved
parameter_types-loop-alloc-preserved t c =
    let here = c.loop-alloc.here in
    let types = c.loop-alloc.types in
    let behind = c.in_ok-behind-2.behind in
    let to = c.in_ok-next.behind in
    let place = c.in_ok-behind-2.ensures.place in
    let read = c.in_ok-next.ensures.read in
    let known = c.loop-alloc.invariant in
    record {
      path = subst (λ (l : List TypeName). Path NESTING c.args.words.now c.args.spot (N ParameterTypes ∷ []) to (N MoreTypes ∷ M Out ∷ []) (Types l ∷ [])) (sym c.in_ok-push-2.ensures.ok)
          (next_path c.args.words.now c.args.spot behind to types c.in_ok-next.next (after_comma_path c.args.words.now c.args.spot here behind types (sym c.next_is.ensures ∙ c.loop-alloc-test.true) known.path c.in_ok-behind-2.ensures.token) read.leads);
      on = omega (arith, read.on, ap (λ s. s.at) place, known.on);
      within = read.within;
      depth = ap (λ s. s.depth) read.same ∙ ap (λ s. s.depth) place ∙ known.depth;
      ended = ap (λ s. s.ended) read.same ∙ ap (λ s. s.ended) place ∙ known.ended;
      stars = ap (λ s. s.stars) read.same ∙ ap (λ s. s.stars) place ∙ known.stars;
    }

pub parameter_types-returns-clause-read : goal.parameter_types-returns-clause-read
parameter_types-returns-clause-read t c =
    let here = c.loop-alloc.here in
    let known = c.loop-alloc.invariant in
    let outside : Spot = record here { depth = c.args.spot.depth } in
    let back : c.args.spot.depth ≡ here.depth - 1 = omega (arith, known.depth) in
    record {
      leads = list_end c.args.words.now c.args.spot here outside c.loop-alloc.types (sym c.next_is.ensures ∙ c.loop-alloc-test.false) (λ i. record here { depth = back i }) known.path;
      same = λ i. record { at = here.at; depth = c.args.spot.depth; ended = known.ended i; stars = (known.stars ∙ sym c.requires.outside) i };
      on = known.on;
      within = known.within;
    }
