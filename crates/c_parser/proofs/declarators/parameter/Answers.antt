use Rattle.std.proofs.Common.{[], ◌∷◌, drop, refl, arith, lit<}
use Rattle.c_parser.specs.declared.spot.TheConstants.{NESTING}
use Rattle.c_grammar.specs.Grammar as form
use Rattle.c_parser.specs.Paths.{Breaks}
use Rattle.c_parser.proofs.PathLemmas.{begin_path, rule_path, pair_path, build_path, breaks, err_out}
use Rattle.c_parser.proofs.FormLemmas.{only_place, place_then}
use Rattle.c_grammar.specs.Grammar.{Symbol, N, T, L, B, Specifier}
use Rattle.c_grammar.specs.Steps.{OfSpecifier, OfDeclarator, OfParameter, MakeParameter}
use Rattle.c_parser.proofs.DeclaratorLemmas.{parameter_number}
use Rattle.c_parser.proofs.declarators.parameter.Goals as goal

pub returns-in_err-specifier-clause-refused : goal.returns-in_err-specifier-clause-refused
returns-in_err-specifier-clause-refused c =
    err_out (Breaks NESTING c.args.words.now c.args.spot (N form.Parameter ∷ [])) c.from_residual.result c.in_err-specifier.field-0.0 c.from_residual.ensures.1
    (breaks NESTING c.args.words.now c.args.spot (N form.Parameter ∷ []) c.args.spot (N Specifier ∷ []) (N form.Declarator ∷ B MakeParameter ∷ []) [] c.in_err-specifier.field-0.0
    (rule_path NESTING c.args.words.now c.args.spot (N form.Parameter ∷ []) c.args.spot form.Parameter [] [] 0 (parameter_number (drop c.args.spot.at c.args.words.now)) (lit< tt) (begin_path NESTING c.args.words.now c.args.spot (N form.Parameter ∷ []))) c.in_err-specifier.ensures.refused)

pub returns-in_err-declarator-clause-refused : goal.returns-in_err-declarator-clause-refused
returns-in_err-declarator-clause-refused c =
    err_out (Breaks NESTING c.args.words.now c.args.spot (N form.Parameter ∷ [])) c.from_residual-in_err-declarator.result c.in_err-declarator.field-0.0 c.from_residual-in_err-declarator.ensures.1
    (breaks NESTING c.args.words.now c.args.spot (N form.Parameter ∷ []) c.in_ok-specifier.one (N form.Declarator ∷ []) (B MakeParameter ∷ []) (OfSpecifier c.in_ok-specifier.specifier ∷ []) c.in_err-declarator.field-0.0
    (pair_path NESTING c.args.words.now c.args.spot (N form.Parameter ∷ []) c.args.spot (N Specifier ∷ []) (N form.Declarator ∷ B MakeParameter ∷ []) [] c.in_ok-specifier.one (OfSpecifier c.in_ok-specifier.specifier ∷ []) (rule_path NESTING c.args.words.now c.args.spot (N form.Parameter ∷ []) c.args.spot form.Parameter [] [] 0 (parameter_number (drop c.args.spot.at c.args.words.now)) (lit< tt) (begin_path NESTING c.args.words.now c.args.spot (N form.Parameter ∷ []))) c.in_ok-specifier.ensures.read.leads) c.in_err-declarator.ensures.refused)

pub returns-clause-read : goal.returns-clause-read
returns-clause-read c = record {
  leads = build_path NESTING c.args.words.now c.args.spot (N form.Parameter ∷ []) c.in_ok-declarator.two MakeParameter [] (OfDeclarator c.in_ok-declarator.declarator ∷ OfSpecifier c.in_ok-specifier.specifier ∷ []) (OfParameter (record { specifier = c.in_ok-specifier.specifier; declarator = c.in_ok-declarator.declarator }) ∷ []) (λ built. refl) (pair_path NESTING c.args.words.now c.args.spot (N form.Parameter ∷ []) c.in_ok-specifier.one (N form.Declarator ∷ []) (B MakeParameter ∷ []) (OfSpecifier c.in_ok-specifier.specifier ∷ []) c.in_ok-declarator.two (OfDeclarator c.in_ok-declarator.declarator ∷ []) (pair_path NESTING c.args.words.now c.args.spot (N form.Parameter ∷ []) c.args.spot (N Specifier ∷ []) (N form.Declarator ∷ B MakeParameter ∷ []) [] c.in_ok-specifier.one (OfSpecifier c.in_ok-specifier.specifier ∷ []) (rule_path NESTING c.args.words.now c.args.spot (N form.Parameter ∷ []) c.args.spot form.Parameter [] [] 0 (parameter_number (drop c.args.spot.at c.args.words.now)) (lit< tt) (begin_path NESTING c.args.words.now c.args.spot (N form.Parameter ∷ []))) c.in_ok-specifier.ensures.read.leads) c.in_ok-declarator.ensures.read.leads);
  same = only_place c.args.spot c.in_ok-declarator.two c.in_ok-declarator.two.at (place_then c.args.spot c.in_ok-specifier.one c.in_ok-declarator.two c.in_ok-specifier.one.at c.in_ok-declarator.two.at c.in_ok-specifier.ensures.read.same c.in_ok-declarator.ensures.read.same);
  on = omega (arith, c.in_ok-specifier.ensures.read.on, c.in_ok-declarator.ensures.read.on);
  within = c.in_ok-declarator.ensures.read.within;
}
