use Rattle.std.proofs.Common.{List, [], ◌∷◌, ◌≡◌, drop, true, false, refl, sym, ap, ◌∙◌, arith, lit<}
use Rattle.c_parser.specs.declared.spot.TheConstants.{NESTING}
use Rattle.c_grammar.specs.declared.words.Terminal.TheVariants as terminal
use Rattle.c_grammar.specs.declared.words.Word.{Word}
use Rattle.c_parser.specs.declared.spot.Spot.{Spot}
use Rattle.c_grammar.specs.Grammar.{N, T, B, PerhapsPrivate}
use Rattle.c_parser.specs.Paths.{Breaks, Path, next_is}
use Rattle.c_grammar.specs.Steps.{Private, Give}
use Rattle.c_parser.proofs.PathLemmas.{begin_path, rule_path, pair_path, build_path, breaks, err_out}
use Rattle.c_parser.proofs.NumberLemmas.{number_else}
use Rattle.c_parser.proofs.types.perhaps_private.Goals as goal

-- with a `private` next, the first way
first_way : (words : List Word) (spot : Spot) → next_is (drop spot.at words) terminal.Private ≡ true
    → Path NESTING words spot (N PerhapsPrivate ∷ []) spot (T terminal.Private ∷ B (Give (Private true)) ∷ []) []
first_way words spot h =
    rule_path NESTING words spot (N PerhapsPrivate ∷ []) spot PerhapsPrivate [] [] 0
    (number_else PerhapsPrivate terminal.Private (λ w ws. refl) refl (drop spot.at words) true h) (lit< tt) (begin_path NESTING words spot (N PerhapsPrivate ∷ []))

pub returns-in_err-behind-clause-refused : goal.returns-in_err-behind-clause-refused
returns-in_err-behind-clause-refused c =
    err_out (Breaks NESTING c.args.words.now c.args.spot (N PerhapsPrivate ∷ [])) c.from_residual.result c.in_err-behind.field-0.0 c.from_residual.ensures.1
    (breaks NESTING c.args.words.now c.args.spot (N PerhapsPrivate ∷ []) c.args.spot (T terminal.Private ∷ []) (B (Give (Private true)) ∷ []) [] c.in_err-behind.field-0.0
    (first_way c.args.words.now c.args.spot (sym c.next_is.ensures ∙ c.if-next_is.true)) c.in_err-behind.ensures.no_token)

pub returns-in_ok-behind-clause-read : goal.returns-in_ok-behind-clause-read
returns-in_ok-behind-clause-read c =
    let words = c.args.words.now in
    let spot = c.args.spot in
    let all = N PerhapsPrivate ∷ [] in
    let behind = c.in_ok-behind.behind in
    let place = c.in_ok-behind.ensures.place in
    let taken = pair_path NESTING words spot all spot (T terminal.Private ∷ []) (B (Give (Private true)) ∷ []) [] behind []
    (first_way words spot (sym c.next_is.ensures ∙ c.if-next_is.true)) c.in_ok-behind.ensures.token in
    record {
      leads = build_path NESTING words spot all behind (Give (Private true)) [] [] (Private true ∷ []) (λ built. refl) taken;
      same = place ∙ ap (λ i. record spot { at = i }) (sym (ap (λ s. s.at) place));
      on = omega (arith, ap (λ s. s.at) place);
      within = omega (arith, ap (λ s. s.at) place, c.in_ok-behind.ensures.more);
    }

pub returns-else-next_is-clause-read : goal.returns-else-next_is-clause-read
returns-else-next_is-clause-read c =
    let words = c.args.words.now in
    let spot = c.args.spot in
    let all = N PerhapsPrivate ∷ [] in
    let number = number_else PerhapsPrivate terminal.Private (λ w ws. refl) refl (drop spot.at words) false (sym c.next_is.ensures ∙ c.if-next_is.false) in
    record {
      leads = build_path NESTING words spot all spot (Give (Private false)) [] [] (Private false ∷ []) (λ built. refl)
          (rule_path NESTING words spot all spot PerhapsPrivate [] [] 1 number (lit< tt) (begin_path NESTING words spot all));
      same = refl;
      on = omega arith;
      within = c.requires.within;
    }
