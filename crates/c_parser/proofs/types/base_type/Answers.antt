use Rattle.std.proofs.Common.{[], ◌∷◌, ◌+◌, ◌-◌, length, drop, refl, sym, ap, subst, ◌∙◌, arith, lit<}
use Rattle.c_ast.specs.declared.program.Base.TheVariants as base
use Rattle.c_parser.specs.declared.spot.TheConstants.{NESTING}
use Rattle.c_grammar.specs.declared.words.Terminal.TheVariants as terminal
use Rattle.c_grammar.specs.declared.words.Terminal.TheVariants.{Name, Char, Int, Long, Void, Struct}
use Rattle.c_grammar.specs.Grammar.{N, T, L, B, BaseType}
use Rattle.c_grammar.specs.Descent.{plain, Faults}
use Rattle.c_parser.specs.Paths.{Breaks}
use Rattle.c_grammar.specs.Steps.{OfBase, Leaf, Give, MakeStruct}
use Rattle.c_parser.proofs.PathLemmas.{begin_path, rule_path, pair_path, build_path, break_path, breaks, err_out, no_word_stop}
use Rattle.c_parser.proofs.FormLemmas.{only_place, place_then, begun_path, word_parses, base_none}
use Rattle.c_parser.proofs.types.base_type.Goals as goal

pub returns-in_err-behind-clause-refused : goal.returns-in_err-behind-clause-refused
returns-in_err-behind-clause-refused c =
    err_out (Breaks NESTING c.args.words.now c.args.spot (N BaseType ∷ [])) c.from_residual.result c.in_err-behind.field-0.0 c.from_residual.ensures.1
    (breaks NESTING c.args.words.now c.args.spot (N BaseType ∷ []) c.args.spot (T terminal.Char ∷ []) (B (Give (OfBase base.Char)) ∷ []) [] c.in_err-behind.field-0.0
    (begun_path c.args.words.now c.args.spot BaseType terminal.Char 0 (T terminal.Char ∷ B (Give (OfBase base.Char)) ∷ []) (λ w ws. refl) refl (lit< tt) refl (sym c.next_is.ensures ∙ c.if-next_is.true)) c.in_err-behind.ensures.no_token)

pub returns-in_err-behind-2-clause-refused : goal.returns-in_err-behind-2-clause-refused
returns-in_err-behind-2-clause-refused c =
    err_out (Breaks NESTING c.args.words.now c.args.spot (N BaseType ∷ [])) c.from_residual-in_err-behind-2.result c.in_err-behind-2.field-0.0 c.from_residual-in_err-behind-2.ensures.1
    (breaks NESTING c.args.words.now c.args.spot (N BaseType ∷ []) c.args.spot (T terminal.Int ∷ []) (B (Give (OfBase base.Int)) ∷ []) [] c.in_err-behind-2.field-0.0
    (begun_path c.args.words.now c.args.spot BaseType terminal.Int 1 (T terminal.Int ∷ B (Give (OfBase base.Int)) ∷ []) (λ w ws. refl) refl (lit< tt) refl (sym c.next_is-else-next_is.ensures ∙ c.if-next_is-2.true)) c.in_err-behind-2.ensures.no_token)

pub returns-in_err-behind-3-clause-refused : goal.returns-in_err-behind-3-clause-refused
returns-in_err-behind-3-clause-refused c =
    err_out (Breaks NESTING c.args.words.now c.args.spot (N BaseType ∷ [])) c.from_residual-in_err-behind-3.result c.in_err-behind-3.field-0.0 c.from_residual-in_err-behind-3.ensures.1
    (breaks NESTING c.args.words.now c.args.spot (N BaseType ∷ []) c.args.spot (T terminal.Long ∷ []) (B (Give (OfBase base.Long)) ∷ []) [] c.in_err-behind-3.field-0.0
    (begun_path c.args.words.now c.args.spot BaseType terminal.Long 2 (T terminal.Long ∷ B (Give (OfBase base.Long)) ∷ []) (λ w ws. refl) refl (lit< tt) refl (sym c.next_is-else-next_is-2.ensures ∙ c.if-next_is-3.true)) c.in_err-behind-3.ensures.no_token)

pub returns-in_err-behind-4-clause-refused : goal.returns-in_err-behind-4-clause-refused
returns-in_err-behind-4-clause-refused c =
    err_out (Breaks NESTING c.args.words.now c.args.spot (N BaseType ∷ [])) c.from_residual-in_err-behind-4.result c.in_err-behind-4.field-0.0 c.from_residual-in_err-behind-4.ensures.1
    (breaks NESTING c.args.words.now c.args.spot (N BaseType ∷ []) c.args.spot (T terminal.Void ∷ []) (B (Give (OfBase base.Void)) ∷ []) [] c.in_err-behind-4.field-0.0
    (begun_path c.args.words.now c.args.spot BaseType terminal.Void 3 (T terminal.Void ∷ B (Give (OfBase base.Void)) ∷ []) (λ w ws. refl) refl (lit< tt) refl (sym c.next_is-else-next_is-3.ensures ∙ c.if-next_is-4.true)) c.in_err-behind-4.ensures.no_token)

pub returns-in_err-behind-5-clause-refused : goal.returns-in_err-behind-5-clause-refused
returns-in_err-behind-5-clause-refused c =
    err_out (Breaks NESTING c.args.words.now c.args.spot (N BaseType ∷ [])) c.from_residual-in_err-behind-5.result c.in_err-behind-5.field-0.0 c.from_residual-in_err-behind-5.ensures.1
    (breaks NESTING c.args.words.now c.args.spot (N BaseType ∷ []) c.args.spot (T terminal.Struct ∷ []) (L Name ∷ B MakeStruct ∷ []) [] c.in_err-behind-5.field-0.0
    (begun_path c.args.words.now c.args.spot BaseType terminal.Struct 4 (T Struct ∷ L Name ∷ B MakeStruct ∷ []) (λ w ws. refl) refl (lit< tt) refl (sym c.next_is-else-next_is-4.ensures ∙ c.if-next_is-5.true)) c.in_err-behind-5.ensures.no_token)

pub returns-in_ok-behind-clause-read : goal.returns-in_ok-behind-clause-read
returns-in_ok-behind-clause-read c =
    word_parses c.args.words.now c.args.spot c.in_ok-behind.behind BaseType terminal.Char (OfBase base.Char)
    (begun_path c.args.words.now c.args.spot BaseType terminal.Char 0 (T terminal.Char ∷ B (Give (OfBase base.Char)) ∷ []) (λ w ws. refl) refl (lit< tt) refl (sym c.next_is.ensures ∙ c.if-next_is.true))
    c.in_ok-behind.ensures.token c.in_ok-behind.ensures.place c.in_ok-behind.ensures.more

pub returns-in_ok-behind-2-clause-read : goal.returns-in_ok-behind-2-clause-read
returns-in_ok-behind-2-clause-read c =
    word_parses c.args.words.now c.args.spot c.in_ok-behind-2.behind BaseType terminal.Int (OfBase base.Int)
    (begun_path c.args.words.now c.args.spot BaseType terminal.Int 1 (T terminal.Int ∷ B (Give (OfBase base.Int)) ∷ []) (λ w ws. refl) refl (lit< tt) refl (sym c.next_is-else-next_is.ensures ∙ c.if-next_is-2.true))
    c.in_ok-behind-2.ensures.token c.in_ok-behind-2.ensures.place c.in_ok-behind-2.ensures.more

pub returns-in_ok-behind-3-clause-read : goal.returns-in_ok-behind-3-clause-read
returns-in_ok-behind-3-clause-read c =
    word_parses c.args.words.now c.args.spot c.in_ok-behind-3.behind BaseType terminal.Long (OfBase base.Long)
    (begun_path c.args.words.now c.args.spot BaseType terminal.Long 2 (T terminal.Long ∷ B (Give (OfBase base.Long)) ∷ []) (λ w ws. refl) refl (lit< tt) refl (sym c.next_is-else-next_is-2.ensures ∙ c.if-next_is-3.true))
    c.in_ok-behind-3.ensures.token c.in_ok-behind-3.ensures.place c.in_ok-behind-3.ensures.more

pub returns-in_ok-behind-4-clause-read : goal.returns-in_ok-behind-4-clause-read
returns-in_ok-behind-4-clause-read c =
    word_parses c.args.words.now c.args.spot c.in_ok-behind-4.behind BaseType terminal.Void (OfBase base.Void)
    (begun_path c.args.words.now c.args.spot BaseType terminal.Void 3 (T terminal.Void ∷ B (Give (OfBase base.Void)) ∷ []) (λ w ws. refl) refl (lit< tt) refl (sym c.next_is-else-next_is-3.ensures ∙ c.if-next_is-4.true))
    c.in_ok-behind-4.ensures.token c.in_ok-behind-4.ensures.place c.in_ok-behind-4.ensures.more

pub returns-in_err-word-clause-refused : goal.returns-in_err-word-clause-refused
returns-in_err-word-clause-refused c =
    let words = c.args.words.now in
    let spot = c.args.spot in
    let middle = c.in_ok-behind-5.behind in
    err_out (Breaks NESTING words spot (N BaseType ∷ [])) c.from_residual-in_err-word.result c.in_err-word.field-0.0 c.from_residual-in_err-word.ensures.1
    (breaks NESTING words spot (N BaseType ∷ []) middle (L Name ∷ []) (B MakeStruct ∷ []) [] c.in_err-word.field-0.0
    (pair_path NESTING words spot (N BaseType ∷ []) spot (T Struct ∷ []) (L Name ∷ B MakeStruct ∷ []) [] middle []
    (begun_path c.args.words.now c.args.spot BaseType terminal.Struct 4 (T Struct ∷ L Name ∷ B MakeStruct ∷ []) (λ w ws. refl) refl (lit< tt) refl (sym c.next_is-else-next_is-4.ensures ∙ c.if-next_is-5.true)) c.in_ok-behind-5.ensures.token) c.in_err-word.ensures.no_leaf)

pub returns-in_ok-word-clause-read : goal.returns-in_ok-word-clause-read
returns-in_ok-word-clause-read c =
    let words = c.args.words.now in
    let spot = c.args.spot in
    let middle = c.in_ok-behind-5.behind in
    let word = c.in_ok-word.word in
    let behind = c.in_ok-word.behind in
    let first = pair_path NESTING words spot (N BaseType ∷ []) spot (T Struct ∷ []) (L Name ∷ B MakeStruct ∷ []) [] middle []
    (begun_path c.args.words.now c.args.spot BaseType terminal.Struct 4 (T Struct ∷ L Name ∷ B MakeStruct ∷ []) (λ w ws. refl) refl (lit< tt) refl (sym c.next_is-else-next_is-4.ensures ∙ c.if-next_is-5.true)) c.in_ok-behind-5.ensures.token in
    let second = pair_path NESTING words spot (N BaseType ∷ []) middle (L Name ∷ []) (B MakeStruct ∷ []) [] behind (Leaf word.place word.value ∷ []) first c.in_ok-word.ensures.leaf in
    let place = place_then spot middle behind (spot.at + 1) (middle.at + 1) c.in_ok-behind-5.ensures.place c.in_ok-word.ensures.place in
    record {
      leads = build_path NESTING words spot (N BaseType ∷ []) behind MakeStruct [] (Leaf word.place word.value ∷ []) (OfBase (base.Struct word.value word.place) ∷ []) (λ built. refl) second;
      same = only_place spot behind (middle.at + 1) place;
      on = omega (arith, ap (λ s. s.at) place, ap (λ s. s.at) c.in_ok-behind-5.ensures.place);
      within = omega (arith, ap (λ s. s.at) place, c.in_ok-word.ensures.more);
    }

pub returns-else-next_is-5-clause-refused : goal.returns-else-next_is-5-clause-refused
returns-else-next_is-5-clause-refused c =
    let words = c.args.words.now in
    let spot = c.args.spot in
    let number = base_none (drop spot.at words) (sym c.next_is.ensures ∙ c.if-next_is.false) (sym c.next_is-else-next_is.ensures ∙ c.if-next_is-2.false) (sym c.next_is-else-next_is-2.ensures ∙ c.if-next_is-3.false) (sym c.next_is-else-next_is-3.ensures ∙ c.if-next_is-4.false) (sym c.next_is-else-next_is-4.ensures ∙ c.if-next_is-5.false) in
    let path = rule_path NESTING words spot (N BaseType ∷ []) spot BaseType [] [] 0 number (lit< tt) (begin_path NESTING words spot (N BaseType ∷ [])) in
    subst (Breaks NESTING words spot (N BaseType ∷ [])) (sym c.fault.ensures) (
      c.requires.within,
      break_path NESTING words spot (N BaseType ∷ []) spot (T Char ∷ []) (B (Give (OfBase base.Char)) ∷ []) [] (Faults (length words - spot.at)) path
          (no_word_stop NESTING words spot (T Char) Char _ (plain Char) (sym c.next_is.ensures ∙ c.if-next_is.false)),
    )
