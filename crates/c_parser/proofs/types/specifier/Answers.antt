use Rattle.std.proofs.Common.{[], ◌∷◌, ◌-◌, length, sym, subst, arith}
use Rattle.c_parser.specs.declared.spot.TheConstants.{NESTING}
use Rattle.c_grammar.specs.Grammar.{N, B, Here, Specifier, PerhapsPrivate, BaseType}
use Rattle.c_grammar.specs.Descent.{Faults}
use Rattle.c_grammar.specs.Steps.{Place, Private, OfBase, MakeSpecifier}
use Rattle.c_parser.specs.Paths.{Breaks}
use Rattle.c_parser.proofs.PathLemmas.{break_path, breaks, err_out, nowhere_stop}
use Rattle.c_parser.proofs.FormLemmas.{place_then}
use Rattle.c_parser.proofs.TypeLemmas.{place_of, specifier_rule, specifier_here, specifier_front, specifier_base, specifier_path}
use Rattle.c_parser.proofs.types.specifier.Goals as goal

pub returns-then-spot-words-clause-refused : goal.returns-then-spot-words-clause-refused
returns-then-spot-words-clause-refused c =
    let words = c.args.words.now in
    let spot = c.args.spot in
    subst (Breaks NESTING words spot (N Specifier ∷ [])) (sym c.fault.ensures) (
      c.requires.within,
      break_path NESTING words spot (N Specifier ∷ []) spot (Here ∷ []) (N PerhapsPrivate ∷ N BaseType ∷ N PerhapsPrivate ∷ B MakeSpecifier ∷ []) []
          (Faults (length words - spot.at)) (specifier_rule words spot) (nowhere_stop NESTING words spot c.if-spot-words.true),
    )

pub returns-in_err-front-clause-refused : goal.returns-in_err-front-clause-refused
returns-in_err-front-clause-refused c =
    let words = c.args.words.now in
    let spot = c.args.spot in
    err_out (Breaks NESTING words spot (N Specifier ∷ [])) c.from_residual.result c.in_err-front.field-0.0 c.from_residual.ensures.1
    (breaks NESTING words spot (N Specifier ∷ []) spot (N PerhapsPrivate ∷ []) (N BaseType ∷ N PerhapsPrivate ∷ B MakeSpecifier ∷ []) (Place (place_of words spot) ∷ [])
    c.in_err-front.field-0.0 (specifier_here words spot c.if-spot-words.false) c.in_err-front.ensures.refused)

pub returns-in_err-base-clause-refused : goal.returns-in_err-base-clause-refused
returns-in_err-base-clause-refused c =
    let words = c.args.words.now in
    let spot = c.args.spot in
    err_out (Breaks NESTING words spot (N Specifier ∷ [])) c.from_residual-in_err-base.result c.in_err-base.field-0.0 c.from_residual-in_err-base.ensures.1
    (breaks NESTING words spot (N Specifier ∷ []) c.in_ok-front.behind (N BaseType ∷ []) (N PerhapsPrivate ∷ B MakeSpecifier ∷ []) (Private c.in_ok-front.front ∷ Place (place_of words spot) ∷ [])
    c.in_err-base.field-0.0 (specifier_front words spot c.in_ok-front.behind c.in_ok-front.front c.if-spot-words.false c.in_ok-front.ensures.read.leads) c.in_err-base.ensures.refused)

pub returns-in_err-after-clause-refused : goal.returns-in_err-after-clause-refused
returns-in_err-after-clause-refused c =
    let words = c.args.words.now in
    let spot = c.args.spot in
    err_out (Breaks NESTING words spot (N Specifier ∷ [])) c.from_residual-in_err-after.result c.in_err-after.field-0.0 c.from_residual-in_err-after.ensures.1
    (breaks NESTING words spot (N Specifier ∷ []) c.in_ok-base.behind (N PerhapsPrivate ∷ []) (B MakeSpecifier ∷ []) (OfBase c.in_ok-base.base ∷ Private c.in_ok-front.front ∷ Place (place_of words spot) ∷ [])
    c.in_err-after.field-0.0
    (specifier_base words spot c.in_ok-front.behind c.in_ok-base.behind c.in_ok-front.front c.in_ok-base.base c.if-spot-words.false c.in_ok-front.ensures.read.leads c.in_ok-base.ensures.read.leads)
    c.in_err-after.ensures.refused)

pub returns-clause-read : goal.returns-clause-read
returns-clause-read c =
    let words = c.args.words.now in
    let spot = c.args.spot in
    let one = c.in_ok-front.behind in
    let two = c.in_ok-base.behind in
    let to = c.in_ok-after.behind in
    let to_two = place_then spot one two one.at two.at c.in_ok-front.ensures.read.same c.in_ok-base.ensures.read.same in
    record {
      leads = specifier_path words spot one two to c.in_ok-front.front c.in_ok-base.base c.in_ok-after.after c.if-spot-words.false
          c.in_ok-front.ensures.read.leads c.in_ok-base.ensures.read.leads c.in_ok-after.ensures.read.leads;
      same = place_then spot two to two.at to.at to_two c.in_ok-after.ensures.read.same;
      on = omega (arith, c.in_ok-front.ensures.read.on, c.in_ok-base.ensures.read.on, c.in_ok-after.ensures.read.on);
      within = c.in_ok-after.ensures.read.within;
    }
