use Rattle.std.proofs.Common.{List, [], ◌∷◌, ◌+◌, refl, sym, ap, subst, ◌∙◌, arith}
use Rattle.c_ast.specs.declared.program.Star.{Star}
use Rattle.c_parser.specs.declared.spot.TheConstants.{NESTING}
use Rattle.c_grammar.specs.declared.words.Terminal.TheVariants as terminal
use Rattle.c_grammar.specs.Grammar.{N, T, M, B, Pointer, MoreStars, PerhapsPrivate, ForgetStars}
use Rattle.c_grammar.specs.Steps.{Stars, Push}
use Rattle.c_parser.specs.Paths.{Breaks, Path}
use Rattle.c_parser.proofs.PathLemmas.{breaks, err_out}
use Rattle.c_parser.proofs.TypeLemmas.{after_star, pointer_begin, star_next, star_marked, star_pushed, pointer_end}
use Rattle.c_parser.proofs.types.pointer.Goals as goal

pub loop-here-init : goal.loop-here-init
loop-here-init c = record {
  path = subst (λ (stars : List Star). Path NESTING c.args.words.now c.args.spot (N Pointer ∷ []) c.args.spot (N MoreStars ∷ M ForgetStars ∷ []) (Stars stars ∷ [])) (sym c.new-stars.ensures)
      (pointer_begin c.args.words.now c.args.spot);
  on = omega arith;
  within = c.requires.ready.within;
  depth = refl;
  ended = refl;
  few = omega (arith, c.requires.outside);
}

pub returns-in_err-behind-clause-refused : goal.returns-in_err-behind-clause-refused
returns-in_err-behind-clause-refused c =
    let words = c.args.words.now in
    let spot = c.args.spot in
    let here = c.loop-here.here in
    let stars = c.loop-here.stars in
    err_out (Breaks NESTING words spot (N Pointer ∷ [])) c.from_residual.result c.in_err-behind.field-0.0 c.from_residual.ensures.1
    (breaks NESTING words spot (N Pointer ∷ []) here (T terminal.Star ∷ []) after_star (Stars stars ∷ []) c.in_err-behind.field-0.0
    (star_next words spot here stars (sym c.next_is.ensures ∙ c.loop-here-test.true) c.loop-here.invariant.path) c.in_err-behind.ensures.no_token)

pub returns-in_err-is_private-clause-refused : goal.returns-in_err-is_private-clause-refused
returns-in_err-is_private-clause-refused c =
    let words = c.args.words.now in
    let spot = c.args.spot in
    let here = c.loop-here.here in
    let stars = c.loop-here.stars in
    let behind = c.in_ok-behind.behind in
    let marked = record behind { stars = behind.stars + 1 } in
    err_out (Breaks NESTING words spot (N Pointer ∷ [])) c.from_residual-in_err-is_private.result c.in_err-is_private.field-0.0 c.from_residual-in_err-is_private.ensures.1
    (breaks NESTING words spot (N Pointer ∷ []) marked (N PerhapsPrivate ∷ []) (B Push ∷ N MoreStars ∷ M ForgetStars ∷ []) (Stars stars ∷ []) c.in_err-is_private.field-0.0
    (star_marked words spot here behind marked stars (sym c.next_is.ensures ∙ c.loop-here-test.true) c.loop-here.invariant.path c.in_ok-behind.ensures.token refl)
    c.in_err-is_private.ensures.refused)

pub loop-here-preserved : goal.loop-here-preserved
loop-here-preserved c =
    let words = c.args.words.now in
    let spot = c.args.spot in
    let here = c.loop-here.here in
    let stars = c.loop-here.stars in
    let behind = c.in_ok-behind.behind in
    let marked = record behind { stars = behind.stars + 1 } in
    let to = c.in_ok-is_private.behind in
    let read = c.in_ok-is_private.ensures.read in
    let place = c.in_ok-behind.ensures.place in
    let path = star_pushed words spot marked to stars c.in_ok-is_private.is_private
    (star_marked words spot here behind marked stars (sym c.next_is.ensures ∙ c.loop-here-test.true) c.loop-here.invariant.path c.in_ok-behind.ensures.token refl) read.leads in
    record {
      path = subst (λ (l : List Star). Path NESTING words spot (N Pointer ∷ []) to (N MoreStars ∷ M ForgetStars ∷ []) (Stars l ∷ [])) (sym c.in_ok-push.ensures.ok) path;
      on = omega (arith, read.on, ap (λ s. s.at) place, c.loop-here.invariant.on);
      within = read.within;
      depth = ap (λ s. s.depth) read.same ∙ ap (λ s. s.depth) place ∙ c.loop-here.invariant.depth;
      ended = ap (λ s. s.ended) read.same ∙ ap (λ s. s.ended) place ∙ c.loop-here.invariant.ended;
      few = omega (arith, ap (λ s. s.stars) read.same, ap (λ s. s.stars) place, c.in_ok-behind.ensures.nesting);
    }

pub returns-clause-read : goal.returns-clause-read
returns-clause-read c =
    let words = c.args.words.now in
    let spot = c.args.spot in
    let here = c.loop-here.here in
    record {
      leads = pointer_end words spot here c.loop-here.stars (sym c.next_is.ensures ∙ c.loop-here-test.false) c.loop-here.invariant.path;
      same = λ i. record { at = here.at; depth = c.loop-here.invariant.depth i; ended = c.loop-here.invariant.ended i; stars = sym c.requires.outside i };
      on = c.loop-here.invariant.on;
      within = c.loop-here.invariant.within;
    }
