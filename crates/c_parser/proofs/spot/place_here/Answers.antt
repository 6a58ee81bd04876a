use Rattle.std.proofs.Common.{[], ◌∷◌, sym, subst}
use Rattle.c_parser.specs.declared.spot.TheConstants.{NESTING}
use Rattle.c_parser.specs.declared.errors.ParseError.{ParseError}
use Rattle.c_grammar.specs.Grammar.{Here}
use Rattle.c_parser.specs.Paths.{Breaks}
use Rattle.c_parser.proofs.PathLemmas.{here_path, nowhere_stop}
use Rattle.c_parser.proofs.Chains.{starts}
use Rattle.c_parser.proofs.spot.place_here.Goals as goal

pub returns-then-spot-words-clause-refused : goal.returns-then-spot-words-clause-refused
returns-then-spot-words-clause-refused c =
    subst (λ (e : ParseError). Breaks NESTING c.args.words.now c.args.spot (Here ∷ []) e) (sym c.fault.ensures)
    (c.requires.within, nowhere_stop NESTING c.args.words.now c.args.spot c.if-spot-words.true)

pub returns-clause-read : goal.returns-clause-read
returns-clause-read c = here_path NESTING c.args.words.now c.args.spot (Here ∷ []) c.args.spot [] [] c.if-spot-words.false (starts c.args.words.now c.args.spot (Here ∷ []))
