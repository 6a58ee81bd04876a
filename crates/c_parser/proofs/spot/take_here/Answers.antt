use Rattle.std.proofs.Common.{[], ◌∷◌, ◌-◌, length, sym, subst}
use Rattle.std.proofs.lemmas.Option.{get_or_from_slice_get}
use Rattle.c_grammar.specs.declared.words.Word.{Word}
use Rattle.c_parser.specs.declared.spot.TheConstants.{NESTING}
use Rattle.c_parser.specs.declared.errors.ParseError.{ParseError}
use Rattle.c_grammar.specs.Grammar.{Here, T}
use Rattle.c_grammar.specs.Steps.{Place}
use Rattle.c_grammar.specs.Descent.{Faults}
use Rattle.c_parser.specs.Paths.{Path, Breaks}
use Rattle.c_parser.proofs.PathLemmas.{no_word, here_path, nowhere_stop, break_path}
use Rattle.c_parser.proofs.Chains.{starts, read, exits}
use Rattle.c_parser.proofs.spot.take_here.Goals as goal

pub returns-then-spot-words-clause-refused : goal.returns-then-spot-words-clause-refused
returns-then-spot-words-clause-refused c =
    subst (λ (e : ParseError). Breaks NESTING c.args.words.now c.args.spot (Here ∷ T c.args.wanted ∷ []) e) (sym c.fault.ensures) (
      c.requires.within,
      break_path NESTING c.args.words.now c.args.spot (Here ∷ T c.args.wanted ∷ []) c.args.spot (Here ∷ []) (T c.args.wanted ∷ []) [] (Faults (length c.args.words.now - c.args.spot.at))
          (starts c.args.words.now c.args.spot (Here ∷ T c.args.wanted ∷ [])) (nowhere_stop NESTING c.args.words.now c.args.spot c.if-spot-words.true),
    )

pub returns-in_err-word-clause-refused : goal.returns-in_err-word-clause-refused
returns-in_err-word-clause-refused c =
    let p = here_path NESTING c.args.words.now c.args.spot (Here ∷ T c.args.wanted ∷ []) c.args.spot (T c.args.wanted ∷ []) [] c.if-spot-words.false (starts c.args.words.now c.args.spot (Here ∷ T c.args.wanted ∷ [])) in
    exits (T c.args.wanted ∷ []) _ c.from_residual.result c.in_err-word.field-0.0 c.from_residual.ensures.1 p c.in_err-word.ensures.no_token

pub returns-clause-read : goal.returns-clause-read
returns-clause-read c =
    let p = here_path NESTING c.args.words.now c.args.spot (Here ∷ T c.args.wanted ∷ []) c.args.spot (T c.args.wanted ∷ []) [] c.if-spot-words.false (starts c.args.words.now c.args.spot (Here ∷ T c.args.wanted ∷ [])) in
    subst (λ (w : Word). Path NESTING c.args.words.now c.args.spot (Here ∷ T c.args.wanted ∷ []) c.in_ok-word.behind [] (Place w.place ∷ []))
    (get_or_from_slice_get c.args.words.now c.args.spot.at c.in_ok-word.word no_word c.in_ok-word.ensures.word) (read c.in_ok-word.ensures.token p)
