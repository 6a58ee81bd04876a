use Rattle.std.proofs.Common.{sym, ◌∙◌, arith}
use Rattle.std.proofs.lemmas.Option.{slice_get-get_or}
use Rattle.c_parser.specs.declared.spot.TheConstants.{NESTING}
use Rattle.c_grammar.specs.Grammar.{T, L}
use Rattle.c_grammar.specs.Descent.{plain, valued}
use Rattle.c_parser.proofs.PathLemmas.{no_word, next_word, token_path, leaf_path, deep_stop, no_word_stop}
use Rattle.c_parser.proofs.spot.take.Goals as goal

pub returns-then-not-next_is-clause-no_token : goal.returns-then-not-next_is-clause-no_token
returns-then-not-next_is-clause-no_token c =
    (c.requires.within, no_word_stop NESTING c.args.words.now c.args.spot (T c.args.wanted) c.args.wanted _ (plain c.args.wanted) (sym c.next_is.ensures ∙ c.if-not-next_is.true))

pub returns-then-not-next_is-clause-no_leaf : goal.returns-then-not-next_is-clause-no_leaf
returns-then-not-next_is-clause-no_leaf c =
    (c.requires.within, no_word_stop NESTING c.args.words.now c.args.spot (L c.args.wanted) c.args.wanted _ (valued c.args.wanted) (sym c.next_is.ensures ∙ c.if-not-next_is.true))

pub returns-then-spot-gt-NESTING-clause-no_token : goal.returns-then-spot-gt-NESTING-clause-no_token
returns-then-spot-gt-NESTING-clause-no_token c =
    (c.requires.within, deep_stop NESTING c.args.words.now c.args.spot (T c.args.wanted) c.args.wanted _ (plain c.args.wanted) (sym c.next_is.ensures ∙ c.if-not-next_is.false) (omega arith))

pub returns-then-spot-gt-NESTING-clause-no_leaf : goal.returns-then-spot-gt-NESTING-clause-no_leaf
returns-then-spot-gt-NESTING-clause-no_leaf c =
    (c.requires.within, deep_stop NESTING c.args.words.now c.args.spot (L c.args.wanted) c.args.wanted _ (valued c.args.wanted) (sym c.next_is.ensures ∙ c.if-not-next_is.false) (omega arith))

pub returns-clause-token : goal.returns-clause-token
returns-clause-token c = token_path NESTING c.args.words.now c.args.spot c.args.wanted (sym c.next_is.ensures ∙ c.if-not-next_is.false) (omega arith)

pub returns-clause-leaf : goal.returns-clause-leaf
returns-clause-leaf c = leaf_path NESTING c.args.words.now c.args.spot c.args.wanted (sym c.next_is.ensures ∙ c.if-not-next_is.false) (omega arith)

pub returns-clause-word : goal.returns-clause-word
returns-clause-word c =
    slice_get-get_or c.args.words.now c.args.spot.at no_word (next_word c.args.words.now c.args.spot.at c.args.wanted (sym c.next_is.ensures ∙ c.if-not-next_is.false)).below
