use Rattle.std.proofs.Common.{drop, sym, ap, ◌∙◌}
use Rattle.std.proofs.lemmas.List.{drop_all}
use Rattle.c_grammar.specs.Ways.{is_bare_void}
use Rattle.c_parser.proofs.TypeNameLemmas.{bare_void_next, no_void}
use Rattle.c_parser.proofs.types.is_bare_void.Goals as goal

pub returns-then-at-words : goal.returns-then-at-words
returns-then-at-words c = sym (ap is_bare_void (drop_all c.args.at c.args.words.now c.if-at-words.true))

pub returns-then-not-next_is : goal.returns-then-not-next_is
returns-then-not-next_is c = sym (no_void (drop c.args.at c.args.words.now) (sym c.next_is.ensures ∙ c.if-not-next_is.true))

pub returns : goal.returns
returns c = c.next_is-2.ensures ∙ sym (bare_void_next c.args.words.now c.args.at (sym c.next_is.ensures ∙ c.if-not-next_is.false))
