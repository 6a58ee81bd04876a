use Rattle.std.proofs.Common.{List, ◌<◌, ◌^◌, length, sym, subst, ◌∙◌}
use Rattle.c_grammar.specs.declared.words.Word.{Word}
use Rattle.c_parser.specs.Paths.{AreBounded}
use Rattle.c_parser.proofs.BoundLemmas.{words_bounded, words_short}
use Rattle.c_parser.proofs.parsing.parse.Goals as goal

pub items_of-requires-clause-short : goal.items_of-requires-clause-short
items_of-requires-clause-short c =
    subst (λ (ws : List Word). length ws < 2 ^ 32) (sym (c.as_slice.ensures.value ∙ c.in-Ok.ensures.words))
    (words_short c.args.source.now c.args.tokens.now c.requires.short (c.tokens_lie_in_source.ensures c.args.source.now c.args.tokens.now c.requires.whole))

pub items_of-requires-clause-bounded : goal.items_of-requires-clause-bounded
items_of-requires-clause-bounded c =
    subst AreBounded (sym (c.as_slice.ensures.value ∙ c.in-Ok.ensures.words))
    (words_bounded c.args.source.now c.args.tokens.now c.requires.short (c.tokens_lie_in_source.ensures c.args.source.now c.args.tokens.now c.requires.whole))
