use Rattle.std.proofs.Common.{map, is_ok, ap, ◌∙◌}
use Rattle.std.proofs.ResultArms.{chosen}
use Rattle.std.proofs.lemmas.List.{drop_more}
use Rattle.c_parser.proofs.TellingLemmas.{nothing_told, told_next, all_told, AllTold}
use Rattle.c_parser.proofs.tokens_words.words_of.Goals as goal
use Rattle.c_parser.proofs.tokens_words.words_of.Goals.{After-loop-index}

pub loop-index-init : goal.loop-index-init
loop-index-init c = rw (c.new-words.ensures.items, c.new-seen.ensures.empty, c.new-strings.ensures) (nothing_told c.args.source.now c.args.tokens.now)

pub loop-index-preserved : goal.loop-index-preserved
loop-index-preserved c =
    let pushed = chosen _ _ _ _ c.push.ensures.items (ap is_ok c.in_ok-push.was) in
    rw pushed (told_next c.args.source.now c.args.tokens.now c.loop-index.index _ c.loop-index.words.items (map (λ k. k.now) c.loop-index.seen.keys) c.loop-index.strings
    (map (λ k. k.now) c.word_of.new.names.keys) c.word_of.new.strings c.in_ok-word.word
    (drop_more c.args.tokens.now c.loop-index.index _ c.loop-index-test.true) c.loop-index.invariant
    c.in_ok-word.ensures.names c.in_ok-word.ensures.strings c.in_ok-word.ensures.word)

told : (c : After-loop-index) → AllTold c.args.source.now c.args.tokens.now c.loop-index.words.items (map (λ k. k.now) c.loop-index.seen.keys) c.loop-index.strings
told c = all_told c.args.source.now c.args.tokens.now c.loop-index.index c.loop-index.words.items (map (λ k. k.now) c.loop-index.seen.keys) c.loop-index.strings c.loop-index-test.false c.loop-index.invariant

pub returns-clause-words : goal.returns-clause-words
returns-clause-words c = (told (goal.at.returns-clause-words c).After-loop-index).words

pub returns-clause-names : goal.returns-clause-names
returns-clause-names c = c.in_ok-names.ensures ∙ ap (map (λ k. k.now)) c.as_slice.ensures.keys ∙ (told (goal.at.returns-clause-names c).After-loop-index).names

pub returns-clause-strings : goal.returns-clause-strings
returns-clause-strings c = (told (goal.at.returns-clause-strings c).After-loop-index).strings
