use Rattle.std.proofs.Common.{refl}
use Rattle.c_parser.proofs.NameLemmas.{copied_next, copied_all}
use Rattle.c_parser.proofs.tokens_words.texts_of.Goals as goal

pub loop-index-init : goal.loop-index-init
loop-index-init c = rw c.new-texts.ensures refl

pub loop-index-preserved : goal.loop-index-preserved
loop-index-preserved c =
    rw (c.in_ok-push.ensures.ok, c.from_vec.ensures, c.in_ok-extend_from_slice.ensures.items, c.new-bytes.ensures.items)
    (copied_next (λ k. k.now) c.args.seen.now c.loop-index.index _ c.loop-index.texts c.loop-index-test.true c.loop-index.invariant)

pub returns : goal.returns
returns c = copied_all (λ k. k.now) c.args.seen.now c.loop-index.index c.loop-index.texts c.loop-index-test.false c.loop-index.invariant
