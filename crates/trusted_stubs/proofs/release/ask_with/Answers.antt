use Rattle.std.proofs.Common.{◌≡◌, ◌∙◌, arith, ap, length}
use Rattle.cv_word.proofs.ItemLemmas.{length-items_at}
use Rattle.trusted_stubs.proofs.ReleaseLemmas.{Asks-whole}
use Rattle.trusted_stubs.proofs.release.ask_with.Goals as goal

pub ask_front-requires-clause-room : goal.ask_front-requires-clause-room
ask_front-requires-clause-room g c =
    let long : length c.range.result.now ≡ c.args.a.third = ap length c.range.ensures ∙ length-items_at c.args.segs.now.private c.args.a.first c.args.a.third in
    let same : length c.deref_mut.result.now ≡ length c.args.answer.now.items = ap length c.deref_mut.ensures.value in
    omega (arith, c.requires.room)

pub returns-clause-asks : goal.returns-clause-asks
returns-clause-asks g c =
    let long : length c.range.result.now ≡ c.args.a.third = ap length c.range.ensures ∙ length-items_at c.args.segs.now.private c.args.a.first c.args.a.third in
    let same : length c.deref_mut.result.now ≡ length c.args.answer.now.items = ap length c.deref_mut.ensures.value in
    Asks-whole c.ask_front.result c.args.a.fourth c.range.result.now _ c.ask_front.new.to c.args.answer.now.items c.args.a.third c.args.answer.now.len _ _
    c.range.ensures long (omega (arith, c.ask_front.ensures.length)) (omega (arith, c.deref_mut.ensures.len)) c.ask_front.ensures.asks
