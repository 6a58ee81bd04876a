use Rattle.std.proofs.Common.{refl, take}
use Rattle.cv_word.proofs.ItemLemmas.{length-items_at}
use Rattle.cv_word.specs.GateStep.{private_range}
use Rattle.cv_word.specs.Memory.{range_read}
use Rattle.cv_io.specs.declared.releaser.TrustFault.{TrustFault}
use Rattle.trusted_stubs.specs.Worlds.{world_of}
use Rattle.trusted_stubs.proofs.ReleaseLemmas.{answered_release, failed_release, long_answer}
use Rattle.trusted_stubs.proofs.release.release.Goals as goal

pub returns-in-Ok : goal.returns-in-Ok
returns-in-Ok g c =
    let a = c.args.a in
    let told = take a.third c.ask_with.new.answer.items in
    answered_release TrustFault c.in-Ok.field-0 a (range_read c.args.segs.now (private_range a.first a.third)) told c.args.segs.now c.publish.new.segs (world_of c.world.inside) c.args.world.now c.publish.new.audit
    _ _ c.world.view_is (long_answer a c.args.world.now c.ask_with.new.answer.items c.world.inside.answer.items c.requires.served.within c.ask_with.ensures.length c.world.invariant.buffer)
    c.in-Ok.ensures.asks c.publish.ensures.memory c.publish.ensures.audit

pub returns-in-Err : goal.returns-in-Err
returns-in-Err g c =
    let a = c.args.a in
    failed_release c.in-Err.fault c.in-Err.fault a (range_read c.args.segs.now (private_range a.first a.third)) (take a.third c.ask_with.new.answer.items) c.args.segs.now c.args.segs.now
    c.args.world.now (world_of c.world.inside) _ _ (length-items_at c.args.segs.now.private a.first a.third) c.in-Err.ensures.asks refl c.world.view_is
