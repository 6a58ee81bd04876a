use Rattle.std.proofs.Common.{◌≡◌, ◌∙◌, arith, ap, length, List, ℕ}
use Rattle.cv_word.specs.GateStep.{World}
use Rattle.cv_word.proofs.ItemLemmas.{length-items_at}
use Rattle.trusted_stubs.proofs.work.write_public.Goals as goal

pub append-requires : goal.append-requires
append-requires c =
    let long : length c.range-bytes.result.now ≡ c.args.a.second =
    ap (λ (l : List ℕ). length l) c.range-bytes.ensures ∙ length-items_at c.args.segs.now.public c.args.a.first c.args.a.second in
    let same : length c.world.inside.public_output ≡ length c.args.world.now.visible.public_output = ap (λ (w : World). length w.visible.public_output) c.world.view_is in
    omega (arith, c.requires.room)
