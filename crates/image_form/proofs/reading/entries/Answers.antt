use Rattle.std.proofs.Common.{◌*◌, drop, arith}
use Rattle.std.proofs.lemmas.List.{drop-drop}
use Rattle.image_form.proofs.Numbers.{numbers_more}
use Rattle.image_form.proofs.reading.entries.Goals as goal

pub loop-k-preserved : goal.loop-k-preserved
loop-k-preserved c =
    let more = numbers_more c.loop-k.k (drop 40 c.args.bytes.now) in
    let at = drop-drop (4 * c.loop-k.k) 40 c.args.bytes.now in
    (cc, omega arith)
