use Rattle.std.proofs.Common.{arith}
use Rattle.type_text.proofs.Measures.{levels_in, one_part}
use Rattle.type_text.proofs.texts.+types.Goals as goal

pub put_further-put_type-requires : goal.put_further-put_type-requires
put_further-put_type-requires t c =
    let part = one_part levels_in c.args.params.now c.loop-ty.ty-index c.ty-item.result c.loop-ty-test.true c.ty-item.is in
    (omega (arith, c.decreases), tt)
