use Rattle.std.proofs.Common.{ℕ, ◌-◌, List, ◌++◌, length, take, replicate, ◌∙◌, ap}
use Rattle.cv_word.proofs.ItemLemmas.{filled}
use Rattle.cv_word.proofs.items.copy_items.Goals as goal

pub returns : goal.returns
returns c =
    let have : ℕ = c.min-count.result in
    c.clear.ensures ∙ ap (λ (l : List ℕ). take have l ++ replicate (length l - have) 0) c.put_front.ensures
    ∙ filled c.args.out.now c.args.source.now c.args.from c.min-start.result have c.min-start.ensures c.min-count.ensures
