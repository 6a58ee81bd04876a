use Rattle.std.proofs.Common.{rules, ◌≡◌, ◌∙◌, ap, List, ℕ, length}
use Rattle.cv_word.specs.Words.{spliced}
use Rattle.two_segments.proofs.Padding.{kept, spliced_zeros}
use Rattle.two_segments.proofs.segments.fill.Goals as goal

pub returns-clause-bytes : goal.returns-clause-bytes
returns-clause-bytes c =
    let whole : c.in_ok-bytes.bytes.len ≡ length c.in_ok-bytes.bytes.items = search rules in
    let same : length c.place.new.out ≡ length c.in_ok-bytes.bytes.items = search rules in
    kept c.in_ok-bytes.bytes.len c.in_ok-bytes.bytes.items c.place.new.out whole same ∙ c.place.ensures
    ∙ ap (λ (l : List ℕ). spliced l 4096 c.args.start.now) (c.deref_mut.ensures.value ∙ c.in_ok-bytes.ensures)
    ∙ spliced_zeros 4096 c.args.size c.args.start.now c.requires
