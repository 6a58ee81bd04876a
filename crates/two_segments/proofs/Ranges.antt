-- Ranges of a list.
use Rattle.std.proofs.Common.{◌≡◌, ℕ, ◌+◌, ◌-◌, ◌≤◌, List, [], length, take, drop, refl, sym, ◌∙◌, ap, arith}
use Rattle.std.proofs.lemmas.Grind.{common_steps}
use Rattle.cv_word.specs.Memory.{items_at}
use Rattle.cv_word.specs.Words.{spliced}
use Rattle.cv_word.proofs.ItemLemmas.{items_at-inside}

pub no_items : (xs : List ℕ) (at count : ℕ) → count ≡ 0 → [] ≡ items_at xs at count
unfolding items_at
no_items xs at count none = rw none refl

pub sliced : (xs : List ℕ) (at count : ℕ) → at + count ≤ length xs → take (at + count - at) (drop at xs) ≡ items_at xs at count
sliced xs at count h =
    let e : at + count - at ≡ count = omega arith in
    ap (λ (n : ℕ). take n (drop at xs)) e ∙ sym (items_at-inside count xs at h)

spliced-nothing : (xs : List ℕ) (at : ℕ) → xs ≡ spliced xs at []
spliced-nothing xs at = grind (arith, common_steps)

pub spliced_none : (xs source : List ℕ) (at from count : ℕ) → count ≡ 0 → xs ≡ spliced xs at (items_at source from count)
spliced_none xs source at from count none =
    let nothing : [] ≡ items_at source from count = no_items source from count none in
    spliced-nothing xs at ∙ ap (λ (l : List ℕ). spliced xs at l) nothing
