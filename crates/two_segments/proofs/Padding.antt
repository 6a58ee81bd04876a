-- A list of zeros into which some bytes are written.
use Rattle.std.proofs.Common.{◌≡◌, ℕ, ◌+◌, ◌≤◌, List, ◌++◌, length, take, drop, replicate, refl, arith}
use Rattle.std.proofs.lemmas.Grind.{common_steps}
use Rattle.std.proofs.lemmas.List.{take-replicate, drop-replicate}
use Rattle.cv_word.specs.Words.{spliced}
use Rattle.cv_word.specs.Memory.{padded}

pub spliced_zeros : (before size : ℕ) (bytes : List ℕ) → before + length bytes ≤ size
    → spliced (replicate size 0) before bytes ≡ padded before size bytes
unfolding padded
spliced_zeros before size bytes h =
    let small : before ≤ size = omega arith in
    rw (take-replicate {X = ℕ} before size 0 small, drop-replicate {X = ℕ} (before + length bytes) size 0) refl

-- what a list is after all of its places were written
pub kept : (n : ℕ) (old new : List ℕ) → n ≡ length old → length new ≡ length old → take n (new ++ drop (length new) old) ≡ new
kept n old new e f = grind (arith, common_steps)
