-- Bytes of a number, as one more is written.
use Rattle.std.proofs.Common.{◌≡◌, ℕ, suc, ◌+◌, ◌-◌, ◌<◌, ◌≤◌, ◌/◌, ◌%◌, List, [], ◌∷◌, ◌++◌, sym, ap, ◌∙◌, arith}
use Rattle.std.proofs.lemmas.List.{append_assoc, append-nil}
use Rattle.cv_word.specs.Words.{word_bytes}

pub bytes_next : (bs next : List ℕ) (count i rest : ℕ) (all : List ℕ) → i < count → next ≡ bs ++ rest % 256 ∷ [] → bs ++ word_bytes (count - i) rest ≡ all
    → next ++ word_bytes (count - (i + 1)) (rest / 256) ≡ all
bytes_next bs next count i rest all within pushed before =
    let on : count - i ≡ suc (count - (i + 1)) = omega (arith, within) in
    rw pushed (append_assoc bs (rest % 256 ∷ []) (word_bytes (count - (i + 1)) (rest / 256)) ∙ ap (λ n. bs ++ word_bytes n rest) (sym on) ∙ before)

pub bytes_end : (bs : List ℕ) (count i rest : ℕ) (all : List ℕ) → count ≤ i → bs ++ word_bytes (count - i) rest ≡ all → bs ≡ all
bytes_end bs count i rest all past before =
    let none : count - i ≡ 0 = omega (arith, past) in
    sym (append-nil bs) ∙ ap (λ n. bs ++ word_bytes n rest) (sym none) ∙ before
