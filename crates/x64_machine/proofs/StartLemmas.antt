-- The memory and the heaps at the start.
use Rattle.std.proofs.Common.{◌≡◌, ◌∙◌, sym, ap, ℕ, zero, suc, ◌+◌, ◌-◌, ◌*◌, ◌/◌, ◌%◌, ◌≤◌, List, ◌++◌, length, take, drop, replicate, refl, arith, Result, Ok, Err, append_assoc}
use Rattle.std.proofs.lemmas.List.{append-nil}
use Rattle.std.proofs.lemmas.Grind.{common_steps}
use Rattle.std.specs.Prelude.{IfOk}
use Rattle.cv_word.specs.declared.no_memory.NoMemory.{NoMemory}
use Rattle.cv_word.specs.Memory.{Memory, items_at, padded, start_memory}
use Rattle.cv_word.proofs.ItemLemmas.{length-items_at, items_at-padded}

-- ---- start bytes

all_items : (xs : List ℕ) (count : ℕ) → length xs ≤ count → xs ++ replicate (count - length xs) 0 ≡ items_at xs 0 count
all_items xs count h =
    let whole : take (length xs) (drop 0 xs) ≡ xs = grind (arith, common_steps) in
    ap (λ (l : List ℕ). l ++ replicate (count - length xs) 0) (sym whole)
    ∙ items_at-padded xs 0 count 0 (length xs) (omega arith) (omega arith)

-- start bytes and zeros, as many as a segment has
pub same_padded : (before size : ℕ) (xs : List ℕ) → before + length xs ≤ size → padded before size xs ≡ padded before size (items_at xs 0 (size - before))
unfolding padded
same_padded before size xs h =
    let count : ℕ = size - before in
    let items : List ℕ = items_at xs 0 count in
    let front : List ℕ = replicate before 0 in
    let long : length items ≡ count = length-items_at xs 0 count in
    let none : size - (before + length items) ≡ 0 = omega (arith, long) in
    let rest : size - (before + length xs) ≡ count - length xs = omega arith in
    ap (λ (n : ℕ). front ++ xs ++ replicate n 0) rest
    ∙ append_assoc front xs (replicate (count - length xs) 0)
    ∙ ap (λ (l : List ℕ). front ++ l) (all_items xs count (omega arith))
    ∙ sym (append-nil (front ++ items))
    ∙ ap (λ (n : ℕ). front ++ items ++ replicate n 0) (sym none)

abbrev with_private : ℕ → List ℕ → List ℕ → List ℕ → Memory
with_private size code public private = record { size = size; code = code; public = public; private = private }

pub started : (size : ℕ) (code public private : List ℕ) (result : Result Memory NoMemory) → 4096 + length private ≤ size →
    IfOk result (λ s. s ≡ start_memory size code public private) → IfOk result (λ s. s ≡ start_memory size code public (items_at private 0 (size - 4096)))
started size code public private (Ok s) h e =
    e ∙ ap (λ (l : List ℕ). with_private size code (padded 4096 size public) l) (same_padded 4096 size private h)
started size code public private (Err error) h e = tt

-- ---- heaps

-- stacks of a multiple of 16 bytes have a multiple of 16 bytes together
pub stacks_aligned : (count size : ℕ) → size % 16 ≡ 0 → (count * size) % 16 ≡ 0
stacks_aligned zero size h = let none : 0 * size ≡ 0 = omega arith in rw (none) refl
stacks_aligned (suc count) size h =
    let rest = stacks_aligned count size h in
    let more : suc count * size ≡ size + count * size = omega arith in
    rw (more) (omega (arith, rest))

pub heap_ends : (count stacks size : ℕ) → stacks % 16 ≡ 0 → size % 4096 ≡ 0 → 4096 + count + stacks ≤ size →
    ((4096 + count + 15) / 16 * 16 ≤ size - stacks) × ((size - stacks) % 16 ≡ 0)
heap_ends count stacks size a b h = (omega arith, omega arith)
