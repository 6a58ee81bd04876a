-- The definitions at heaps small enough to follow by hand.
use Rattle.std.proofs.Common.{◌≡◌, ℕ, ◌-◌, ◌^◌, true, false, Some, None, List, [], ◌∷◌, replicate, refl}
use Rattle.cv_word.specs.Heap.{Span, Heap, fresh_heap, block_size, hole_for, taken_at, after_take, block_at, gives, after_give}

abbrev span : ℕ → ℕ → Span
span at len = record { at = at; len = len }

abbrev heap : List Span → List Span → Heap
heap holes blocks = record { holes = holes; blocks = blocks }

-- ---- 48 bytes from 4096 on

fresh : fresh_heap 4096 4144 ≡ heap (span 4096 48 ∷ []) []
fresh = refl

-- 17 bytes take 32, the front of the one hole
take_17 : taken_at (heap (span 4096 48 ∷ []) []) 17 ≡ Some 4096
unfolding taken_at hole_for
take_17 = refl

after_17 : after_take (heap (span 4096 48 ∷ []) []) 17 ≡ heap (span 4128 16 ∷ []) (span 4096 32 ∷ [])
unfolding after_take hole_for
after_17 = refl

-- 16 bytes take the rest: no hole is left
take_16 : taken_at (heap (span 4128 16 ∷ []) (span 4096 32 ∷ [])) 16 ≡ Some 4128
unfolding taken_at hole_for
take_16 = refl

after_16 : after_take (heap (span 4128 16 ∷ []) (span 4096 32 ∷ [])) 16 ≡ heap [] (span 4096 32 ∷ span 4128 16 ∷ [])
unfolding after_take hole_for
after_16 = refl

take_1 : taken_at (heap [] (span 4096 32 ∷ span 4128 16 ∷ [])) 1 ≡ None
unfolding taken_at hole_for
take_1 = refl

after_1 : after_take (heap [] (span 4096 32 ∷ span 4128 16 ∷ [])) 1 ≡ heap [] (span 4096 32 ∷ span 4128 16 ∷ [])
unfolding after_take hole_for
after_1 = refl

-- 4100 is inside a block and begins none
give_4100 : gives (heap [] (span 4096 32 ∷ span 4128 16 ∷ [])) 4100 ≡ false
unfolding gives block_at
give_4100 = refl

after_4100 : after_give (heap [] (span 4096 32 ∷ span 4128 16 ∷ [])) 4100 ≡ heap [] (span 4096 32 ∷ span 4128 16 ∷ [])
unfolding after_give block_at
after_4100 = refl

give_4096 : gives (heap [] (span 4096 32 ∷ span 4128 16 ∷ [])) 4096 ≡ true
unfolding gives block_at
give_4096 = refl

after_4096 : after_give (heap [] (span 4096 32 ∷ span 4128 16 ∷ [])) 4096 ≡ heap (span 4096 32 ∷ []) (span 4128 16 ∷ [])
unfolding after_give block_at
after_4096 = refl

take_0 : taken_at (heap (span 4096 32 ∷ []) (span 4128 16 ∷ [])) 0 ≡ None
unfolding taken_at hole_for
take_0 = refl

take_33 : taken_at (heap (span 4096 32 ∷ []) (span 4128 16 ∷ [])) 33 ≡ None
unfolding taken_at hole_for
take_33 = refl

take_32 : taken_at (heap (span 4096 32 ∷ []) (span 4128 16 ∷ [])) 32 ≡ Some 4096
unfolding taken_at hole_for
take_32 = refl

-- ---- a block between two holes: three become one; the first hole that fits, and not the best

merges : after_give (heap (span 16 16 ∷ span 48 16 ∷ span 80 32 ∷ []) (span 32 16 ∷ span 64 16 ∷ [])) 64 ≡ heap (span 16 16 ∷ span 48 64 ∷ []) (span 32 16 ∷ [])
unfolding after_give block_at
merges = refl

first : taken_at (heap (span 16 16 ∷ span 48 64 ∷ span 128 32 ∷ []) []) 32 ≡ Some 48
unfolding taken_at hole_for
first = refl

middle : after_take (heap (span 16 32 ∷ span 80 64 ∷ []) (span 48 32 ∷ span 144 16 ∷ [])) 33 ≡ heap (span 16 32 ∷ span 128 16 ∷ []) (span 48 32 ∷ span 80 48 ∷ span 144 16 ∷ [])
unfolding after_take hole_for
middle = refl

-- ---- 4096 blocks out, and no more

full : taken_at (heap (span 69632 65536 ∷ []) (replicate 4096 (span 4096 16))) 1 ≡ None
unfolding taken_at hole_for
full = refl

nearly_full : taken_at (heap (span 69632 65536 ∷ []) (replicate 4095 (span 4096 16))) 1 ≡ Some 69632
unfolding taken_at hole_for
nearly_full = refl

-- ---- requests near 2 ^ 64 are rounded as plain numbers

rounded_up : block_size (2 ^ 64 - 1) ≡ 2 ^ 64
rounded_up = refl

too_large : taken_at (heap (span 4096 48 ∷ []) []) (2 ^ 64 - 1) ≡ None
unfolding taken_at hole_for
too_large = refl
