-- Bytes under a pad, from the first on.
use Rattle.std.proofs.Common.{◌≡◌, ℕ, ◌+◌, ◌<◌, ◌≤◌, List, [], ◌∷◌, ◌++◌, length, get_or, take, slice_set, bit_xor, min, arith, sym, ap, ◌∙◌, add-one}
use Rattle.std.proofs.Math.Seq.{take-suc, take-suc-set}
use Rattle.std.proofs.lemmas.List.{get_or-map, length-map, take_all}
use Rattle.std.proofs.lemmas.Slice.Zip.{get_or-zip, length-zip}
use Rattle.std.specs.List.{zip}
use Rattle.cv_io.specs.Xored.{xored}

length-xored : (from pad : List ℕ) → length from ≤ length pad → length (xored from pad) ≡ length from
length-xored from pad enough =
    let all : length (xored from pad) ≡ length (zip from pad) = length-map (zip from pad) (λ pair. bit_xor pair.0 pair.1) in
    let both : length (zip from pad) ≡ min (length from) (length pad) = length-zip from pad in
    omega arith

get_or-xored : (from pad : List ℕ) (i : ℕ) → i < length from → length from ≤ length pad → get_or (xored from pad) i 0 ≡ bit_xor (get_or from i 0) (get_or pad i 0)
get_or-xored from pad i within enough =
    let both : length (zip from pad) ≡ min (length from) (length pad) = length-zip from pad in
    get_or-map (λ pair. bit_xor pair.0 pair.1) (zip from pad) i (0, 0) 0 (omega arith)
    ∙ ap (λ pair. bit_xor pair.0 pair.1) (get_or-zip from pad i (0, 0) within (omega arith))

-- one more byte
pub xored-more : (from pad to : List ℕ) (i : ℕ) → i < length from → length from ≤ length pad → i < length to → take i to ≡ take i (xored from pad) → take (i + 1) (slice_set to i (bit_xor (get_or from i 0) (get_or pad i 0))) ≡ take (i + 1) (xored from pad)
xored-more from pad to i within enough room so_far =
    let whole : length (xored from pad) ≡ length from = length-xored from pad enough in
    rw add-one
    (take-suc-set to i _ room
    ∙ ap (λ front. front ++ bit_xor (get_or from i 0) (get_or pad i 0) ∷ []) so_far
    ∙ ap (λ byte. take i (xored from pad) ++ byte ∷ []) (sym (get_or-xored from pad i within enough))
    ∙ sym (take-suc (xored from pad) i 0 (omega arith)))

-- all bytes
pub xored-all : (from pad to : List ℕ) (i : ℕ) → length from ≤ i → length from ≤ length pad → length from ≡ length to → take i to ≡ take i (xored from pad) → to ≡ xored from pad
xored-all from pad to i done enough same so_far =
    let whole : length (xored from pad) ≡ length from = length-xored from pad enough in
    sym (take_all i to (omega arith)) ∙ so_far ∙ take_all i (xored from pad) (omega arith)
