-- Lists of bytes and the numbers that they spell; which writes leave bytes.
use Rattle.std.proofs.Common.{◌≡◌, ℕ, zero, suc, ◌+◌, ◌*◌, ◌/◌, ◌%◌, ◌^◌, ◌<◌, ◌≤◌, List, [], ◌∷◌, ◌++◌, length, take, drop, replicate, refl, sym, ◌∙◌, ap, subst, arith, inl, inr, length-take}
use Rattle.std.proofs.lemmas.Bool.{cases_lt}
use Rattle.std.proofs.lemmas.List.{get_or-take, get_or-drop, get_or_past, get_or-replicate, length-replicate}
use Rattle.std.proofs.Math.Nat.{pow-suc, pow-le-pow_right}
use Rattle.cv_word.specs.Words.{AreBytes, little_endian, word_bytes, spliced}
use Rattle.cv_word.specs.Arithmetic.{inverted}
use Rattle.code_sweep.specs.Units.{inverse}

-- ---- lists of bytes

pub tail_bytes : (b : ℕ) (bs : List ℕ) → AreBytes (b ∷ bs) → AreBytes bs
tail_bytes b bs are i = are (suc i)

pub cons_bytes : (b : ℕ) (bs : List ℕ) → b < 256 → AreBytes bs → AreBytes (b ∷ bs)
cons_bytes b bs small are zero = small
cons_bytes b bs small are (suc i) = are i

pub drop_bytes : (n : ℕ) (bs : List ℕ) → AreBytes bs → AreBytes (drop n bs)
drop_bytes n bs are i = subst (λ x. x < 256) (sym (get_or-drop n bs i 0)) (are (n + i))

pub take_bytes : (n : ℕ) (bs : List ℕ) → AreBytes bs → AreBytes (take n bs)
take_bytes n bs are i =
    elim (cases_lt i n) [
      | inl inside ↦ subst (λ x. x < 256) (sym (get_or-take n bs i 0 inside)) (are i)
      | inr past ↦ subst (λ x. x < 256) (sym (get_or_past (take n bs) i 0 (let h = length-take n bs in omega arith))) (omega arith)
    ]

pub append_bytes : (xs ys : List ℕ) → AreBytes xs → AreBytes ys → AreBytes (xs ++ ys)
append_bytes [] ys a b i = b i
append_bytes (x ∷ xs) ys a b zero = a 0
append_bytes (x ∷ xs) ys a b (suc i) = append_bytes xs ys (tail_bytes x xs a) b i

pub left_bytes : (xs ys : List ℕ) → AreBytes (xs ++ ys) → AreBytes xs
left_bytes [] ys are i = omega arith
left_bytes (x ∷ xs) ys are zero = are 0
left_bytes (x ∷ xs) ys are (suc i) = left_bytes xs ys (tail_bytes x (xs ++ ys) are) i

pub right_bytes : (xs ys : List ℕ) → AreBytes (xs ++ ys) → AreBytes ys
right_bytes [] ys are = are
right_bytes (x ∷ xs) ys are = right_bytes xs ys (tail_bytes x (xs ++ ys) are)

word_are : (count n : ℕ) → AreBytes (word_bytes count n)
word_are zero n i = omega arith
word_are (suc count) n zero = omega arith
word_are (suc count) n (suc i) = word_are count (n / 256) i

pub zeros_are : (n : ℕ) → AreBytes (replicate n 0)
zeros_are n i =
    elim (cases_lt i n) [
      | inl inside ↦ subst (λ x. x < 256) (sym (get_or-replicate n i 0 0 inside)) (omega arith)
      | inr past ↦ subst (λ x. x < 256) (sym (get_or_past (replicate n 0) i 0 (let h = length-replicate {A = ℕ} n 0 in omega arith))) (omega arith)
    ]

pub spliced_are : (xs new : List ℕ) (at : ℕ) → AreBytes xs → AreBytes new → AreBytes (spliced xs at new)
spliced_are xs new at are fresh =
    append_bytes (take at xs ++ new) (drop (at + length new) xs)
    (append_bytes (take at xs) new (take_bytes at xs are) fresh) (drop_bytes (at + length new) xs are)

pub spliced_bytes : (xs : List ℕ) (at count n : ℕ) → AreBytes xs → AreBytes (spliced xs at (word_bytes count n))
spliced_bytes xs at count n are = spliced_are xs (word_bytes count n) at are (word_are count n)

-- ---- the numbers that bytes spell

pub number_small : (bs : List ℕ) → AreBytes bs → little_endian bs < 256 ^ length bs
number_small [] are = omega arith
number_small (b ∷ bs) are =
    let h : little_endian bs < 256 ^ length bs = number_small bs (tail_bytes b bs are) in
    let small : b < 256 = are 0 in
    rw pow-suc (omega arith)

-- so many bytes from an offset spell a number below 256 to that power, also past the list's end
take_length : (n : ℕ) (bs : List ℕ) → length (take n bs) ≤ n
take_length n bs = let h = length-take n bs in omega arith

power_up : (n : ℕ) → n ≤ 4 → 256 ^ n ≤ 256 ^ 4
power_up n h = pow-le-pow_right {n = 256} (omega arith) {i = n} {j = 4} h

small_upto : (bs : List ℕ) → AreBytes bs → length bs ≤ 4 → little_endian bs < 2 ^ 32
small_upto bs are few =
    let h : little_endian bs < 256 ^ length bs = number_small bs are in
    let up : 256 ^ length bs ≤ 256 ^ 4 = power_up (length bs) few in
    omega arith

pub four_small : (bs : List ℕ) (n : ℕ) → AreBytes bs → little_endian (take 4 (drop n bs)) < 2 ^ 32
four_small bs n are =
    small_upto (take 4 (drop n bs)) (take_bytes 4 (drop n bs) (drop_bytes n bs are)) (take_length 4 (drop n bs))

-- a number and its inverse, byte by byte, are all ones together
ones : (bs : List ℕ) → AreBytes bs → little_endian (inverse bs) + little_endian bs + 1 ≡ 256 ^ length bs
ones [] are = refl
ones (b ∷ bs) are =
    let h : little_endian (inverse bs) + little_endian bs + 1 ≡ 256 ^ length bs = ones bs (tail_bytes b bs are) in
    let small : b < 256 = are 0 in
    rw pow-suc (omega arith)

pub inverse_again : (bs : List ℕ) → AreBytes bs → length bs ≡ 8 → inverted (little_endian (inverse bs)) ≡ little_endian bs
inverse_again bs are long =
    let h : little_endian (inverse bs) + little_endian bs + 1 ≡ 256 ^ length bs = ones bs are in
    let top : 256 ^ length bs ≡ 2 ^ 64 = ap (λ n. 256 ^ n) long in
    omega arith

pub eight_small : (bs : List ℕ) → AreBytes bs → length bs ≡ 8 → little_endian bs < 2 ^ 64
eight_small bs are long = let h = number_small bs are in let top : 256 ^ length bs ≡ 2 ^ 64 = ap (λ n. 256 ^ n) long in omega arith

-- bytes of one length that spell the same number are the same
pub same_bytes : (xs ys : List ℕ) → AreBytes xs → AreBytes ys → length xs ≡ length ys → little_endian xs ≡ little_endian ys → xs ≡ ys
same_bytes [] [] a b long e = refl
same_bytes [] (y ∷ ys) a b long e = absurd (omega arith)
same_bytes (x ∷ xs) [] a b long e = absurd (omega arith)
same_bytes (x ∷ xs) (y ∷ ys) a b long e =
    let small : x < 256 = a 0 in
    let small' : y < 256 = b 0 in
    let head : x ≡ y = omega arith in
    let tail : little_endian xs ≡ little_endian ys = omega arith in
    let rest = same_bytes xs ys (tail_bytes x xs a) (tail_bytes y ys b) (omega arith) tail in
    ap (λ z. z ∷ xs) head ∙ ap (λ zs. y ∷ zs) rest

-- eight bytes again from their number
word_step : (count a m : ℕ) → a < 256 → word_bytes (suc count) (a + 256 * m) ≡ a ∷ word_bytes count m
word_step count a m h =
    let e : (a + 256 * m) % 256 ≡ a = omega arith in
    let f : (a + 256 * m) / 256 ≡ m = omega arith in
    ap (λ x. x ∷ word_bytes count ((a + 256 * m) / 256)) e ∙ ap (λ x. a ∷ word_bytes count x) f

bytes_again : (bs : List ℕ) → AreBytes bs → word_bytes (length bs) (little_endian bs) ≡ bs
bytes_again [] are = refl
bytes_again (b ∷ bs) are =
    word_step (length bs) b (little_endian bs) (are 0) ∙ ap (λ xs. b ∷ xs) (bytes_again bs (tail_bytes b bs are))

pub eight_again : (bs : List ℕ) → AreBytes bs → length bs ≡ 8 → word_bytes 8 (little_endian bs) ≡ bs
eight_again bs are long = ap (λ n. word_bytes n (little_endian bs)) (sym long) ∙ bytes_again bs are

pub inverse_bytes : (bs : List ℕ) → AreBytes (inverse bs)
inverse_bytes [] i = omega arith
inverse_bytes (b ∷ bs) zero = omega arith
inverse_bytes (b ∷ bs) (suc i) = inverse_bytes bs i
