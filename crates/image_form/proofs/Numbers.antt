-- Numbers of four bytes, alone and one behind the other.
use Rattle.std.proofs.Common.{◌≡◌, ℕ, zero, suc, ◌+◌, ◌*◌, ◌%◌, ◌/◌, ◌^◌, ◌<◌, ◌≤◌, List, [], ◌∷◌, ◌++◌, length, get_or, take, drop, refl, sym, ap, ◌∙◌, subst, inl, inr, add-one, arith}
use Rattle.std.specs.List.{flat_map}
use Rattle.std.proofs.Math.Seq.{take-add}
use Rattle.std.proofs.lemmas.Bool.{cases_lt}
use Rattle.std.proofs.lemmas.List.{drop-drop, length-take, length-drop, get_or-drop, get_or-take, get_or_past}
use Rattle.cv_word.specs.Words.{little_endian, AreBytes}
use Rattle.image_form.specs.Image.{word}
use Rattle.image_form.specs.Reading.{numbers}

pub AreBytes-drop : (n : ℕ) (bytes : List ℕ) → AreBytes bytes → AreBytes (drop n bytes)
AreBytes-drop n bytes h i = rw get_or-drop (h (n + i))

pub AreBytes-take : (n : ℕ) (bytes : List ℕ) → AreBytes bytes → AreBytes (take n bytes)
AreBytes-take n bytes h i =
    elim (cases_lt i n) [
      | inl lt ↦ rw (get_or-take n bytes i 0 lt) (h i)
      | inr le ↦ rw (get_or_past (take n bytes) i 0 (omega (arith, length-take n bytes))) (omega arith)
    ]

-- ---- one number

pub word_number : (n : ℕ) → n < 2 ^ 32 → little_endian (word n) ≡ n
word_number n lt = omega arith

four_cells : (a b c d : ℕ) → a < 256 → b < 256 → c < 256 → d < 256 → word (little_endian (a ∷ b ∷ c ∷ d ∷ [])) ≡ a ∷ b ∷ c ∷ d ∷ []
four_cells a b c d la lb lc ld =
    let n : ℕ = a + 256 * (b + 256 * (c + 256 * (d + 256 * 0))) in
    let ea : n % 256 ≡ a = omega arith in
    let eb : n / 256 % 256 ≡ b = omega arith in
    let ec : n / 256 / 256 % 256 ≡ c = omega arith in
    let ed : n / 256 / 256 / 256 % 256 ≡ d = omega arith in
    cc

-- four bytes are those of the number that they spell
pub word-little_endian : (bytes : List ℕ) → length bytes ≡ 4 → AreBytes bytes → word (little_endian bytes) ≡ bytes
word-little_endian [] e h = absurd (omega (arith, e))
word-little_endian (a ∷ []) e h = absurd (omega (arith, e))
word-little_endian (a ∷ b ∷ []) e h = absurd (omega (arith, e))
word-little_endian (a ∷ b ∷ c ∷ []) e h = absurd (omega (arith, e))
word-little_endian (a ∷ b ∷ c ∷ d ∷ []) e h = four_cells a b c d (h 0) (h 1) (h 2) (h 3)
word-little_endian (a ∷ b ∷ c ∷ d ∷ x ∷ xs) e h = absurd (omega (arith, e))

pub little_endian-lt : (bytes : List ℕ) → length bytes ≡ 4 → AreBytes bytes → little_endian bytes < 2 ^ 32
little_endian-lt [] e h = absurd (omega (arith, e))
little_endian-lt (a ∷ []) e h = absurd (omega (arith, e))
little_endian-lt (a ∷ b ∷ []) e h = absurd (omega (arith, e))
little_endian-lt (a ∷ b ∷ c ∷ []) e h = absurd (omega (arith, e))
little_endian-lt (a ∷ b ∷ c ∷ d ∷ []) e h = omega (arith, h 0, h 1, h 2, h 3)
little_endian-lt (a ∷ b ∷ c ∷ d ∷ x ∷ xs) e h = absurd (omega (arith, e))

-- ---- one behind the other

numbers_more_suc : (count : ℕ) (bytes : List ℕ) → numbers (suc count) bytes ≡ numbers count bytes ++ little_endian (take 4 (drop (4 * count) bytes)) ∷ []
numbers_more_suc zero bytes = refl
numbers_more_suc (suc count) bytes =
    let e : drop (4 * count) (drop 4 bytes) ≡ drop (4 * suc count) bytes = drop-drop (4 * count) 4 bytes ∙ ap (λ n. drop n bytes) (omega arith) in
    let P : List ℕ → Type 0 = λ t. numbers (suc count) (drop 4 bytes) ≡ numbers count (drop 4 bytes) ++ little_endian (take 4 t) ∷ [] in
    ap (λ (rest : List ℕ). little_endian (take 4 bytes) ∷ rest) (subst P e (numbers_more_suc count (drop 4 bytes)))

-- one more number
pub numbers_more : (count : ℕ) (bytes : List ℕ) → numbers (count + 1) bytes ≡ numbers count bytes ++ little_endian (take 4 (drop (4 * count) bytes)) ∷ []
numbers_more count bytes = rw add-one (numbers_more_suc count bytes)

pub length-numbers : (count : ℕ) (bytes : List ℕ) → length (numbers count bytes) ≡ count
length-numbers zero bytes = refl
length-numbers (suc count) bytes = ap suc (length-numbers count (drop 4 bytes))

pub numbers-lt : (count : ℕ) (bytes : List ℕ) → 4 * count ≤ length bytes → AreBytes bytes → (k : ℕ) → get_or (numbers count bytes) k 0 < 2 ^ 32
numbers-lt zero bytes le h k = omega arith
numbers-lt (suc count) bytes le h zero = little_endian-lt (take 4 bytes) (omega (arith, length-take 4 bytes)) (AreBytes-take 4 bytes h)
numbers-lt (suc count) bytes le h (suc k) = numbers-lt count (drop 4 bytes) (omega (arith, length-drop 4 bytes)) (AreBytes-drop 4 bytes h) k

-- the numbers that bytes spell are spelled by those bytes
pub flat_map-numbers : (count : ℕ) (bytes : List ℕ) → 4 * count ≤ length bytes → AreBytes bytes → flat_map word (numbers count bytes) ≡ take (4 * count) bytes
flat_map-numbers zero bytes le h = refl
flat_map-numbers (suc count) bytes le h =
    let first : word (little_endian (take 4 bytes)) ≡ take 4 bytes = word-little_endian (take 4 bytes) (omega (arith, length-take 4 bytes)) (AreBytes-take 4 bytes h) in
    let others : flat_map word (numbers count (drop 4 bytes)) ≡ take (4 * count) (drop 4 bytes) = flat_map-numbers count (drop 4 bytes) (omega (arith, length-drop 4 bytes)) (AreBytes-drop 4 bytes h) in
    ap (λ (t : List ℕ). t ++ flat_map word (numbers count (drop 4 bytes))) first
    ∙ (ap (λ (t : List ℕ). take 4 bytes ++ t) others
    ∙ (sym (take-add 4 (4 * count) bytes)
    ∙ ap (λ n. take n bytes) (omega arith)))

-- what numbers are spelled by spells them
pub numbers-flat_map : (xs : List ℕ) (rest : List ℕ) → ((k : ℕ) → get_or xs k 0 < 2 ^ 32) → numbers (length xs) (flat_map word xs ++ rest) ≡ xs
numbers-flat_map [] rest h = refl
numbers-flat_map (x ∷ xs) rest h =
    ap (λ n. n ∷ numbers (length xs) (flat_map word xs ++ rest)) (word_number x (h 0))
    ∙ ap (λ (t : List ℕ). x ∷ t) (numbers-flat_map xs rest (λ k. h (suc k)))

pub length-flat_map_word : (xs : List ℕ) → length (flat_map word xs) ≡ 4 * length xs
length-flat_map_word [] = refl
length-flat_map_word (x ∷ xs) = let h = length-flat_map_word xs in omega arith
