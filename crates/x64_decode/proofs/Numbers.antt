-- Immediate numbers as bytes, both ways.
use Rattle.std.proofs.Common.{◌≡◌, ℕ, suc, ◌+◌, ◌*◌, ◌/◌, ◌%◌, ◌^◌, ◌<◌, List, [], ◌∷◌, ◌++◌, Option, Some, None, sym, ◌∙◌, ap, arith, ℤ}
use Rattle.std.specs.Prelude.{FitsSigned}
use Rattle.std.specs.Int.{w32, cast_unsigned}
use Rattle.std.specs.Option.{option_map}
use Rattle.std.proofs.Common.{rules}
use mir.ValLaws.{to_z-Fits}
use Rattle.std.proofs.lemmas.Int.{to_z-of_z, of_z-to_z}
use Rattle.cv_word.specs.Words.{word_bytes, AreBytes}
use Rattle.x64_decode.specs.Spelling.{signed_bytes}
use Rattle.x64_decode.specs.Reading.{number_4, number_8, signed_4, signed_at}

-- a number below 2 ^ 32 is read from its four bytes, whatever follows
pub number_again_4 : (n : ℕ) (rest : List ℕ) → n < 2 ^ 32 → number_4 (word_bytes 4 n ++ rest) ≡ Some (n, rest)
unfolding number_4
number_again_4 n rest h =
    let e : n % 256 + 256 * (n / 256 % 256 + 256 * (n / 256 / 256 % 256 + 256 * (n / 256 / 256 / 256 % 256))) ≡ n = omega arith in
    ap (λ m. let o : Option (ℕ × List ℕ) = Some (m, rest) in o) e

pub number_again_8 : (n : ℕ) (rest : List ℕ) → n < 2 ^ 64 → number_8 (word_bytes 8 n ++ rest) ≡ Some (n, rest)
unfolding number_8
number_again_8 n rest h =
    let b1 = n / 256 in let b2 = b1 / 256 in let b3 = b2 / 256 in let b4 = b3 / 256 in let b5 = b4 / 256 in let b6 = b5 / 256 in let b7 = b6 / 256 in
    let small : b7 < 256 = omega arith in
    let e7 : b7 % 256 ≡ b7 = omega arith in
    let e6 : b6 % 256 + 256 * (b7 % 256) ≡ b6 = omega arith in
    let e5 : b5 % 256 + 256 * (b6 % 256 + 256 * (b7 % 256)) ≡ b5 = omega arith in
    let e4 : b4 % 256 + 256 * (b5 % 256 + 256 * (b6 % 256 + 256 * (b7 % 256))) ≡ b4 = omega arith in
    let e3 : b3 % 256 + 256 * (b4 % 256 + 256 * (b5 % 256 + 256 * (b6 % 256 + 256 * (b7 % 256)))) ≡ b3 = omega arith in
    let e2 : b2 % 256 + 256 * (b3 % 256 + 256 * (b4 % 256 + 256 * (b5 % 256 + 256 * (b6 % 256 + 256 * (b7 % 256))))) ≡ b2 = omega arith in
    let e1 : b1 % 256 + 256 * (b2 % 256 + 256 * (b3 % 256 + 256 * (b4 % 256 + 256 * (b5 % 256 + 256 * (b6 % 256 + 256 * (b7 % 256)))))) ≡ b1 = omega arith in
    let e0 : n % 256 + 256 * (b1 % 256 + 256 * (b2 % 256 + 256 * (b3 % 256 + 256 * (b4 % 256 + 256 * (b5 % 256 + 256 * (b6 % 256 + 256 * (b7 % 256))))))) ≡ n = omega arith in
    ap (λ m. let o : Option (ℕ × List ℕ) = Some (m, rest) in o) e0

pub signed_again : (z : ℤ) (rest : List ℕ) → FitsSigned w32 z → signed_at (signed_bytes z ++ rest) ≡ Some (z, rest)
unfolding signed_at
signed_again z rest h =
    ap (λ o. option_map (λ (n : ℕ × List ℕ). let x : ℤ × List ℕ = (signed_4 n.0, n.1) in x) o) (number_again_4 (cast_unsigned w32 z) rest (search rules))
    ∙ ap (λ m. let o : Option (ℤ × List ℕ) = Some (m, rest) in o) (to_z-of_z w32 z h)

-- ---- back: the bytes that a number was read from spell it

-- one byte more
word_step : (count a m : ℕ) → a < 256 → word_bytes (suc count) (a + 256 * m) ≡ a ∷ word_bytes count m
word_step count a m h =
    let e : (a + 256 * m) % 256 ≡ a = omega arith in
    let f : (a + 256 * m) / 256 ≡ m = omega arith in
    ap (λ x. x ∷ word_bytes count ((a + 256 * m) / 256)) e ∙ ap (λ x. a ∷ word_bytes count x) f

word_last : (a : ℕ) → a < 256 → word_bytes 1 a ≡ a ∷ []
word_last a h = let e : a % 256 ≡ a = omega arith in ap (λ x. x ∷ []) e

-- a number of so many bytes that was read: the bytes are its own, and it fits them
pub record Number (count : ℕ) (bytes : List ℕ) (n : ℕ) (rest : List ℕ) : Type 0 where
  pub whole : bytes ≡ word_bytes count n ++ rest
  pub small : n < 256 ^ count

abbrev pub NumberOf : ℕ → List ℕ → Option (ℕ × List ℕ) → Type 0
NumberOf count bytes None = Unit {0}
NumberOf count bytes (Some n) = Number count bytes n.0 n.1

pub tail_bytes : (b : ℕ) (rest : List ℕ) → AreBytes (b ∷ rest) → AreBytes rest
tail_bytes b rest h = λ k. h (suc k)

bytes_of_4 : (a b c d : ℕ) → a < 256 → b < 256 → c < 256 → d < 256 → word_bytes 4 (a + 256 * (b + 256 * (c + 256 * d))) ≡ a ∷ (b ∷ (c ∷ (d ∷ [])))
bytes_of_4 a b c d ha hb hc hd =
    word_step 3 a (b + 256 * (c + 256 * d)) ha ∙ ap (λ x. a ∷ x) (word_step 2 b (c + 256 * d) hb ∙ ap (λ x. b ∷ x) (word_step 1 c d hc ∙ ap (λ x. c ∷ x) (word_last d hd)))

pub number_taken_4 : (bytes : List ℕ) → AreBytes bytes → NumberOf 4 bytes (number_4 bytes)
unfolding number_4
number_taken_4 (a ∷ (b ∷ (c ∷ (d ∷ rest)))) h = record {
  whole = ap (λ x. x ++ rest) (sym (bytes_of_4 a b c d (h 0) (h 1) (h 2) (h 3)));
  small = let ha : a < 256 = h 0 in let hb : b < 256 = h 1 in let hc : c < 256 = h 2 in let hd : d < 256 = h 3 in omega arith;
}
number_taken_4 [] h = tt
number_taken_4 (a ∷ []) h = tt
number_taken_4 (a ∷ (b ∷ [])) h = tt
number_taken_4 (a ∷ (b ∷ (c ∷ []))) h = tt

pub number_taken_8 : (bytes : List ℕ) → AreBytes bytes → NumberOf 8 bytes (number_8 bytes)
unfolding number_8
number_taken_8 (a ∷ (b ∷ (c ∷ (d ∷ (e ∷ (f ∷ (g ∷ (k ∷ rest)))))))) h = record {
  whole = ap (λ x. x ++ rest) (sym
      (word_step 7 a _ (h 0) ∙ ap (λ x. a ∷ x) (word_step 6 b _ (h 1) ∙ ap (λ x. b ∷ x) (word_step 5 c _ (h 2) ∙ ap (λ x. c ∷ x)
      (word_step 4 d _ (h 3) ∙ ap (λ x. d ∷ x) (bytes_of_4 e f g k (h 4) (h 5) (h 6) (h 7)))))));
  small =
      let ha : a < 256 = h 0 in let hb : b < 256 = h 1 in let hc : c < 256 = h 2 in let hd : d < 256 = h 3 in
      let he : e < 256 = h 4 in let hf : f < 256 = h 5 in let hg : g < 256 = h 6 in let hk : k < 256 = h 7 in omega arith;
}
number_taken_8 [] h = tt
number_taken_8 (a ∷ []) h = tt
number_taken_8 (a ∷ (b ∷ [])) h = tt
number_taken_8 (a ∷ (b ∷ (c ∷ []))) h = tt
number_taken_8 (a ∷ (b ∷ (c ∷ (d ∷ [])))) h = tt
number_taken_8 (a ∷ (b ∷ (c ∷ (d ∷ (e ∷ []))))) h = tt
number_taken_8 (a ∷ (b ∷ (c ∷ (d ∷ (e ∷ (f ∷ [])))))) h = tt
number_taken_8 (a ∷ (b ∷ (c ∷ (d ∷ (e ∷ (f ∷ (g ∷ []))))))) h = tt

-- the same of a signed number
pub record Signed (bytes : List ℕ) (z : ℤ) (rest : List ℕ) : Type 0 where
  pub whole : bytes ≡ signed_bytes z ++ rest
  pub fits : FitsSigned w32 z

abbrev pub SignedOf : List ℕ → Option (ℤ × List ℕ) → Type 0
SignedOf bytes None = Unit {0}
SignedOf bytes (Some z) = Signed bytes z.0 z.1

signed_from : (bytes : List ℕ) (o : Option (ℕ × List ℕ)) → NumberOf 4 bytes o → SignedOf bytes (option_map (λ (n : ℕ × List ℕ). let x : ℤ × List ℕ = (signed_4 n.0, n.1) in x) o)
signed_from bytes None t = tt
signed_from bytes (Some n) t = record {
  whole = t.whole ∙ ap (λ m. word_bytes 4 m ++ n.1) (sym (of_z-to_z w32 n.0 t.small));
  fits = to_z-Fits w32 n.0 (record { fits = t.small });
}

pub signed_taken : (bytes : List ℕ) → AreBytes bytes → SignedOf bytes (signed_at bytes)
unfolding signed_at
signed_taken bytes h = signed_from bytes (number_4 bytes) (number_taken_4 bytes h)
