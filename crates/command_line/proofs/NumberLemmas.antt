-- The value of a word of digits, digit by digit.
use Rattle.std.proofs.Common.{◌≡◌, ◌∙◌, ℕ, ◌+◌, ◌<◌, ◌≤◌, List, []}
use Rattle.std.proofs.Common.{◌∷◌, length, drop, get_or, sym, ap, subst, arith}
use Rattle.std.proofs.Common.{add-one, drop-cons}
use Rattle.std.specs.Prelude.{fold, All}
use Rattle.std.specs.Char.{IsAsciiDigit}
use Rattle.std.proofs.lemmas.List.Elements.{All-from_get_or}
use Rattle.std.proofs.Math.ListN.{drop_of_length-le}
use Rattle.command_line.specs.Numbers.{with_digit, IsNumber}

-- more digits make no number smaller
pub value-grows : (digits : List ℕ) (number : ℕ) → number ≤ fold with_digit number digits
value-grows [] number = omega arith
value-grows (digit ∷ digits) number =
    let more = value-grows digits (with_digit number digit) in
    omega (arith, more)

-- the digits from place i on are that at i and those behind it
pub value-next : (word : List ℕ) (i number : ℕ) → i < length word →
    fold with_digit number (drop i word) ≡ fold with_digit (with_digit number (get_or word i 0)) (drop (i + 1) word)
value-next word i number inside =
    rw (add-one) (ap (λ (digits : List ℕ). fold with_digit number digits) (drop-cons word i 0 inside))

too-small : (most first whole value : ℕ) → most < first → first ≤ whole → whole ≡ value → value ≤ most → ⊥
too-small most first whole value large more same small = omega arith

-- a value that is too large by its first digits is too large
pub too-large : (most : ℕ) (word digits : List ℕ) (i so_far value : ℕ) → digits ≡ word → i < length digits →
    fold with_digit so_far (drop i digits) ≡ fold with_digit 0 digits → IsNumber word value →
    most < with_digit so_far (get_or digits i 0) → value ≤ most → ⊥
too-large most word digits i so_far value same inside rest number large small =
    let whole : fold with_digit (with_digit so_far (get_or digits i 0)) (drop (i + 1) digits) ≡ value =
    sym (value-next digits i so_far inside) ∙ rest ∙ ap (λ (w : List ℕ). fold with_digit 0 w) same ∙ number.value in
    let more = value-grows (drop (i + 1) digits) (with_digit so_far (get_or digits i 0)) in
    too-small most _ _ value large more whole small

pub whole-value : (word digits : List ℕ) (i so_far : ℕ) → digits ≡ word → 0 < length word → length digits ≤ i →
    fold with_digit so_far (drop i digits) ≡ fold with_digit 0 digits →
    ((k : ℕ) → k < i → IsAsciiDigit (get_or digits k 0)) → IsNumber word so_far
whole-value word digits i so_far same some over rest each = record {
  some = some;
  digits = subst (λ (w : List ℕ). All IsAsciiDigit w) same
      (All-from_get_or (λ d. IsAsciiDigit d) digits 0 (λ k inside. each k (omega arith)));
  value = ap (λ (w : List ℕ). fold with_digit 0 w) (sym same) ∙ sym rest
      ∙ ap (λ (w : List ℕ). fold with_digit so_far w) (drop_of_length-le digits over);
}

pub same-number : (word other : List ℕ) (number : ℕ) → word ≡ other → IsNumber word number → IsNumber other number
same-number word other number same is = subst (λ (w : List ℕ). IsNumber w number) same is
