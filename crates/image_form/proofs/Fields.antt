-- The first wrong field of a list in order of places is the one of the least place.
use Rattle.std.proofs.Common.{ℕ, ◌<◌, ◌≤◌, List, [], ◌∷◌, inl, inr, arith}
use Rattle.image_form.specs.Table.{Field, AreGood, HasWrongAt, IsWrongAt, IsFault, fields}
use Rattle.image_form.specs.Reading.{IsFirstWrong}

-- each place is at or above the one before
abbrev pub Ascends : ℕ → List Field → Type 0
Ascends low [] = Unit {0}
Ascends low (one ∷ others) = (low ≤ one.place) × Ascends one.place others

none_below : (file : List ℕ) (fs : List Field) (low other : ℕ) → Ascends low fs → other < low → HasWrongAt file fs other → ⊥
none_below file [] low other asc lt h = h
none_below file (one ∷ others) low other asc lt (inl w) = omega (arith, asc.0, w.0)
none_below file (one ∷ others) low other asc lt (inr w) = none_below file others one.place other asc.1 (omega (arith, asc.0)) w

first-wrong : (file : List ℕ) (fs : List Field) (place : ℕ) → IsFirstWrong file fs place → HasWrongAt file fs place
first-wrong file [] place h = h
first-wrong file (one ∷ others) place (inl w) = inl w
first-wrong file (one ∷ others) place (inr w) = inr (first-wrong file others place w.1)

first-least : (file : List ℕ) (fs : List Field) (low place : ℕ) → Ascends low fs → IsFirstWrong file fs place → (other : ℕ) → other < place → HasWrongAt file fs other → ⊥
first-least file [] low place asc h other lt v = h
first-least file (one ∷ others) low place asc (inl w) other lt (inl v) = omega (arith, w.0, v.0)
first-least file (one ∷ others) low place asc (inl w) other lt (inr v) = none_below file others one.place other asc.1 (omega (arith, w.0)) v
first-least file (one ∷ others) low place asc (inr w) other lt (inl v) = v.1 w.0
first-least file (one ∷ others) low place asc (inr w) other lt (inr v) = first-least file others one.place place asc.1 w.1 other lt v

fields-ascend : (file : List ℕ) → Ascends 0 (fields file)
fields-ascend file = (
  omega arith,
  (
    omega arith,
    (
      omega arith,
      (
        omega arith,
        (
          omega arith,
          (
            omega arith,
            (
              omega arith,
              (
                omega arith,
                (
                  omega arith,
                  (
                    omega arith,
                    (
                      omega arith,
                      (
                        omega arith,
                        (omega arith, (omega arith, (omega arith, (omega arith, (omega arith, tt))))),
                      ),
                    ),
                  ),
                ),
              ),
            ),
          ),
        ),
      ),
    ),
  ),
)

pub fault_from_first : (file : List ℕ) (place : ℕ) → IsFirstWrong file (fields file) place → IsFault file place
unfolding IsWrongAt
fault_from_first file place h = record {
  wrong = first-wrong file (fields file) place h;
  least = first-least file (fields file) 0 place (fields-ascend file) h;
}

pub good_or_first : (file : List ℕ) (fs : List Field) (place : ℕ) → AreGood file fs → IsFirstWrong file fs place → ⊥
good_or_first file [] place g h = h
good_or_first file (one ∷ others) place g (inl w) = w.1 g.0
good_or_first file (one ∷ others) place g (inr w) = good_or_first file others place g.1 w.1
