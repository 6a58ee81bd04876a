-- Lines put one after another.
use Rattle.std.proofs.Common.{◌≡◌, ◌∙◌, ℕ, zero, suc, ◌+◌, ◌-◌, List, [], ◌∷◌, ◌++◌, take, drop, Option, Some, None, refl, sym, ap}
use Rattle.std.proofs.Math.Seq.{take-add}
use Rattle.std.proofs.lemmas.List.{append_assoc}
use Rattle.cv_io.specs.Output.{appended, AppendsFront}

appended_twice : (told : Option (List ℕ)) (p q : List ℕ) → appended (appended told p) q ≡ appended told (p ++ q)
appended_twice None p q = refl
appended_twice (Some bytes) p q = ap (λ b. Some b) (append_assoc bytes p q)

front_of_front : (k n : ℕ) (xs : List ℕ) → (j : ℕ) × (take k (take n xs) ≡ take j xs)
front_of_front zero n xs = (0, refl)
front_of_front (suc k) zero xs = (0, refl)
front_of_front (suc k) (suc n) [] = (0, refl)
front_of_front (suc k) (suc n) (x ∷ xs) = let f = front_of_front k n xs in (suc f.0, ap (λ (l : List ℕ). x ∷ l) f.1)

-- behind the first `start` bytes of a text, so many more
more_put : (text : List ℕ) (start count : ℕ) (x y z : Option (List ℕ)) → y ≡ appended x (take start text) → z ≡ appended y (take count (drop start text)) →
    z ≡ appended x (take (start + count) text)
more_put text start count x y z before put =
    put
    ∙ ap (λ (told : Option (List ℕ)). appended told (take count (drop start text))) before
    ∙ appended_twice x (take start text) (take count (drop start text))
    ∙ ap (λ (l : List ℕ). appended x l) (sym (take-add start count text))

-- the bytes up to a later place
pub next_line : (text : List ℕ) (start end : ℕ) (x y z : Option (List ℕ)) → start + (end - start) ≡ end → y ≡ appended x (take start text) →
    z ≡ appended y (take (end - start) (drop start text)) → z ≡ appended x (take end text)
next_line text start end x y z e before put =
    more_put text start (end - start) x y z before put ∙ ap (λ (n : ℕ). appended x (take n text)) e

-- a front of them
pub next_front : (text : List ℕ) (start count : ℕ) (x y z : Option (List ℕ)) → y ≡ appended x (take start text) → AppendsFront y (take count (drop start text)) z → AppendsFront x text z
next_front text start count x y z before f =
    let j = front_of_front f.kept count (drop start text) in
    record { kept = start + j.0; is_appended = more_put text start j.0 x y z before (f.is_appended ∙ ap (λ (l : List ℕ). appended y l) j.1) }
