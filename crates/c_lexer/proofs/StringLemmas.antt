-- What a string stands for, a byte at a time.
use Rattle.std.proofs.Common.{◌≡◌, ℕ, ◌+◌, ◌<◌, ◌≤◌, ◌==◌, true, false, List, [], ◌∷◌, ◌++◌, length, get_or, drop, Some, refl, sym, ap, subst, ◌∙◌, arith}
use Rattle.std.proofs.lemmas.Bool.{both_ways}
use Rattle.std.proofs.lemmas.List.{append_assoc, append-nil, length-append, length-drop, drop-drop, get_or-drop, drop_at}
use Rattle.c_lexer.specs.Spelling.{escaped, is_plain, Spells, nothing, plain, escape, IsStringText}
use Rattle.c_lexer.proofs.Steps.{plain_differs}

-- ---- one list of bytes

same_escape : (e d : ℕ) (b c : ℕ) → e ≡ d → escaped e ≡ Some b → escaped d ≡ Some c → b ≡ c
same_escape e d b c same p q = let joined : Some b ≡ Some c = sym p ∙ ap escaped same ∙ q in cc

head_is : (a b : ℕ) (xs ys : List ℕ) → a ∷ xs ≡ b ∷ ys → (a ≡ b) × (xs ≡ ys)
head_is a b xs ys e = (cc, cc)

two_are : (a b : ℕ) (xs : List ℕ) (c d : ℕ) (ys : List ℕ) → a ∷ b ∷ xs ≡ c ∷ d ∷ ys → (b ≡ d) × (xs ≡ ys)
two_are a b xs c d ys e = (cc, cc)

plain_is_no_slash : (quote b : ℕ) → is_plain quote b ≡ true → b ≡ 92 → ⊥
plain_is_no_slash quote b h e = let d = plain_differs quote b h in both_ways _ d.1 (ap (λ x. x == 92) e)

spelled_once : (quote : ℕ) (text others bytes values : List ℕ) → Spells quote text bytes → Spells quote others values → text ≡ others → bytes ≡ values
spelled_once quote text others bytes values nothing nothing e = refl
spelled_once quote text others bytes values nothing (plain b t v h more) e = cc
spelled_once quote text others bytes values nothing (escape c b t v h more) e = cc
spelled_once quote text others bytes values (plain b t v h more) nothing e = cc
spelled_once quote text others bytes values (plain b t v h more) (plain c s w k rest) e =
    let parts = head_is b c t s e in
    λ i. parts.0 i ∷ spelled_once quote t s v w more rest parts.1 i
spelled_once quote text others bytes values (plain b t v h more) (escape d c s w k rest) e =
    absurd (plain_is_no_slash quote b h (head_is b 92 t (d ∷ s) e).0)
spelled_once quote text others bytes values (escape d b t v h more) nothing e = cc
spelled_once quote text others bytes values (escape d b t v h more) (plain c s w k rest) e =
    absurd (plain_is_no_slash quote c k (sym (head_is 92 c (d ∷ t) s e).0))
spelled_once quote text others bytes values (escape d b t v h more) (escape f c s w k rest) e =
    let parts = two_are 92 d t 92 f s e in
    λ i. same_escape d f b c parts.0 h k i ∷ spelled_once quote t s v w more rest parts.1 i

front_is : (xs ys : List ℕ) (b c : ℕ) → xs ++ b ∷ [] ≡ ys ++ c ∷ [] → xs ≡ ys
front_is [] [] b c e = refl
front_is [] (y ∷ ys) b c e = absurd (omega (arith, ap length e, length-append ys (c ∷ [])))
front_is (x ∷ xs) [] b c e = absurd (omega (arith, ap length e, length-append xs (b ∷ [])))
front_is (x ∷ xs) (y ∷ ys) b c e =
    let parts = head_is x y (xs ++ b ∷ []) (ys ++ c ∷ []) e in
    λ i. parts.0 i ∷ front_is xs ys b c parts.1 i

pub one_string : (text bytes others : List ℕ) → IsStringText text bytes → IsStringText text others → bytes ≡ others
one_string text bytes others h k =
    let inner = (head_is 34 34 (h.0 ++ 34 ∷ []) (k.0 ++ 34 ∷ []) (sym h.1 ∙ k.1)).1 in
    spelled_once 34 h.0 k.0 bytes others h.2 k.2 (front_is h.0 k.0 34 34 inner)

-- ---- a turn of the decoder

-- these bytes are decoded, and the rest of the text spells the rest
pub record IsDecoded (text : List ℕ) (place : ℕ) (done : List ℕ) : Type 0 where
  pub left : List ℕ
  pub values : List ℕ
  pub in_range : place < length text
  pub here : drop place text ≡ left ++ 34 ∷ []
  pub spelled : Spells 34 left values
  pub whole : IsStringText text (done ++ values)

pub decoded_first : (text bytes : List ℕ) → IsStringText text bytes → IsDecoded text 1 []
decoded_first text bytes h = record {
  left = h.0;
  values = bytes;
  in_range = omega (arith, ap length h.1, length-append h.0 (34 ∷ []));
  here = ap (drop 1) h.1;
  spelled = h.2;
  whole = h;
}

no_values : (left values : List ℕ) → Spells 34 left values → length left ≤ 0 → values ≡ []
no_values left values nothing h = refl
no_values left values (plain b t v h more) short = absurd (omega arith)
no_values left values (escape e b t v h more) short = absurd (omega arith)

pub decoded_all : (text done : List ℕ) (place : ℕ) → IsDecoded text place done → length text ≤ place + 1 → IsStringText text done
decoded_all text done place d past =
    let none = no_values d.left d.values d.spelled (omega (arith, ap length d.here, length-append d.left (34 ∷ []), length-drop place text)) in
    subst (IsStringText text) (ap (λ v. done ++ v) none ∙ append-nil done) d.whole

-- the bytes at a place and behind it
first_at : (text : List ℕ) (place b : ℕ) (rest : List ℕ) → drop place text ≡ b ∷ rest → get_or text place 0 ≡ b
first_at text place b rest e =
    ap (λ k. get_or text k 0) (omega arith) ∙ sym (get_or-drop place text 0 0) ∙ ap (λ l. get_or l 0 0) e

second_at : (text : List ℕ) (place b c : ℕ) (rest : List ℕ) → drop place text ≡ b ∷ c ∷ rest → get_or text (place + 1) 0 ≡ c
second_at text place b c rest e = sym (get_or-drop place text 1 0) ∙ ap (λ l. get_or l 1 0) e

rest_at : (text : List ℕ) (place n : ℕ) (front rest : List ℕ) → drop place text ≡ front ++ rest → length front ≡ n → drop (place + n) text ≡ rest
rest_at text place n front rest e len =
    ap (λ k. drop k text) (omega arith) ∙ sym (drop-drop n place text) ∙ ap (drop n) e ∙ drop_at front rest n len

spelled_place : (text : List ℕ) (place : ℕ) (left : List ℕ) → drop place text ≡ left ++ 34 ∷ [] → length text ≡ place + (length left + 1)
spelled_place text place [] e = omega (arith, ap length e, length-drop place text)
spelled_place text place (b ∷ left) e = omega (arith, ap length e, length-append left (34 ∷ []), length-drop place text)

plain_on : (text : List ℕ) (place : ℕ) (done left values : List ℕ) → drop place text ≡ left ++ 34 ∷ [] → Spells 34 left values → IsStringText text (done ++ values)
    → place + 1 < length text → (get_or text place 0 == 92) ≡ false → IsDecoded text (place + 1) (done ++ get_or text place 0 ∷ [])
plain_on text place done left values here nothing whole within other = absurd (omega (arith, spelled_place text place [] here))
plain_on text place done left values here (plain b t v h more) whole within other =
    let first = first_at text place b (t ++ 34 ∷ []) here in
    record {
      left = t;
      values = v;
      in_range = omega arith;
      here = rest_at text place 1 (b ∷ []) (t ++ 34 ∷ []) here refl;
      spelled = more;
      whole = subst (IsStringText text) (sym (append_assoc done (get_or text place 0 ∷ []) v ∙ ap (λ x. done ++ x ∷ v) first)) whole;
    }
plain_on text place done left values here (escape e b t v h more) whole within other =
    absurd (both_ways _ other (ap (λ x. x == 92) (first_at text place 92 (e ∷ t ++ 34 ∷ []) here)))

pub plain_turn : (text : List ℕ) (place : ℕ) (done : List ℕ) → IsDecoded text place done → place + 1 < length text
    → (get_or text place 0 == 92) ≡ false → IsDecoded text (place + 1) (done ++ get_or text place 0 ∷ [])
plain_turn text place done d = plain_on text place done d.left d.values d.here d.spelled d.whole

-- `\` and what it stands for
pub record EscapeTurn (text : List ℕ) (place : ℕ) (done : List ℕ) : Type 0 where
  pub meant : ℕ
  pub is_meant : escaped (get_or text (place + 1) 0) ≡ Some meant
  pub next : IsDecoded text (place + 2) (done ++ meant ∷ [])

escape_on : (text : List ℕ) (place : ℕ) (done left values : List ℕ) → drop place text ≡ left ++ 34 ∷ [] → Spells 34 left values → IsStringText text (done ++ values)
    → place + 1 < length text → get_or text place 0 ≡ 92 → EscapeTurn text place done
escape_on text place done left values here nothing whole within slash = absurd (omega (arith, spelled_place text place [] here))
escape_on text place done left values here (plain b t v h more) whole within slash =
    absurd (plain_is_no_slash 34 b h (sym (first_at text place b (t ++ 34 ∷ []) here) ∙ slash))
escape_on text place done left values here (escape e b t v h more) whole within slash =
    let long = spelled_place text place (92 ∷ e ∷ t) here in
    record {
      meant = b;
      is_meant = ap escaped (second_at text place 92 e (t ++ 34 ∷ []) here) ∙ h;
      next = record {
        left = t;
        values = v;
        in_range = omega (arith, long);
        here = rest_at text place 2 (92 ∷ e ∷ []) (t ++ 34 ∷ []) here refl;
        spelled = more;
        whole = subst (IsStringText text) (sym (append_assoc done (b ∷ []) v)) whole;
      };
    }

pub escape_turn : (text : List ℕ) (place : ℕ) (done : List ℕ) → IsDecoded text place done → place + 1 < length text
    → get_or text place 0 ≡ 92 → EscapeTurn text place done
escape_turn text place done d = escape_on text place done d.left d.values d.here d.spelled d.whole
