-- A number that is spelled is read, and what is read is spelled.
use Rattle.std.proofs.Common.{◌≡◌, ℕ, ◌+◌, ◌-◌, ◌*◌, ◌^◌, ◌<◌, ◌≤◌, Bool, true, false, not, ◌&&◌, ◌||◌, ◌==◌, nat_lt, List, [], ◌∷◌, ◌++◌, length, get_or, take, drop, Some, None, refl, sym, ap, subst, ◌∙◌, arith, inl, inr}
use Rattle.std.specs.Prelude.{Contains, ◌⊎◌, codes}
use Rattle.std.specs.List.{list_all, fold}
use Rattle.std.specs.Int.{is_in_range}
use Rattle.std.proofs.lemmas.Bool.{and_parts, and_from, or_cases, cond_both, cond-true, cond-false, cases_Bool, cases_lt, agree_below, agree_below_at, lt-ltb, ltb-true, eqb-true, ne_eqb, not-true, not_from_true, not_from_false}
use Rattle.std.proofs.lemmas.Bool.Decides.{nat_tests}
use Rattle.std.proofs.lemmas.List.{append-nil, take_at, take-append-drop, drop_more, drop_all, get_or_push, length_push}
use Rattle.std.proofs.lemmas.List.Sums.{AllPass-from_list_all}
use Rattle.c_lexer.specs.Spelling.{is_name_byte, digit_value, are_digits, IsDigits, nought, decimal, hexadecimal, suffixes, IsNumberText}
use Rattle.c_lexer.specs.Reading.{value_from, without_suffix, digits_value, number_text}
use Rattle.c_lexer.proofs.Lists.{list_all-weaker, list_all-append, member_cases, member_passes, no_member, first_member, later_member, cond_is_first, some_is, none_is_not}

-- ---- digits

-- what holds of the digits, and so of the bytes below 103
digit_high : (b : ℕ) → 103 ≤ b → digit_value b ≡ 16
digit_high b h = grind (arith, nat_tests)

pub digit_passes : (q : ℕ → Bool) → agree_below (λ b. nat_lt (digit_value b) 16 && not (q b)) (λ b. false) 103 ≡ true
    → (b : ℕ) → nat_lt (digit_value b) 16 ≡ true → q b ≡ true
digit_passes q table b h =
    elim (cases_lt b 103) [
      | inl below ↦
          let none = agree_below_at (λ b. nat_lt (digit_value b) 16 && not (q b)) (λ b. false) 103 b table below in
          elim (cases_Bool (q b)) [ inl holds ↦ holds | inr fails ↦ let both = and_from (nat_lt (digit_value b) 16) (not (q b)) h (not_from_false _ fails) in absurd cc ]
      | inr above ↦ let high = digit_high b above in let low = ltb-true (digit_value b) 16 h in absurd (omega arith)
    ]

digit_wider : (b : ℕ) → nat_lt (digit_value b) 10 ≡ true → nat_lt (digit_value b) 16 ≡ true
digit_wider b h = lt-ltb _ _ (omega (arith, ltb-true (digit_value b) 10 h))

pub first_is_digit : (b : ℕ) → is_in_range 49 57 b ≡ true → (nat_lt (digit_value b) 10 ≡ true) × ((b == 48) ≡ false)
first_is_digit b h = (grind (arith, nat_tests), grind (arith, nat_tests))

digit_is_first : (b : ℕ) → nat_lt (digit_value b) 10 ≡ true → (b == 48) ≡ false → is_in_range 49 57 b ≡ true
digit_is_first b h ne = grind (arith, nat_tests)

pub IsDigits-passes : (q : ℕ → Bool) → ((b : ℕ) → nat_lt (digit_value b) 16 ≡ true → q b ≡ true) → q 120 ≡ true
    → (text : List ℕ) (value : ℕ) → IsDigits text value → list_all q text ≡ true
IsDigits-passes q each x text value nought = and_from (q 48) true (each 48 refl) refl
IsDigits-passes q each x text value (decimal first more range digits) =
    and_from (q first) (list_all q more) (each first (digit_wider first (first_is_digit first range).0))
    (list_all-weaker (λ b. nat_lt (digit_value b) 10) q (λ b lt. each b (digit_wider b lt)) more digits)
IsDigits-passes q each x text value (hexadecimal first more digits) =
    and_from (q 48) (q 120 && list_all q (first ∷ more)) (each 48 refl)
    (and_from (q 120) (list_all q (first ∷ more)) x (list_all-weaker (λ b. nat_lt (digit_value b) 16) q each (first ∷ more) digits))

-- ---- values

fold_grows : (base : ℕ) → ((v : ℕ) → v ≤ base * v) → (value : ℕ) (bytes : List ℕ) → value ≤ fold (λ n b. base * n + digit_value b) value bytes
fold_grows base grows value [] = omega arith
fold_grows base grows value (b ∷ bs) =
    omega (arith, grows value, fold_grows base grows (base * value + digit_value b) bs)

value_again : (base : ℕ) → ((v : ℕ) → v ≤ base * v) → (value : ℕ) (bytes : List ℕ) → are_digits base bytes ≡ true
    → fold (λ n b. base * n + digit_value b) value bytes < 2 ^ 63
    → value_from base value bytes ≡ Some (fold (λ n b. base * n + digit_value b) value bytes)
value_again base grows value [] digits small = refl
value_again base grows value (b ∷ bs) digits small =
    let k = and_parts (nat_lt (digit_value b) base) (are_digits base bs) digits in
    let next = base * value + digit_value b in
    let within : next < 2 ^ 63 = omega (arith, fold_grows base grows next bs) in
    cond-true _ _ _ (and_from (nat_lt (digit_value b) base) (nat_lt next (2 ^ 63)) k.0 (lt-ltb _ _ within)) ∙ value_again base grows next bs k.1 small

pub record IsValue (base value : ℕ) (bytes : List ℕ) (total : ℕ) : Type 0 where
  pub digits : are_digits base bytes ≡ true
  pub value_is : total ≡ fold (λ n b. base * n + digit_value b) value bytes
  pub small : value < 2 ^ 63 → total < 2 ^ 63

value_found : (base value : ℕ) (bytes : List ℕ) (total : ℕ) → value_from base value bytes ≡ Some total → IsValue base value bytes total
value_found base value [] total e =
    let same = some_is value total e in
    record { digits = refl; value_is = sym same; small = λ lt. omega arith }
value_found base value (b ∷ bs) total e =
    let next = base * value + digit_value b in
    let passed = cond_is_first (nat_lt (digit_value b) base && nat_lt next (2 ^ 63)) (value_from base next bs) None (Some total) e (none_is_not total) in
    let k = and_parts (nat_lt (digit_value b) base) (nat_lt next (2 ^ 63)) passed.0 in
    let more = value_found base next bs total passed.1 in
    record {
      digits = and_from (nat_lt (digit_value b) base) (are_digits base bs) k.0 more.digits;
      value_is = more.value_is;
      small = λ lt. more.small (ltb-true _ _ k.1);
    }

-- ---- whole texts without a suffix

digits_again : (digits : List ℕ) (value : ℕ) → IsDigits digits value → value < 2 ^ 63 → digits_value digits ≡ Some value
unfolding digits_value
digits_again digits value nought small = refl
digits_again digits value (decimal first more range digit) small =
    let f = first_is_digit first range in
    cond-true _ _ _ (not_from_false _ f.1)
    ∙ value_again 10 (λ v. omega arith) 0 (first ∷ more) (and_from (nat_lt (digit_value first) 10) (are_digits 10 more) f.0 digit) small
digits_again digits value (hexadecimal first more digit) small =
    let one : (length (48 ∷ 120 ∷ first ∷ more) == 1) ≡ false = ne_eqb _ _ (λ e. omega arith) in
    let long : nat_lt 2 (length (48 ∷ 120 ∷ first ∷ more)) ≡ true = lt-ltb _ _ (omega arith) in
    cond-false _ _ _ one ∙ cond-true _ _ _ long ∙ value_again 16 (λ v. omega arith) 0 (first ∷ more) digit small

hex_found : (digits : List ℕ) (value : ℕ) → get_or digits 0 0 ≡ 48 → get_or digits 1 0 ≡ 120 → 2 < length digits
    → value_from 16 0 (drop 2 digits) ≡ Some value → IsDigits digits value
hex_found [] value a b long e = absurd (omega arith)
hex_found (x ∷ []) value a b long e = absurd (omega arith)
hex_found (x ∷ y ∷ []) value a b long e = absurd (omega arith)
hex_found (x ∷ y ∷ first ∷ more) value a b long e =
    let v = value_found 16 0 (first ∷ more) value e in
    let h : IsDigits (codes "0x" ++ first ∷ more) value = rw v.value_is (hexadecimal first more v.digits) in
    subst (λ (t : List ℕ). IsDigits t value) (λ i. sym a i ∷ sym b i ∷ first ∷ more) h

nought_found : (digits : List ℕ) → get_or digits 0 0 ≡ 48 → length digits ≡ 1 → IsDigits digits 0
nought_found [] a len = absurd (omega arith)
nought_found (x ∷ []) a len = subst (λ (t : List ℕ). IsDigits t 0) (λ i. sym a i ∷ []) nought
nought_found (x ∷ y ∷ more) a len = absurd (omega arith)

digits_found : (first : ℕ) (more : List ℕ) (value : ℕ) → digits_value (first ∷ more) ≡ Some value → IsDigits (first ∷ more) value × (value < 2 ^ 63)
unfolding digits_value
digits_found first more value e =
    elim (cases_Bool (first == 48)) [
      | inl holds ↦
          let is48 = eqb-true first 48 holds in
          let e2 = rw holds at e in
          elim (cases_Bool (length (first ∷ more) == 1)) [
            | inl one ↦
                let e3 = rw one at e2 in
                let z : 0 ≡ value = some_is 0 value e3 in
                (subst (λ v. IsDigits (first ∷ more) v) z (nought_found (first ∷ more) is48 (eqb-true _ _ one)), omega arith)
            | inr longer ↦
                let e3 = rw longer at e2 in
                let passed = cond_is_first (get_or more 0 0 == 120 && nat_lt 2 (length (first ∷ more))) (value_from 16 0 (drop 2 (first ∷ more))) None (Some value) e3 (none_is_not value) in
                let k = and_parts (get_or more 0 0 == 120) (nat_lt 2 (length (first ∷ more))) passed.0 in
                (hex_found (first ∷ more) value is48 (eqb-true _ _ k.0) (ltb-true _ _ k.1) passed.1, (value_found 16 0 (drop 2 (first ∷ more)) value passed.1).small (omega arith))
          ]
      | inr fails ↦
          let e2 = rw fails at e in
          let v = value_found 10 0 (first ∷ more) value e2 in
          let k = and_parts (nat_lt (digit_value first) 10) (are_digits 10 more) v.digits in
          (rw v.value_is (decimal first more (digit_is_first first k.0 fails) k.1), v.small (omega arith))
    ]

-- ---- with the suffix

digit_is_no_suffix : (b : ℕ) → nat_lt (digit_value b) 16 ≡ true → not (b == 76 || b == 108) ≡ true
digit_is_no_suffix = digit_passes (λ b. not (b == 76 || b == 108)) refl

-- the last element of a list that passes, and of one with an element behind it
last_passes : (p : ℕ → Bool) (xs : List ℕ) → 0 < length xs → list_all p xs ≡ true → p (get_or xs (length xs - 1) 0) ≡ true
last_passes p xs long h = AllPass-from_list_all p xs h (length xs - 1) 0 (omega arith)

last_pushed : (xs : List ℕ) (y : ℕ) → get_or (xs ++ y ∷ []) (length (xs ++ y ∷ []) - 1) 0 ≡ y
last_pushed xs y = get_or_push xs y 0 (length (xs ++ y ∷ []) - 1) (omega (arith, length_push xs y))

IsDigits-long : (text : List ℕ) (value : ℕ) → IsDigits text value → 0 < length text
IsDigits-long text value nought = omega arith
IsDigits-long text value (decimal first more range digits) = omega arith
IsDigits-long text value (hexadecimal first more digits) = omega arith

without_none : (digits : List ℕ) (value : ℕ) → IsDigits digits value → without_suffix digits ≡ digits
unfolding without_suffix
without_none digits value h =
    let passes = IsDigits-passes (λ b. not (b == 76 || b == 108)) digit_is_no_suffix refl digits value h in
    let last = get_or digits (length digits - 1) 0 in
    cond-false (last == 76 || last == 108) _ _ (not-true _ (last_passes (λ b. not (b == 76 || b == 108)) digits (IsDigits-long digits value h) passes))

without_one : (digits : List ℕ) (b : ℕ) → (b == 76 || b == 108) ≡ true → without_suffix (digits ++ b ∷ []) ≡ digits
unfolding without_suffix
without_one digits b h =
    let last : get_or (digits ++ b ∷ []) (length (digits ++ b ∷ []) - 1) 0 ≡ b = last_pushed digits b in
    cond-true _ _ _ (ap (λ x. x == 76 || x == 108) last ∙ h) ∙ take_at digits (b ∷ []) (length (digits ++ b ∷ []) - 1) (omega (arith, length_push digits b))

without_again : (digits suffix : List ℕ) (value : ℕ) → IsDigits digits value → Contains suffixes suffix → without_suffix (digits ++ suffix) ≡ digits
without_again digits suffix value h member =
    elim (member_cases [] (codes "L" ∷ codes "l" ∷ []) suffix member) [
      | inl e ↦ subst (λ (s : List ℕ). without_suffix (digits ++ s) ≡ digits) e (ap without_suffix (append-nil digits) ∙ without_none digits value h)
      | inr more ↦ elim (member_cases (codes "L") (codes "l" ∷ []) suffix more) [
        | inl e ↦ subst (λ (s : List ℕ). without_suffix (digits ++ s) ≡ digits) e (without_one digits 76 refl)
        | inr last ↦ elim (member_cases (codes "l") [] suffix last) [
          | inl e ↦ subst (λ (s : List ℕ). without_suffix (digits ++ s) ≡ digits) e (without_one digits 108 refl)
          | inr none ↦ absurd (no_member suffix none)
        ]
      ]
    ]

pub number_again : (text : List ℕ) (value : ℕ) → IsNumberText text value → number_text text ≡ Some value
unfolding number_text
number_again text value n =
    ap digits_value (ap without_suffix n.spelled ∙ without_again n.digits n.suffix value n.are_digits n.is_suffix)
    ∙ digits_again n.digits value n.are_digits n.in_range

suffix_byte_cases : (b : ℕ) → (b == 76 || b == 108) ≡ true → (b ≡ 76) ⊎ (b ≡ 108)
suffix_byte_cases b h = elim (or_cases (b == 76) (b == 108) h) [ inl e ↦ inl (eqb-true b 76 e) | inr e ↦ inr (eqb-true b 108 e) ]

suffix_byte_member : (b : ℕ) → (b == 76 || b == 108) ≡ true → Contains suffixes (b ∷ [])
suffix_byte_member b h =
    elim (suffix_byte_cases b h) [
      | inl e ↦ subst (λ (x : ℕ). Contains suffixes (x ∷ [])) (sym e) (later_member [] (codes "L" ∷ codes "l" ∷ []) (codes "L") (first_member (codes "L") (codes "l" ∷ [])))
      | inr e ↦ subst (λ (x : ℕ). Contains suffixes (x ∷ [])) (sym e) (later_member [] (codes "L" ∷ codes "l" ∷ []) (codes "l") (later_member (codes "L") (codes "l" ∷ []) (codes "l") (first_member (codes "l") [])))
    ]

last_is_there : (text : List ℕ) → (get_or text (length text - 1) 0 == 76 || get_or text (length text - 1) 0 == 108) ≡ true → 0 < length text
last_is_there [] h = absurd cc
last_is_there (b ∷ bs) h = omega arith

-- a text is what is left without the suffix, and a suffix
suffix_found : (text : List ℕ) → (suffix : List ℕ) × (text ≡ without_suffix text ++ suffix) × Contains suffixes suffix
unfolding without_suffix
suffix_found text =
    let last = get_or text (length text - 1) 0 in
    cond_both (last == 76 || last == 108) (take (length text - 1) text) text
    (λ l. (suffix : List ℕ) × (text ≡ l ++ suffix) × Contains suffixes suffix)
    (λ e.
    let long : 0 < length text = last_is_there text e in
    let rest : drop (length text - 1) text ≡ last ∷ [] = drop_more text (length text - 1) 0 (omega arith) ∙ ap (λ l. last ∷ l) (drop_all (length text - 1 + 1) text (omega arith)) in
    (last ∷ [], sym (ap (λ l. take (length text - 1) text ++ l) (sym rest) ∙ take-append-drop (length text - 1) text), suffix_byte_member last e))
    (λ e. ([], sym (append-nil text), first_member [] (codes "L" ∷ codes "l" ∷ [])))

begins_with_no_digit : List ℕ → Bool
begins_with_no_digit text = not (nat_lt (digit_value (get_or text 0 0)) 10)

number_from_parts : (text digits suffix : List ℕ) (value : ℕ) → text ≡ digits ++ suffix → Contains suffixes suffix
    → nat_lt (digit_value (get_or text 0 0)) 10 ≡ true → digits_value digits ≡ Some value → IsNumberText text value
unfolding begins_with_no_digit
number_from_parts text [] suffix value e member digit v =
    let none : not (nat_lt (digit_value (get_or text 0 0)) 10) ≡ true = ap begins_with_no_digit e ∙ member_passes begins_with_no_digit suffixes suffix refl member in
    let other = not_from_true _ digit in
    absurd cc
number_from_parts text (d ∷ ds) suffix value e member digit v =
    let found = digits_found d ds value v in
    record { digits = d ∷ ds; suffix = suffix; spelled = e; are_digits = found.0; is_suffix = member; in_range = found.1 }

pub number_found : (text : List ℕ) (value : ℕ) → nat_lt (digit_value (get_or text 0 0)) 10 ≡ true → number_text text ≡ Some value → IsNumberText text value
unfolding number_text
number_found text value digit e =
    let s = suffix_found text in
    number_from_parts text (without_suffix text) s.0 value s.1 s.2 digit e

-- ---- a number is letters and digits

pub number_is_word : (text : List ℕ) (value : ℕ) → IsNumberText text value → list_all is_name_byte text ≡ true
number_is_word text value n =
    let passes = IsDigits-passes is_name_byte (digit_passes is_name_byte refl) refl n.digits value n.are_digits in
    ap (list_all is_name_byte) n.spelled ∙ list_all-append is_name_byte n.digits n.suffix passes (member_passes (list_all is_name_byte) suffixes n.suffix refl n.is_suffix)
