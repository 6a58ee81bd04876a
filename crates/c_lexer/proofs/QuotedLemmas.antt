-- A character or a string that is spelled is read, whatever follows it, and what is read is spelled.
use Rattle.std.proofs.Common.{◌≡◌, ℕ, ◌+◌, ◌≤◌, true, ◌&&◌, ◌==◌, cond, List, [], ◌∷◌, ◌++◌, length, get_or, take, drop, Option, Some, None, is_some, refl, sym, ap, subst, ◌∙◌, arith, inl, inr}
use Rattle.std.specs.Prelude.{option_map}
use Rattle.std.proofs.lemmas.Bool.{and_parts, and_from, cond-true, cond-false, cases_Bool, eqb-true}
use Rattle.std.proofs.lemmas.List.{append_assoc, length-append, take_at}
use Rattle.c_lexer.specs.Spelling.{escaped, is_plain, Spells, nothing, plain, escape, IsCharacterText, IsStringText}
use Rattle.c_lexer.specs.Reading.{character_at, string_end}
use Rattle.c_lexer.proofs.Lists.{cond_is_first, some_is, none_is_not}
use Rattle.c_lexer.proofs.Steps.{plain_differs, string_end-cons}

-- ---- characters

inner_again : (inner rest : List ℕ) (value : ℕ) → Spells 39 inner (value ∷ [])
    → character_at (39 ∷ inner ++ 39 ∷ [] ++ rest) ≡ Some (value, length (39 ∷ inner ++ 39 ∷ []))
unfolding character_at
inner_again inner rest value (plain b text bytes h nothing) =
    cond-false _ _ _ (plain_differs 39 b h).1 ∙ cond-true _ _ _ (and_from (is_plain 39 b) true h refl)
inner_again inner rest value (escape e b text bytes h nothing) = ap (option_map (λ x. (x, 4))) h

pub character_again : (text rest : List ℕ) (value : ℕ) → IsCharacterText text value → character_at (text ++ rest) ≡ Some (value, length text)
character_again text rest value h =
    subst (λ (t : List ℕ). character_at (t ++ rest) ≡ Some (value, length t)) (sym h.1) (inner_again h.0 rest value h.2)

pub record CharacterFound (bytes : List ℕ) (value len : ℕ) : Type 0 where
  pub text : IsCharacterText (take len bytes) value
  pub within : len ≤ length bytes

escape_found : (bytes : List ℕ) (value : ℕ) → get_or bytes 0 0 ≡ 39 → get_or bytes 1 0 ≡ 92 → get_or bytes 3 0 ≡ 39
    → escaped (get_or bytes 2 0) ≡ Some value → CharacterFound bytes value 4
escape_found [] value a b d e = absurd (omega arith)
escape_found (x ∷ []) value a b d e = absurd (omega arith)
escape_found (x ∷ y ∷ []) value a b d e = absurd (omega arith)
escape_found (x ∷ y ∷ z ∷ []) value a b d e = absurd (omega arith)
escape_found (x ∷ y ∷ z ∷ w ∷ rest) value a b d e = record {
  text = (92 ∷ z ∷ [], (λ i. a i ∷ b i ∷ z ∷ d i ∷ []), escape z value [] [] e nothing);
  within = omega arith;
}

plain_found : (bytes : List ℕ) → get_or bytes 0 0 ≡ 39 → is_plain 39 (get_or bytes 1 0) ≡ true → get_or bytes 2 0 ≡ 39
    → CharacterFound bytes (get_or bytes 1 0) 3
plain_found [] a b d = absurd (omega arith)
plain_found (x ∷ []) a b d = absurd (omega arith)
plain_found (x ∷ y ∷ []) a b d = absurd (omega arith)
plain_found (x ∷ y ∷ z ∷ rest) a b d = record {
  text = (y ∷ [], (λ i. a i ∷ y ∷ d i ∷ []), plain y [] [] b nothing);
  within = omega arith;
}

pair_is : (x n value len : ℕ) → ◌≡◌ {A = Option (ℕ × ℕ)} (Some (x, n)) (Some (value, len)) → (x ≡ value) × (n ≡ len)
pair_is x n value len e =
    let same : ◌≡◌ {A = ℕ × ℕ} (x, n) (value, len) = cc in
    (ap (λ (q : ℕ × ℕ). q.0) same, ap (λ (q : ℕ × ℕ). q.1) same)

mapped_is : (o : Option ℕ) (n value len : ℕ) → option_map {U = ℕ × ℕ} (λ x. (x, n)) o ≡ Some (value, len) → (o ≡ Some value) × (n ≡ len)
mapped_is None n value len e = absurd cc
mapped_is (Some x) n value len e = let k = pair_is x n value len e in (ap (λ v. Some v) k.0, k.1)

none_is_no_pair : (value len : ℕ) → ◌≡◌ {A = Option (ℕ × ℕ)} None (Some (value, len)) → ⊥
none_is_no_pair value len e = cc

pub character_found : (bytes : List ℕ) (value len : ℕ) → get_or bytes 0 0 ≡ 39 → character_at bytes ≡ Some (value, len) → CharacterFound bytes value len
unfolding character_at
character_found bytes value len quote e =
    let first = get_or bytes 1 0 in
    elim (cases_Bool (first == 92)) [
      | inl holds ↦
          let closed = cond_is_first (get_or bytes 3 0 == 39) (option_map (λ b. (b, 4)) (escaped (get_or bytes 2 0))) None (Some (value, len)) (sym (cond-true _ _ _ holds) ∙ e) (none_is_no_pair value len) in
          let parts = mapped_is (escaped (get_or bytes 2 0)) 4 value len closed.1 in
          subst (CharacterFound bytes value) parts.1 (escape_found bytes value quote (eqb-true _ _ holds) (eqb-true _ _ closed.0) parts.0)
      | inr fails ↦
          let closed = cond_is_first (is_plain 39 first && get_or bytes 2 0 == 39) (Some (first, 3)) None (Some (value, len)) (sym (cond-false _ _ _ fails) ∙ e) (none_is_no_pair value len) in
          let k = and_parts (is_plain 39 first) (get_or bytes 2 0 == 39) closed.0 in
          let parts = pair_is first 3 value len closed.1 in
          subst (λ v. CharacterFound bytes v len) parts.0 (subst (CharacterFound bytes first) parts.1 (plain_found bytes quote k.0 (eqb-true _ _ k.1)))
    ]

-- ---- strings

inside_again : (place : ℕ) (inner rest values : List ℕ) → Spells 34 inner values → string_end place (inner ++ 34 ∷ rest) ≡ Some (place + (length inner + 1))
inside_again place inner rest values nothing = string_end-cons place 34 rest
inside_again place inner rest values (plain b text bytes h more) =
    let d = plain_differs 34 b h in
    string_end-cons place b (text ++ 34 ∷ rest) ∙ cond-false _ _ _ d.0 ∙ cond-false _ _ _ d.1 ∙ cond-true _ _ _ h
    ∙ inside_again (place + 1) text rest bytes more ∙ ap (λ n. Some n) (omega arith)
inside_again place inner rest values (escape e b text bytes h more) =
    string_end-cons place 92 (e ∷ text ++ 34 ∷ rest) ∙ cond-true _ _ _ (ap is_some h)
    ∙ inside_again (place + 2) text rest bytes more ∙ ap (λ n. Some n) (omega arith)

pub string_again : (text rest values : List ℕ) → IsStringText text values → string_end 1 (drop 1 (text ++ rest)) ≡ Some (length text)
string_again text rest values h =
    let inner = h.0 in
    subst (λ (t : List ℕ). string_end 1 (drop 1 (t ++ rest)) ≡ Some (length t)) (sym h.1)
    (ap (string_end 1) (append_assoc inner (34 ∷ []) rest) ∙ inside_again 1 inner rest values h.2 ∙ ap (λ n. Some n) (omega (arith, length-append inner (34 ∷ []))))

record InsideFound (place : ℕ) (bytes : List ℕ) (end : ℕ) : Type 0 where
  inner : List ℕ
  values : List ℕ
  rest : List ℕ
  parts : bytes ≡ inner ++ 34 ∷ rest
  end_is : end ≡ place + (length inner + 1)
  spelled : Spells 34 inner values

quote_found : (place b : ℕ) (bs : List ℕ) (end : ℕ) → (b == 34) ≡ true → Some (place + 1) ≡ Some end → InsideFound place (b ∷ bs) end
quote_found place b bs end holds e =
    let same = some_is (place + 1) end e in
    record { inner = []; values = []; rest = bs; parts = ap (λ x. x ∷ bs) (eqb-true b 34 holds); end_is = omega arith; spelled = nothing }

is_some_value : (o : Option ℕ) → is_some o ≡ true → (x : ℕ) × (o ≡ Some x)
is_some_value None h = absurd cc
is_some_value (Some x) h = (x, refl)

inside_found : (place : ℕ) (bytes : List ℕ) (end : ℕ) → string_end place bytes ≡ Some end → InsideFound place bytes end
inside_found place [] end e = absurd (none_is_not end e)
inside_found place (b ∷ []) end e =
    let closed = cond_is_first (b == 34) (Some (place + 1)) None (Some end) e (none_is_not end) in
    quote_found place b [] end closed.0 closed.1
inside_found place (b ∷ c ∷ bs) end e =
    let escaped_end = string_end (place + 2) bs in
    let plain_end = string_end (place + 1) (c ∷ bs) in
    elim (cases_Bool (b == 34)) [
      | inl holds ↦ quote_found place b (c ∷ bs) end holds (sym (cond-true _ _ _ holds) ∙ e)
      | inr fails ↦
          let e2 : cond (b == 92) (cond (is_some (escaped c)) escaped_end None) (cond (is_plain 34 b) plain_end None) ≡ Some end = sym (cond-false _ _ _ fails) ∙ e in
          elim (cases_Bool (b == 92)) [
            | inl slash ↦
                let known = cond_is_first (is_some (escaped c)) escaped_end None (Some end) (sym (cond-true _ _ _ slash) ∙ e2) (none_is_not end) in
                let more = inside_found (place + 2) bs end known.1 in
                let value = is_some_value (escaped c) known.0 in
                record {
                  inner = 92 ∷ c ∷ more.inner;
                  values = value.0 ∷ more.values;
                  rest = more.rest;
                  parts = (λ i. eqb-true b 92 slash i ∷ c ∷ more.parts i);
                  end_is = omega (arith, more.end_is);
                  spelled = escape c value.0 more.inner more.values value.1 more.spelled;
                }
            | inr other ↦
                let known = cond_is_first (is_plain 34 b) plain_end None (Some end) (sym (cond-false _ _ _ other) ∙ e2) (none_is_not end) in
                let more = inside_found (place + 1) (c ∷ bs) end known.1 in
                record {
                  inner = b ∷ more.inner;
                  values = b ∷ more.values;
                  rest = more.rest;
                  parts = ap (λ l. b ∷ l) more.parts;
                  end_is = omega (arith, more.end_is);
                  spelled = plain b more.inner more.values known.0 more.spelled;
                }
          ]
    ]

pub record StringFound (bytes : List ℕ) (len : ℕ) : Type 0 where
  pub values : List ℕ
  pub text : IsStringText (take len bytes) values
  pub within : len ≤ length bytes

pub string_found : (bytes : List ℕ) (len : ℕ) → get_or bytes 0 0 ≡ 34 → string_end 1 (drop 1 bytes) ≡ Some len → StringFound bytes len
string_found [] len quote e = absurd (omega arith)
string_found (b ∷ bs) len quote e =
    let f = inside_found 1 bs len e in
    let whole = 34 ∷ f.inner ++ 34 ∷ [] in
    let parts : b ∷ bs ≡ whole ++ f.rest = (λ i. quote i ∷ f.parts i) ∙ ap (λ l. 34 ∷ l) (sym (append_assoc f.inner (34 ∷ []) f.rest)) in
    let len_is : length whole ≡ len = omega (arith, length-append f.inner (34 ∷ []), f.end_is) in
    record {
      values = f.values;
      text = (f.inner, ap (take len) parts ∙ take_at whole f.rest len len_is, f.spelled);
      within = omega (arith, ap length parts, length-append whole f.rest);
    }
