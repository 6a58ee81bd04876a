-- Names in first-seen order: a name's number stays when more names come to the end.
use Rattle.std.proofs.Common.{◌≡◌, ℕ, suc, ◌+◌, ◌<◌, ◌≤◌, Bool, true, false, cond, ◌||◌, List, [], ◌∷◌, ◌++◌, map, length, drop, get_or, refl, sym, ap, ◌∙◌, arith, append_assoc, append-nil}
use Rattle.std.specs.Prelude.{bytes_eq}
use Rattle.std.specs.List.{list_any, position_or_len}
use Rattle.std.proofs.lemmas.List.{drop_more, drop_all}
use Rattle.std.proofs.lemmas.List.Folds.{list_any-append}
use Rattle.std.proofs.lemmas.List.Recursion.{is_position_or_len}
use Rattle.std.proofs.lemmas.Slice.Eq.{bytes_eq-Decides}
use Rattle.c_lexer.specs.declared.tokens.Token.{Token}
use Rattle.c_lexer.specs.declared.tokens.TokenKind.{TokenKind}
use Rattle.c_lexer.specs.declared.tokens.TokenKind.TheVariants as kind
use Rattle.c_lexer.specs.Texts.{text_of}
use Rattle.c_parser.specs.Programs.{is_name, with_name, names_after, number_in, value_of, word_of}
use Rattle.c_parser.specs.Words.{names_with, value_in}

module _ {K : Type 0} (f : K → List ℕ) (text : List ℕ) where
  any_of : (ks : List K) → list_any (bytes_eq text) (map f ks) ≡ list_any (λ k. bytes_eq text (f k)) ks
  any_of [] = refl
  any_of (k ∷ ks) = ap (λ b. bytes_eq text (f k) || b) (any_of ks)

  pub number_of_key : (ks : List K) → position_or_len (λ k. bytes_eq text (f k)) ks ≡ number_in (map f ks) text
  number_of_key ks = sym (is_position_or_len (λ ns. number_in (map f ns) text) (λ k. bytes_eq text (f k)) refl (λ n ns. ap (λ k. cond (bytes_eq text (f n)) 0 k) (omega arith)) ks)

map_push : {K : Type 0} (f : K → List ℕ) (k : K) (ks : List K) → map f (ks ++ k ∷ []) ≡ map f ks ++ f k ∷ []
map_push f k [] = refl
map_push f k (x ∷ ks) = ap (λ r. f x ∷ r) (map_push f k ks)

-- the names of keys once a key is put in
pub names_of_keys : {K : Type 0} (f : K → List ℕ) (k : K) (ks : List K)
    → map f (cond (list_any (λ x. bytes_eq (f k) (f x)) ks) ks (ks ++ k ∷ [])) ≡ with_name (map f ks) (f k)
names_of_keys {K} f k ks =
    let either : (b : Bool) → map f (cond b ks (ks ++ k ∷ [])) ≡ cond b (map f ks) (map f ks ++ f k ∷ []) =
    λ b. elim b as (λ (b : Bool). map f (cond b ks (ks ++ k ∷ [])) ≡ cond b (map f ks) (map f ks ++ f k ∷ [])) [ true ↦ refl | false ↦ map_push f k ks ] in
    either (list_any (λ x. bytes_eq (f k) (f x)) ks)
    ∙ ap (λ b. cond b (map f ks) (map f ks ++ f k ∷ [])) (sym (any_of f (f k) ks))

abbrev has : List (List ℕ) → List ℕ → Bool
has names text = list_any (bytes_eq text) names

itself : (text : List ℕ) → bytes_eq text text ≡ true
itself text = (bytes_eq-Decides text text).1 refl

number_before : (text : List ℕ) (more names : List (List ℕ)) → has names text ≡ true → number_in (names ++ more) text ≡ number_in names text
number_before text more [] h = absurd cc
number_before text more (n ∷ names) h =
    elim (bytes_eq text n) as (λ (b : Bool). (b || has names text) ≡ true → cond b 0 (suc (number_in (names ++ more) text)) ≡ cond b 0 (suc (number_in names text))) [
      | true ↦ λ k. refl
      | false ↦ λ k. ap suc (number_before text more names k)
    ] h

number_last : (text : List ℕ) (names : List (List ℕ)) → has names text ≡ false → number_in (names ++ text ∷ []) text ≡ number_in names text
number_last text [] h = ap (λ b. cond b 0 1) (itself text)
number_last text (n ∷ names) h =
    elim (bytes_eq text n) as (λ (b : Bool). (b || has names text) ≡ false → cond b 0 (suc (number_in (names ++ text ∷ []) text)) ≡ cond b 0 (suc (number_in names text))) [
      | true ↦ λ k. refl
      | false ↦ λ k. ap suc (number_last text names k)
    ] h

-- a text that is there, or has just come to the end
with_name_has : (text : List ℕ) (names : List (List ℕ)) (b : Bool) → has names text ≡ b
    → has (cond b names (names ++ text ∷ [])) text ≡ true
with_name_has text names true h = h
with_name_has text names false h = list_any-append (bytes_eq text) names (text ∷ []) ∙ ap (λ c. c || (bytes_eq text text || false)) h ∙ ap (λ c. c || false) (itself text)

with_name_number : (text : List ℕ) (names : List (List ℕ)) (b : Bool) → has names text ≡ b
    → number_in (cond b names (names ++ text ∷ [])) text ≡ number_in names text
with_name_number text names true h = refl
with_name_number text names false h = number_last text names h

stays_seen : (text other : List ℕ) (names : List (List ℕ)) (b : Bool) → has names text ≡ true
    → has (cond b names (names ++ other ∷ [])) text ≡ true
stays_seen text other names true h = h
stays_seen text other names false h = list_any-append (bytes_eq text) names (other ∷ []) ∙ ap (λ c. c || (bytes_eq text other || false)) h

stays_numbered : (text other : List ℕ) (names : List (List ℕ)) (b : Bool) → has names text ≡ true
    → number_in (cond b names (names ++ other ∷ [])) text ≡ number_in names text
stays_numbered text other names true h = refl
stays_numbered text other names false h = number_before text (other ∷ []) names h

number_after : (source text : List ℕ) (tokens : List Token) (names : List (List ℕ)) → has names text ≡ true
    → number_in (names_after source names tokens) text ≡ number_in names text
number_after source text [] names h = refl
number_after source text (t ∷ tokens) names h =
    let other = text_of source t in
    elim (is_name t.kind) as (λ (b : Bool). number_in (names_after source (cond b (with_name names other) names) tokens) text ≡ number_in names text) [
      | true ↦ number_after source text tokens (with_name names other) (stays_seen text other names (has names other) h) ∙ stays_numbered text other names (has names other) h
      | false ↦ number_after source text tokens names h
    ]

-- the number of a name is that in all names of the source
pub number_kept : (source text : List ℕ) (tokens : List Token) (names : List (List ℕ))
    → number_in (names_after source (with_name names text) tokens) text ≡ number_in names text
number_kept source text tokens names =
    number_after source text tokens (with_name names text) (with_name_has text names (has names text) refl) ∙ with_name_number text names (has names text) refl

-- a word's value is that in all names of the source
value_kept : (source text : List ℕ) (tokens : List Token) (names : List (List ℕ)) (n : ℕ) (k : TokenKind)
    → value_in names n text k ≡ value_in (names_after source (names_with names k text) tokens) n text k
value_kept source text tokens names n kind.Name = sym (number_kept source text tokens names)
value_kept source text tokens names n kind.Keyword = refl
value_kept source text tokens names n (kind.Num v) = refl
value_kept source text tokens names n (kind.Char v) = refl
value_kept source text tokens names n kind.Str = refl
value_kept source text tokens names n kind.Sign = refl

pub value_in_is : (source : List ℕ) (t : Token) (names : List (List ℕ)) (n : ℕ) (k : TokenKind)
    → value_in names n (text_of source t) k ≡ value_of source names n t k
value_in_is source t names n kind.Name = refl
value_in_is source t names n kind.Keyword = refl
value_in_is source t names n (kind.Num v) = refl
value_in_is source t names n (kind.Char v) = refl
value_in_is source t names n kind.Str = refl
value_in_is source t names n kind.Sign = refl

pub word_kept : (source : List ℕ) (t : Token) (tokens : List Token) (names : List (List ℕ)) (n : ℕ)
    → word_of source names n t ≡ word_of source (names_after source names (t ∷ tokens)) n t
word_kept source t tokens names n =
    let all = names_after source names (t ∷ tokens) in
    let same : value_of source names n t t.kind ≡ value_of source all n t t.kind =
    sym (value_in_is source t names n t.kind) ∙ value_kept source (text_of source t) tokens names n t.kind ∙ value_in_is source t all n t.kind in
    ap (λ (v : ℕ). record (word_of source names n t) { value = v }) same

-- one key after another is copied
pub copied_next : {K : Type 0} (f : K → List ℕ) (ks : List K) (i : ℕ) (d : K) (done : List (List ℕ)) → i < length ks
    → done ++ map f (drop i ks) ≡ map f ks → (done ++ f (get_or ks i d) ∷ []) ++ map f (drop (i + 1) ks) ≡ map f ks
copied_next f ks i d done below h = append_assoc done (f (get_or ks i d) ∷ []) (map f (drop (i + 1) ks)) ∙ ap (λ rest. done ++ map f rest) (sym (drop_more ks i d below)) ∙ h

pub copied_all : {K : Type 0} (f : K → List ℕ) (ks : List K) (i : ℕ) (done : List (List ℕ)) → length ks ≤ i
    → done ++ map f (drop i ks) ≡ map f ks → done ≡ map f ks
copied_all f ks i done past h = sym (append-nil done) ∙ ap (λ rest. done ++ map f rest) (sym (drop_all i ks past)) ∙ h
