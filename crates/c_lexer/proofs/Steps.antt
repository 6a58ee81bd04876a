-- One turn of each loop: what a definition by recursion on the list says at a place of the list.
use Rattle.std.proofs.Common.{◌≡◌, ℕ, ◌+◌, ◌*◌, ◌^◌, ◌<◌, true, false, not, ◌&&◌, ◌||◌, ◌==◌, cond, nat_lt, List, [], ◌∷◌, length, get_or, drop, Option, Some, None, is_some, refl, sym, ap, ◌∙◌, arith}
use Rattle.std.specs.Prelude.{if◌then◌else◌}
use Rattle.std.specs.Int.{is_in_range}
use Rattle.std.proofs.lemmas.Bool.{and_parts, or_parts, not-true, cond-false, cond-true}
use Rattle.std.proofs.lemmas.List.{drop_more, drop-drop, get_or-drop}
use Rattle.c_lexer.specs.Spelling.{digit_value, escaped, is_plain}
use Rattle.c_lexer.specs.Tokens.{slash_next}
use Rattle.c_lexer.specs.Reading.{value_from, string_end, comment_end}

pub value_more : (base value : ℕ) (bytes : List ℕ) (i : ℕ) → i < length bytes
    → value_from base value (drop i bytes) ≡ (if nat_lt (digit_value (get_or bytes i 0)) base && nat_lt (base * value + digit_value (get_or bytes i 0)) (2 ^ 63) then value_from base (base * value + digit_value (get_or bytes i 0)) (drop (i + 1) bytes) else None)
value_more base value bytes i h = ap (value_from base value) (drop_more bytes i 0 h)

-- a `/` is next exactly where the byte there is one
slash_next-drop : (bytes : List ℕ) → slash_next bytes ≡ (get_or bytes 0 0 == 47)
slash_next-drop [] = refl
slash_next-drop (b ∷ bs) = refl

pub comment_more : (bytes : List ℕ) (i : ℕ) → i < length bytes
    → comment_end i (drop i bytes) ≡ (if get_or bytes i 0 == 42 && get_or bytes (i + 1) 0 == 47 then Some (i + 2) else comment_end (i + 1) (drop (i + 1) bytes))
comment_more bytes i h =
    let next : slash_next (drop (i + 1) bytes) ≡ (get_or bytes (i + 1) 0 == 47) = slash_next-drop (drop (i + 1) bytes) ∙ ap (λ b. b == 47) (get_or-drop (i + 1) bytes 0 0 ∙ ap (λ k. get_or bytes k 0) (omega arith)) in
    ap (comment_end i) (drop_more bytes i 0 h) ∙ ap (λ t. cond (get_or bytes i 0 == 42 && t) (Some (i + 2)) (comment_end (i + 1) (drop (i + 1) bytes))) next

pub string_end-cons : (place b : ℕ) (bs : List ℕ)
    → string_end place (b ∷ bs) ≡ (if b == 34 then Some (place + 1) else (if b == 92 then (if is_some (escaped (get_or bs 0 0)) then string_end (place + 2) (drop 1 bs) else None) else (if is_plain 34 b then string_end (place + 1) bs else None)))
string_end-cons place b [] =
    elim (b == 34) as (λ t. cond t (Some (place + 1)) None ≡ cond t (Some (place + 1)) (cond (b == 92) None (cond (is_plain 34 b) None None))) [
      | true ↦ refl
      | false ↦ elim (b == 92) as (λ t. ◌≡◌ {A = Option ℕ} None (cond t None (cond (is_plain 34 b) None None))) [ true ↦ refl | false ↦ elim (is_plain 34 b) as (λ t. ◌≡◌ {A = Option ℕ} None (cond t None None)) [ true ↦ refl | false ↦ refl ] ]
    ]
string_end-cons place b (e ∷ bs) = refl

pub string_more : (bytes : List ℕ) (i : ℕ) → i < length bytes
    → string_end i (drop i bytes) ≡ (if get_or bytes i 0 == 34 then Some (i + 1) else (if get_or bytes i 0 == 92 then (if is_some (escaped (get_or bytes (i + 1) 0)) then string_end (i + 2) (drop (i + 2) bytes) else None) else (if is_plain 34 (get_or bytes i 0) then string_end (i + 1) (drop (i + 1) bytes) else None)))
string_more bytes i h =
    let second : get_or (drop (i + 1) bytes) 0 0 ≡ get_or bytes (i + 1) 0 = get_or-drop (i + 1) bytes 0 0 ∙ ap (λ k. get_or bytes k 0) (omega arith) in
    let third : drop 1 (drop (i + 1) bytes) ≡ drop (i + 2) bytes = drop-drop 1 (i + 1) bytes ∙ ap (λ k. drop k bytes) (omega arith) in
    let b = get_or bytes i 0 in
    ap (string_end i) (drop_more bytes i 0 h) ∙ string_end-cons i b (drop (i + 1) bytes)
    ∙ (λ k. cond (b == 34) (Some (i + 1)) (cond (b == 92) (cond (is_some (escaped (second k))) (string_end (i + 2) (third k)) None) (cond (is_plain 34 b) (string_end (i + 1) (drop (i + 1) bytes)) None)))

-- a plain byte is neither the quote nor `\`
pub plain_differs : (quote b : ℕ) → is_plain quote b ≡ true → ((b == quote) ≡ false) × ((b == 92) ≡ false)
plain_differs quote b h =
    let k = and_parts (is_in_range 32 126 b) (not (b == quote || b == 92)) h in
    or_parts (b == quote) (b == 92) (not-true _ k.1)

pub string_more_plain : (bytes : List ℕ) (i : ℕ) → i < length bytes → is_plain 34 (get_or bytes i 0) ≡ true
    → string_end (i + 1) (drop (i + 1) bytes) ≡ string_end i (drop i bytes)
string_more_plain bytes i h plain =
    let d = plain_differs 34 (get_or bytes i 0) plain in
    sym (string_more bytes i h ∙ cond-false _ _ _ d.0 ∙ cond-false _ _ _ d.1 ∙ cond-true _ _ _ plain)
