-- A comment that is closed is read to its end, and what is read is closed there.
use Rattle.std.proofs.Common.{◌≡◌, ℕ, ◌+◌, true, false, ◌&&◌, ◌==◌, cond, List, [], ◌∷◌, ◌++◌, length, Some, refl, sym, ap, ◌∙◌, arith, inl, inr}
use Rattle.std.specs.List.{prefix_len}
use Rattle.std.proofs.lemmas.Bool.{and_parts, or_from, or_parts, cond-true, cond-false, cases_Bool, eqb-true, not_from_false}
use Rattle.c_lexer.proofs.Lists.{some_is}
use Rattle.c_lexer.specs.Tokens.{slash_next, has_close, is_not_line_feed, EndsLine}
use Rattle.c_lexer.specs.Reading.{comment_end}

slash_next-append : (body rest : List ℕ) → slash_next (body ++ 42 ∷ rest) ≡ slash_next body
slash_next-append [] rest = refl
slash_next-append (b ∷ body) rest = refl

pub comment_again : (place : ℕ) (body rest : List ℕ) → has_close body ≡ false → comment_end place (body ++ 42 ∷ 47 ∷ rest) ≡ Some (place + (length body + 2))
comment_again place [] rest h = refl
comment_again place (b ∷ body) rest h =
    let k = or_parts (b == 42 && slash_next body) (has_close body) h in
    let open_yet : (b == 42 && slash_next (body ++ 42 ∷ 47 ∷ rest)) ≡ false = ap (λ t. b == 42 && t) (slash_next-append body (47 ∷ rest)) ∙ k.0 in
    cond-false _ _ _ open_yet ∙ comment_again (place + 1) body rest k.1 ∙ ap (λ n. Some n) (omega arith)

pub record CommentFound (place : ℕ) (bytes : List ℕ) (end : ℕ) : Type 0 where
  pub body : List ℕ
  pub rest : List ℕ
  pub parts : bytes ≡ body ++ 42 ∷ 47 ∷ rest
  pub end_is : end ≡ place + (length body + 2)
  pub open_before : has_close body ≡ false

close_found : (place b : ℕ) (bs : List ℕ) (end : ℕ) → (b == 42) ≡ true → slash_next bs ≡ true → Some (place + 2) ≡ Some end → CommentFound place (b ∷ bs) end
close_found place b [] end star slash e = absurd cc
close_found place b (c ∷ bs) end star slash e =
    let same = some_is (place + 2) end e in
    record { body = []; rest = bs; parts = (λ i. eqb-true b 42 star i ∷ eqb-true c 47 slash i ∷ bs); end_is = omega arith; open_before = refl }

pub comment_found : (place : ℕ) (bytes : List ℕ) (end : ℕ) → comment_end place bytes ≡ Some end → CommentFound place bytes end
comment_found place [] end e = absurd cc
comment_found place (b ∷ bs) end e =
    elim (cases_Bool (b == 42 && slash_next bs)) [
      | inl closed ↦
          let k = and_parts (b == 42) (slash_next bs) closed in
          close_found place b bs end k.0 k.1 (sym (cond-true _ _ _ closed) ∙ e)
      | inr open_yet ↦
          let more = comment_found (place + 1) bs end (sym (cond-false _ _ _ open_yet) ∙ e) in
          let same : slash_next bs ≡ slash_next more.body = ap slash_next more.parts ∙ slash_next-append more.body (47 ∷ more.rest) in
          record {
            body = b ∷ more.body;
            rest = more.rest;
            parts = ap (λ l. b ∷ l) more.parts;
            end_is = omega (arith, more.end_is);
            open_before = or_from (b == 42 && slash_next more.body) (has_close more.body) (ap (λ t. b == 42 && t) (sym same) ∙ open_yet) more.open_before;
          }
    ]

-- ---- the line's end

pub EndsLine-stops : (rest : List ℕ) → EndsLine rest → prefix_len is_not_line_feed rest ≡ 0
EndsLine-stops [] h = refl
EndsLine-stops (b ∷ rest) h = ap (λ x. cond (is_not_line_feed x) (1 + prefix_len is_not_line_feed rest) 0) h

pub EndsLine-from_stops : (rest : List ℕ) → prefix_len is_not_line_feed rest ≡ 0 → EndsLine rest
EndsLine-from_stops [] h = tt
EndsLine-from_stops (b ∷ rest) h =
    elim (cases_Bool (b == 10)) [
      | inl holds ↦ eqb-true b 10 holds
      | inr fails ↦
          let more : 1 + prefix_len is_not_line_feed rest ≡ 0 = sym (cond-true (is_not_line_feed b) _ _ (not_from_false _ fails)) ∙ h in
          absurd (omega arith)
    ]
