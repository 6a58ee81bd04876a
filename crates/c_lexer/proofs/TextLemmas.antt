-- Where the tokens of a source lie.
use Rattle.std.proofs.Common.{◌≡◌, ℕ, zero, suc, ◌+◌, ◌-◌, ◌<◌, ◌≤◌, List, [], ◌∷◌, ◌++◌, length, get_or, take, drop, refl, sym, ap, subst, ◌∙◌, add-one, arith}
use Rattle.std.specs.List.{All}
use Rattle.std.specs.List.Sorted.{IsStrictlyIncreasing}
use Rattle.std.proofs.lemmas.List.{append_assoc, length-append, length-map, take_at, drop_at}
use Rattle.std.proofs.lemmas.List.Elements.{All-nil, All-cons}
use Rattle.c_lexer.specs.declared.tokens.Token.{Token}
use Rattle.c_lexer.specs.declared.tokens.TokenKind.{TokenKind}
use Rattle.c_lexer.specs.Tokens.{IsToken, IsTokenBefore, IsTokenList, Reads, nothing, blank, token}
use Rattle.c_lexer.specs.Texts.{LiesIn, starts, LieIn}
use Rattle.c_lexer.proofs.PieceLemmas.{token-long}
use Rattle.c_lexer.proofs.ReadsLemmas.{token_from}

-- the text of a token that stands before the rest
text_in : (front text rest : List ℕ) (place end : ℕ) → place ≡ length front → end ≡ place + length text
    → take (end - place) (drop place (front ++ (text ++ rest))) ≡ text
text_in front text rest place end here e =
    ap (take (end - place)) (drop_at front (text ++ rest) place (sym here)) ∙ take_at text rest (end - place) (omega arith)

token_lies : (source front text rest : List ℕ) (place : ℕ) (kind : TokenKind) → source ≡ front ++ (text ++ rest) → place ≡ length front
    → IsTokenBefore kind text rest → LiesIn source (token_from kind place (place + length text))
token_lies source front text rest place kind whole here is =
    let long = token-long kind text is.token in
    let spelling : take (place + length text - place) (drop place source) ≡ text =
    ap (λ l. take (place + length text - place) (drop place l)) whole ∙ text_in front text rest place (place + length text) here refl in
    record {
      some_bytes = omega (arith, long);
      within = omega (arith, ap length whole, length-append front (text ++ rest), length-append text rest);
      spelled = subst (IsToken kind) (sym spelling) is.token;
    }

-- tokens from a place on
record LieFrom (source : List ℕ) (place : ℕ) (tokens : List Token) : Type 0 where
  each : All (LiesIn source) tokens
  from : (k : ℕ) → k < length tokens → place ≤ get_or (starts tokens) k 0
  rising : IsStrictlyIncreasing (starts tokens)
  room : place + length tokens ≤ length source

map_length : (tokens : List Token) → length (starts tokens) ≡ length tokens
map_length tokens = simp length-map

from_more : (place end next : ℕ) (kind : TokenKind) (tokens : List Token) → place ≤ next → ((k : ℕ) → k < length tokens → next ≤ get_or (starts tokens) k 0)
    → (k : ℕ) → k < length (token_from kind place end ∷ tokens) → place ≤ get_or (place ∷ starts tokens) k 0
from_more place end next kind tokens le low zero lt = omega arith
from_more place end next kind tokens le low (suc k) lt = let more = low k (omega arith) in omega arith

rising_more : (place end next : ℕ) (kind : TokenKind) (tokens : List Token) → place < next → ((k : ℕ) → k < length tokens → next ≤ get_or (starts tokens) k 0)
    → IsStrictlyIncreasing (starts tokens) → IsStrictlyIncreasing (place ∷ starts tokens)
rising_more place end next kind tokens lt low up zero within =
    let some : 0 < length tokens = omega (arith, map_length tokens) in let more = low 0 some in omega arith
rising_more place end next kind tokens lt low up (suc k) within = let here = up k (omega arith) in simp add-one (simp add-one at here)

lie_from : (source front : List ℕ) (place : ℕ) (bytes : List ℕ) (tokens : List Token) (end : ℕ) (left : List ℕ)
    → Reads place bytes tokens end left → source ≡ front ++ bytes → place ≡ length front → LieFrom source place tokens
lie_from source front place bytes tokens end left (nothing p b) whole here = record {
  each = All-nil (LiesIn source);
  from = λ k lt. absurd (omega arith);
  rising = λ k lt. absurd (omega arith);
  room = omega (arith, ap length whole, length-append front bytes);
}
lie_from source front place bytes tokens end left (blank p b text rest ts q l parts is more) whole here =
    let on = lie_from source (front ++ text) (place + length text) rest tokens end left more
    (whole ∙ ap (λ x. front ++ x) parts ∙ sym (append_assoc front text rest)) (omega (arith, length-append front text)) in
    record {
      each = on.each;
      from = λ k lt. let low = on.from k lt in omega arith;
      rising = on.rising;
      room = omega (arith, on.room);
    }
lie_from source front place bytes tokens end left (token p b text rest ts q l kind parts is more) whole here =
    let here_on = whole ∙ ap (λ x. front ++ x) parts in
    let on = lie_from source (front ++ text) (place + length text) rest ts end left more
    (here_on ∙ sym (append_assoc front text rest)) (omega (arith, length-append front text)) in
    let long = token-long kind text is.token in
    record {
      each = All-cons (LiesIn source) (token_from kind place (place + length text)) ts (token_lies source front text rest place kind here_on here is) on.each;
      from = from_more place (place + length text) (place + length text) kind ts (omega arith) on.from;
      rising = rising_more place (place + length text) (place + length text) kind ts (omega (arith, long)) on.from on.rising;
      room = omega (arith, on.room, long);
    }

pub lie_in : (source : List ℕ) (tokens : List Token) → IsTokenList source tokens → LieIn source tokens
lie_in source tokens h =
    let all = lie_from source [] 0 source tokens (length source) [] h refl refl in
    record { each = all.each; rising = all.rising; no_more_than_bytes = omega (arith, all.room) }
