-- Going on from the last place, and that a source is read in one way.
use Rattle.std.proofs.Common.{◌≡◌, ℕ, zero, suc, ◌+◌, ◌<◌, ◌≤◌, List, [], ◌∷◌, ◌++◌, length, take, drop, refl, sym, ap, subst, ◌∙◌, arith, inl, inr}
use Rattle.std.specs.Prelude.{◌⊎◌}
use Rattle.std.proofs.lemmas.Bool.{cases_lt}
use Rattle.std.proofs.lemmas.List.{length-append, length-drop, length-take-le, take-append-drop, drop-drop, drop_all}
use Rattle.c_lexer.specs.declared.tokens.Token.{Token}
use Rattle.c_lexer.specs.declared.tokens.TokenKind.{TokenKind}
use Rattle.c_lexer.specs.declared.lexer.Piece.{Piece}
use Rattle.c_lexer.specs.declared.lexer.Piece.TheVariants.{Blank, Lexeme, Unknown}
use Rattle.c_lexer.specs.Tokens.{IsBlank, IsTokenBefore, Reads, nothing, blank, token, NothingBegins, IsTokenList, StopsAt}
use Rattle.c_lexer.specs.Reading.{piece_at}
use Rattle.c_lexer.proofs.Lists.{same_parts}
use Rattle.c_lexer.proofs.PieceLemmas.{IsPieceOf, piece_found, blank_again, token_again, IsBlank-long, token-long, nothing_begins}

-- ---- one more piece

pub Reads-then_blank : (place : ℕ) (bytes : List ℕ) (tokens : List Token) (end : ℕ) (left text rest : List ℕ) → Reads place bytes tokens end left
    → left ≡ text ++ rest → IsBlank text rest → Reads place bytes tokens (end + length text) rest
Reads-then_blank place bytes tokens end left text rest (nothing p b) e h = blank place bytes text rest [] (place + length text) rest e h (nothing (place + length text) rest)
Reads-then_blank place bytes tokens end left text rest (blank p b front back ts q l parts is more) e h =
    blank place bytes front back tokens (end + length text) rest parts is (Reads-then_blank (place + length front) back tokens end left text rest more e h)
Reads-then_blank place bytes tokens end left text rest (token p b front back ts q l kind parts is more) e h =
    token place bytes front back ts (end + length text) rest kind parts is (Reads-then_blank (place + length front) back ts end left text rest more e h)

abbrev pub token_from : TokenKind → ℕ → ℕ → Token
token_from kind start end = record { kind = kind; start = start; end = end }

pub Reads-then_token : (place : ℕ) (bytes : List ℕ) (tokens : List Token) (end : ℕ) (left : List ℕ) (kind : TokenKind) (text rest : List ℕ) → Reads place bytes tokens end left
    → left ≡ text ++ rest → IsTokenBefore kind text rest → Reads place bytes (tokens ++ token_from kind end (end + length text) ∷ []) (end + length text) rest
Reads-then_token place bytes tokens end left kind text rest (nothing p b) e h =
    token place bytes text rest [] (place + length text) rest kind e h (nothing (place + length text) rest)
Reads-then_token place bytes tokens end left kind text rest (blank p b front back ts q l parts is more) e h =
    blank place bytes front back (tokens ++ token_from kind end (end + length text) ∷ []) (end + length text) rest parts is (Reads-then_token (place + length front) back tokens end left kind text rest more e h)
Reads-then_token place bytes tokens end left kind text rest (token p b front back ts q l k parts is more) e h =
    token place bytes front back (ts ++ token_from kind end (end + length text) ∷ []) (end + length text) rest k parts is (Reads-then_token (place + length front) back ts end left kind text rest more e h)

-- ---- one way

-- nothing is left, or nothing stands there
abbrev pub IsEnd : List ℕ → Type 0
IsEnd left = (left ≡ []) ⊎ NothingBegins left

pub record SameEnd (tokens others : List Token) (end stop : ℕ) (left rest : List ℕ) : Type 0 where
  pub same_tokens : tokens ≡ others
  pub same_place : end ≡ stop
  pub same_left : left ≡ rest

no_blank_at_end : (left text rest : List ℕ) → IsEnd left → left ≡ text ++ rest → IsBlank text rest → ⊥
no_blank_at_end left text rest (inl e) parts h = let long = IsBlank-long text rest h in omega (arith, ap length (sym e ∙ parts), length-append text rest)
no_blank_at_end left text rest (inr n) parts h = n.no_blank text rest parts h

no_token_at_end : (left : List ℕ) (kind : TokenKind) (text rest : List ℕ) → IsEnd left → left ≡ text ++ rest → IsTokenBefore kind text rest → ⊥
no_token_at_end left kind text rest (inl e) parts h = let long = token-long kind text h.token in omega (arith, ap length (sym e ∙ parts), length-append text rest)
no_token_at_end left kind text rest (inr n) parts h = n.no_token kind text rest parts h

blank_is : (m n : ℕ) → Blank m ≡ Blank n → m ≡ n
blank_is m n e = cc

lexeme_is : (k l : TokenKind) (m n : ℕ) → Lexeme k m ≡ Lexeme l n → (k ≡ l) × (m ≡ n)
lexeme_is k l m n e = (cc, cc)

blanks_same : (text rest front back : List ℕ) → text ++ rest ≡ front ++ back → IsBlank text rest → IsBlank front back → length text ≡ length front
blanks_same text rest front back e h k = blank_is (length text) (length front) (sym (blank_again text rest h) ∙ ap piece_at e ∙ blank_again front back k)

blank_is_no_token : (text rest front back : List ℕ) (kind : TokenKind) → text ++ rest ≡ front ++ back → IsBlank text rest → IsTokenBefore kind front back → ⊥
blank_is_no_token text rest front back kind e h k =
    let clash : Blank (length text) ≡ Lexeme kind (length front) = sym (blank_again text rest h) ∙ ap piece_at e ∙ token_again kind front back k in
    cc

tokens_same : (text rest front back : List ℕ) (kind other : TokenKind) → text ++ rest ≡ front ++ back → IsTokenBefore kind text rest → IsTokenBefore other front back
    → (kind ≡ other) × (length text ≡ length front)
tokens_same text rest front back kind other e h k =
    lexeme_is kind other (length text) (length front) (sym (token_again kind text rest h) ∙ ap piece_at e ∙ token_again other front back k)

reads_once : (place : ℕ) (bytes : List ℕ) (tokens : List Token) (end : ℕ) (left : List ℕ) (at : ℕ) (source : List ℕ) (others : List Token) (stop : ℕ) (rest : List ℕ)
    → Reads place bytes tokens end left → Reads at source others stop rest → IsEnd left → IsEnd rest → place ≡ at → bytes ≡ source
    → SameEnd tokens others end stop left rest
reads_once place bytes tokens end left at source others stop rest (nothing p b) (nothing q c) is_end is_stop same whole =
    record { same_tokens = refl; same_place = same; same_left = whole }
reads_once place bytes tokens end left at source others stop rest (nothing p b) (blank q c front back us r m parts is more) is_end is_stop same whole =
    absurd (no_blank_at_end left front back is_end (whole ∙ parts) is)
reads_once place bytes tokens end left at source others stop rest (nothing p b) (token q c front back us r m kind parts is more) is_end is_stop same whole =
    absurd (no_token_at_end left kind front back is_end (whole ∙ parts) is)
reads_once place bytes tokens end left at source others stop rest (blank p b text after ts q l parts is more) (nothing r c) is_end is_stop same whole =
    absurd (no_blank_at_end rest text after is_stop (sym whole ∙ parts) is)
reads_once place bytes tokens end left at source others stop rest (blank p b text after ts q l parts is more) (blank r c front back us s m parts' is' more') is_end is_stop same whole =
    let joined = sym parts ∙ whole ∙ parts' in
    let long = blanks_same text after front back joined is is' in
    let same_rest = (same_parts text front after back joined long).1 in
    reads_once (place + length text) after tokens end left (at + length front) back others stop rest more more' is_end is_stop (omega arith) same_rest
reads_once place bytes tokens end left at source others stop rest (blank p b text after ts q l parts is more) (token r c front back us s m kind parts' is' more') is_end is_stop same whole =
    absurd (blank_is_no_token text after front back kind (sym parts ∙ whole ∙ parts') is is')
reads_once place bytes tokens end left at source others stop rest (token p b text after ts q l kind parts is more) (nothing r c) is_end is_stop same whole =
    absurd (no_token_at_end rest kind text after is_stop (sym whole ∙ parts) is)
reads_once place bytes tokens end left at source others stop rest (token p b text after ts q l kind parts is more) (blank r c front back us s m parts' is' more') is_end is_stop same whole =
    absurd (blank_is_no_token front back text after kind (sym parts' ∙ sym whole ∙ parts) is' is)
reads_once place bytes tokens end left at source others stop rest (token p b text after ts q l kind parts is more) (token r c front back us s m other parts' is' more') is_end is_stop same whole =
    let joined = sym parts ∙ whole ∙ parts' in
    let twins = tokens_same text after front back kind other joined is is' in
    let same_rest = (same_parts text front after back joined twins.1).1 in
    let ends : place + length text ≡ at + length front = omega (arith, twins.1) in
    let later = reads_once (place + length text) after ts end left (at + length front) back us stop rest more more' is_end is_stop ends same_rest in
    record {
      same_tokens = λ i. token_from (twins.0 i) (same i) (ends i) ∷ later.same_tokens i;
      same_place = later.same_place;
      same_left = later.same_left;
    }

pub one_list : (source : List ℕ) (tokens others : List Token) → IsTokenList source tokens → IsTokenList source others → tokens ≡ others
one_list source tokens others h k =
    (reads_once 0 source tokens (length source) [] 0 source others (length source) [] h k (inl refl) (inl refl) refl refl).same_tokens

pub one_place : (source : List ℕ) (place other : ℕ) → StopsAt source place → StopsAt source other → place ≡ other
one_place source place other h k =
    (reads_once 0 source h.0 place h.1 0 source k.0 other k.1 h.2 k.2 (inr h.3) (inr k.3) refl refl).same_place

pub list_or_place : (source : List ℕ) (tokens : List Token) (place : ℕ) → IsTokenList source tokens → StopsAt source place → ⊥
list_or_place source tokens place h k =
    k.3.some_left (sym (reads_once 0 source tokens (length source) [] 0 source k.0 place k.1 h k.2 (inl refl) (inr k.3) refl refl).same_left)

-- ---- one turn of the reader

pub record ReadsOn (source : List ℕ) (at len : ℕ) (tokens : List Token) : Type 0 where
  pub within : at + len ≤ length source
  pub positive : 0 < len
  pub reads : Reads 0 source tokens (at + len) (drop (at + len) source)

blank_on : (source : List ℕ) (at len : ℕ) (tokens : List Token) → at ≤ length source → Reads 0 source tokens at (drop at source)
    → IsPieceOf (drop at source) (Blank len) → ReadsOn source at len tokens
blank_on source at len tokens in_range reads piece =
    let left = drop at source in
    let text_length : length (take len left) ≡ len = length-take-le len left piece.0 in
    let on = Reads-then_blank 0 source tokens at left (take len left) (drop len left) reads (sym (take-append-drop len left)) piece.1 in
    record {
      within = omega (arith, length-drop at source, piece.0);
      positive = omega (arith, IsBlank-long (take len left) (drop len left) piece.1);
      reads = subst (λ (l : List ℕ). Reads 0 source tokens (at + len) l) (drop-drop len at source) (subst (λ n. Reads 0 source tokens (at + n) (drop len left)) text_length on);
    }

pub blank_turn : (source : List ℕ) (at len : ℕ) (tokens : List Token) → at ≤ length source → Reads 0 source tokens at (drop at source)
    → Blank len ≡ piece_at (drop at source) → ReadsOn source at len tokens
blank_turn source at len tokens in_range reads e =
    blank_on source at len tokens in_range reads (subst (IsPieceOf (drop at source)) (sym e) (piece_found (drop at source)))

token_on : (source : List ℕ) (at len : ℕ) (kind : TokenKind) (tokens : List Token) → at ≤ length source → Reads 0 source tokens at (drop at source)
    → IsPieceOf (drop at source) (Lexeme kind len) → ReadsOn source at len (tokens ++ token_from kind at (at + len) ∷ [])
token_on source at len kind tokens in_range reads piece =
    let left = drop at source in
    let text_length : length (take len left) ≡ len = length-take-le len left piece.0 in
    let on = Reads-then_token 0 source tokens at left kind (take len left) (drop len left) reads (sym (take-append-drop len left)) piece.1 in
    record {
      within = omega (arith, length-drop at source, piece.0);
      positive = omega (arith, token-long kind (take len left) piece.1.token);
      reads = subst (λ (l : List ℕ). Reads 0 source (tokens ++ token_from kind at (at + len) ∷ []) (at + len) l) (drop-drop len at source)
          (subst (λ n. Reads 0 source (tokens ++ token_from kind at (at + n) ∷ []) (at + n) (drop len left)) text_length on);
    }

pub token_turn : (source : List ℕ) (at len : ℕ) (kind : TokenKind) (tokens : List Token) → at ≤ length source → Reads 0 source tokens at (drop at source)
    → Lexeme kind len ≡ piece_at (drop at source) → ReadsOn source at len (tokens ++ token_from kind at (at + len) ∷ [])
token_turn source at len kind tokens in_range reads e =
    token_on source at len kind tokens in_range reads (subst (IsPieceOf (drop at source)) (sym e) (piece_found (drop at source)))

pub stops : (source : List ℕ) (at : ℕ) (tokens : List Token) → at < length source → Reads 0 source tokens at (drop at source)
    → Unknown ≡ piece_at (drop at source) → StopsAt source at
stops source at tokens in_range reads e =
    (tokens, drop at source, reads, nothing_begins (drop at source) (omega (arith, length-drop at source)) (sym e))

pub read_all : (source : List ℕ) (at : ℕ) (tokens : List Token) → at ≤ length source → length source ≤ at → Reads 0 source tokens at (drop at source) → IsTokenList source tokens
read_all source at tokens low high reads =
    let same : at ≡ length source = omega arith in
    subst (λ (l : List ℕ). Reads 0 source tokens (length source) l) (drop_all (length source) source (omega arith)) (subst (λ n. Reads 0 source tokens n (drop n source)) same reads)

-- ---- some way

abbrev pub IsRead : List ℕ → Type 0
IsRead source = ((tokens : List Token) × IsTokenList source tokens) ⊎ ((place : ℕ) × StopsAt source place)

read_on : (n : ℕ) (source : List ℕ) (at : ℕ) (tokens : List Token) → at ≤ length source → length source ≤ at + n → Reads 0 source tokens at (drop at source)
    → (p : Piece) → p ≡ piece_at (drop at source) → IsRead source
read_on zero source at tokens low high reads p e = inl (tokens, read_all source at tokens low (omega arith) reads)
read_on (suc n) source at tokens low high reads (Blank len) e =
    let t = blank_turn source at len tokens low reads e in
    read_on n source (at + len) tokens t.within (omega (arith, t.positive)) t.reads (piece_at (drop (at + len) source)) refl
read_on (suc n) source at tokens low high reads (Lexeme kind len) e =
    let t = token_turn source at len kind tokens low reads e in
    read_on n source (at + len) (tokens ++ token_from kind at (at + len) ∷ []) t.within (omega (arith, t.positive)) t.reads (piece_at (drop (at + len) source)) refl
read_on (suc n) source at tokens low high reads Unknown e =
    elim (cases_lt at (length source)) [
      | inl before ↦ inr (at, stops source at tokens before reads e)
      | inr past ↦ inl (tokens, read_all source at tokens low past reads)
    ]

pub is_read : (source : List ℕ) → IsRead source
is_read source = read_on (length source) source 0 [] (omega arith) (omega arith) (nothing 0 source) (piece_at source) refl
