-- One token after another: what is told of the tokens so far.
use Rattle.std.proofs.Common.{◌≡◌, ℕ, suc, ◌+◌, ◌≤◌, false, cond, List, [], ◌∷◌, ◌++◌, length, drop, refl, sym, ap, subst, ◌∙◌, arith, append_assoc, length-append, append-nil}
use Rattle.std.proofs.lemmas.List.{drop_all}
use Rattle.c_lexer.specs.declared.tokens.Token.{Token}
use Rattle.c_lexer.specs.declared.tokens.TokenKind.{TokenKind}
use Rattle.c_lexer.specs.declared.tokens.TokenKind.TheVariants as kind
use Rattle.c_lexer.specs.Texts.{text_of}
use Rattle.c_grammar.specs.declared.words.Word.{Word}
use Rattle.c_parser.specs.Programs.{is_string, names_after, names_of, word_of, words_after, words_of_source, Strings, none, string, skip}
use Rattle.c_parser.specs.Words.{Adds, names_with, Told}
use Rattle.c_parser.proofs.NameLemmas.{word_kept}

pub nothing_told : (source : List ℕ) (tokens : List Token) → Told source tokens 0 [] [] []
nothing_told source tokens = record { names = refl; words = refl; strings = λ more s. s }

-- how a token goes on with the strings
record Goes (source : List ℕ) (t : Token) (old new : List (List ℕ)) : Type 0 where
  counted : length new ≡ cond (is_string t.kind) (suc (length old)) (length old)
  more : List (List ℕ)
  is : new ≡ old ++ more
  strings : (tokens : List Token) (rest : List (List ℕ)) → Strings source tokens rest → Strings source (t ∷ tokens) (more ++ rest)

goes_past : (source : List ℕ) (t : Token) (k : TokenKind) (old new : List (List ℕ)) → t.kind ≡ k → is_string k ≡ false → (k ≡ kind.Str → ⊥) → new ≡ old → Goes source t old new
goes_past source t k old new e none_more other h = record {
  counted = ap length h ∙ sym (ap (λ j. cond (is_string j) (suc (length old)) (length old)) e ∙ ap (λ b. cond b (suc (length old)) (length old)) none_more);
  more = [];
  is = h ∙ sym (append-nil old);
  strings = λ tokens rest s. skip t tokens rest (λ is. other (sym e ∙ is)) s;
}

goes : (source : List ℕ) (t : Token) (k : TokenKind) (old new : List (List ℕ)) → t.kind ≡ k → Adds k (text_of source t) old new → Goes source t old new
goes source t kind.Name old new e h = goes_past source t kind.Name old new e refl (λ f. cc) h
goes source t kind.Keyword old new e h = goes_past source t kind.Keyword old new e refl (λ f. cc) h
goes source t (kind.Num v) old new e h = goes_past source t (kind.Num v) old new e refl (λ f. cc) h
goes source t (kind.Char v) old new e h = goes_past source t (kind.Char v) old new e refl (λ f. cc) h
goes source t kind.Sign old new e h = goes_past source t kind.Sign old new e refl (λ f. cc) h
goes source t kind.Str old new e h = record {
  counted = ap length h.2 ∙ length-append old (h.0 ∷ []) ∙ (omega arith) ∙ sym (ap (λ j. cond (is_string j) (suc (length old)) (length old)) e);
  more = h.0 ∷ [];
  is = h.2;
  strings = λ tokens rest s. string t tokens h.0 rest e h.1 s;
}

-- a token more
pub told_next : (source : List ℕ) (tokens : List Token) (index : ℕ) (t : Token) (done : List Word) (seen kept names strings : List (List ℕ)) (w : Word)
    → drop index tokens ≡ t ∷ drop (index + 1) tokens
    → Told source tokens index done seen kept
    → names ≡ names_with seen t.kind (text_of source t)
    → Adds t.kind (text_of source t) kept strings
    → w ≡ word_of source seen (length kept) t
    → Told source tokens (index + 1) (done ++ w ∷ []) names strings
told_next source tokens index t done seen kept names strings w next told named added is =
    let rest = drop (index + 1) tokens in
    let all = names_of source tokens in
    let g = goes source t t.kind kept strings refl added in
    let reached : names_after source seen (t ∷ rest) ≡ all = ap (names_after source seen) (sym next) ∙ told.names in
    let word : w ≡ word_of source all (length kept) t = is ∙ word_kept source t rest seen (length kept) ∙ ap (λ ns. word_of source ns (length kept) t) reached in
    let tail : w ∷ words_after source all (length strings) rest ≡ words_after source all (length kept) (t ∷ rest) =
    ap (λ n. w ∷ words_after source all n rest) g.counted ∙ ap (λ v. v ∷ words_after source all (cond (is_string t.kind) (suc (length kept)) (length kept)) rest) word in
    record {
      names = ap (λ ns. names_after source ns rest) named ∙ reached;
      words = append_assoc done (w ∷ []) (words_after source all (length strings) rest) ∙ ap (λ ws. done ++ ws) (tail ∙ ap (words_after source all (length kept)) (sym next)) ∙ told.words;
      strings = λ more s.
          subst (Strings source tokens) (sym (ap (λ ss. ss ++ more) g.is ∙ append_assoc kept g.more more))
          (told.strings (g.more ++ more) (subst (λ ts. Strings source ts (g.more ++ more)) (sym next) (g.strings rest more s)));
    }

pub record AllTold (source : List ℕ) (tokens : List Token) (done : List Word) (seen kept : List (List ℕ)) : Type 0 where
  pub names : seen ≡ names_of source tokens
  pub words : done ≡ words_of_source source tokens
  pub strings : Strings source tokens kept

pub all_told : (source : List ℕ) (tokens : List Token) (index : ℕ) (done : List Word) (seen kept : List (List ℕ))
    → length tokens ≤ index → Told source tokens index done seen kept → AllTold source tokens done seen kept
all_told source tokens index done seen kept past told =
    let ends : drop index tokens ≡ [] = drop_all index tokens past in
    record {
      names = ap (names_after source seen) (sym ends) ∙ told.names;
      words = sym (append-nil done) ∙ ap (λ ts. done ++ words_after source (names_of source tokens) (length kept) ts) (sym ends) ∙ told.words;
      strings = subst (Strings source tokens) (append-nil kept) (told.strings [] (subst (λ ts. Strings source ts []) (sym ends) none));
    }
