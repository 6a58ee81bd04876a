-- Tokens have one answer at most.
use Rattle.std.proofs.Common.{◌≡◌, ◌≢◌, ℕ, List, [], ◌∷◌, refl, sym, ap, subst, ◌∙◌}
use Rattle.c_ast.specs.declared.program.Item.{Item}
use Rattle.c_ast.specs.declared.program.Program.{Program}
use Rattle.c_lexer.specs.declared.tokens.Token.{Token}
use Rattle.c_lexer.specs.declared.tokens.TokenKind.TheVariants as kind
use Rattle.c_lexer.specs.Spelling.{IsStringText}
use Rattle.c_lexer.specs.Texts.{text_of}
use Rattle.c_lexer.proofs.StringLemmas.{one_string}
use Rattle.c_grammar.specs.declared.words.Word.{Word}
use Rattle.c_grammar.proofs.Descents as descents
use Rattle.c_grammar.proofs.FaultLemmas.{one_syntax, one_depth, either_fault, program_no_syntax, program_shallow}
use Rattle.c_parser.specs.declared.errors.ParseError.{ParseError}
use Rattle.c_parser.specs.declared.errors.ParseError.TheVariants.{NoMemory, SyntaxFault, DepthFault}
use Rattle.c_parser.specs.Programs.{IsFault, IsProgram, Strings, none, string, skip, words_of_source}

-- the strings of some tokens, one on
abbrev Next : List ℕ → List Token → List (List ℕ) → Type 0
Next source [] strings = strings ≡ []
Next source (t ∷ tokens) strings =
    ((t.kind ≡ kind.Str) → (bytes : List ℕ) × (more : List (List ℕ)) × (strings ≡ bytes ∷ more) × IsStringText (text_of source t) bytes × Strings source tokens more)
    × ((t.kind ≢ kind.Str) → Strings source tokens strings)

next : (source : List ℕ) (tokens : List Token) (strings : List (List ℕ)) → Strings source tokens strings → Next source tokens strings
next source tokens strings none = refl
next source tokens strings (string t rest bytes more is text on) = (λ e. (bytes, more, refl, text, on), λ differs. absurd (differs is))
next source tokens strings (skip t rest same differs on) = (λ e. absurd (differs e), λ d. on)

one_strings : (source : List ℕ) (tokens : List Token) (strings others : List (List ℕ)) → Strings source tokens strings → Strings source tokens others → strings ≡ others
one_strings source tokens strings others none g = sym (next source [] others g)
one_strings source tokens strings others (string t rest bytes more is text on) g =
    let n = (next source (t ∷ rest) others g).0 is in
    ap (λ b. b ∷ more) (one_string (text_of source t) bytes n.0 text n.3) ∙ ap (λ l. n.0 ∷ l) (one_strings source rest more n.1 on n.4) ∙ sym n.2
one_strings source tokens strings others (skip t rest same differs on) g = one_strings source rest strings others on ((next source (t ∷ rest) others g).1 differs)

same_program : (p q : Program) → p.names ≡ q.names → p.strings ≡ q.strings → p.items ≡ q.items → p ≡ q
same_program p q names strings items = λ i. record { names = names i; strings = strings i; items = items i }

pub one_program : (source : List ℕ) (tokens : List Token) (limit : ℕ) (p q : Program) → IsProgram source tokens limit p → IsProgram source tokens limit q → p ≡ q
one_program source tokens limit p q h g =
    same_program p q (h.names ∙ sym g.names) (one_strings source tokens p.strings q.strings h.strings g.strings)
    (descents.one_program (words_of_source source tokens) p.items q.items h.way g.way h.reading g.reading)

pub one_fault : (limit : ℕ) (words : List Word) (e f : ParseError) → e ≢ NoMemory → f ≢ NoMemory → IsFault limit words e → IsFault limit words f → e ≡ f
one_fault limit words NoMemory f some other h g = absurd (some refl)
one_fault limit words (SyntaxFault t) NoMemory some other h g = absurd (other refl)
one_fault limit words (SyntaxFault t) (SyntaxFault u) some other h g = ap SyntaxFault (one_syntax limit words t u h g)
one_fault limit words (SyntaxFault t) (DepthFault u) some other h g = absurd (either_fault limit words t u h g)
one_fault limit words (DepthFault t) NoMemory some other h g = absurd (other refl)
one_fault limit words (DepthFault t) (SyntaxFault u) some other h g = absurd (either_fault limit words u t g h)
one_fault limit words (DepthFault t) (DepthFault u) some other h g = ap DepthFault (one_depth limit words t u h g)

fault_excludes : (source : List ℕ) (tokens : List Token) (limit : ℕ) (p : Program) (e : ParseError) → e ≢ NoMemory → IsProgram source tokens limit p
    → IsFault limit (words_of_source source tokens) e → ⊥
fault_excludes source tokens limit p NoMemory some h g = some refl
fault_excludes source tokens limit p (SyntaxFault t) some h g = program_no_syntax limit (words_of_source source tokens) t (p.items, h.way, h.reading) g
fault_excludes source tokens limit p (DepthFault t) some h g = program_shallow limit (words_of_source source tokens) p.items h.way t h.reading h.within g.deep

pub not_both : (source : List ℕ) (tokens : List Token) (limit : ℕ) (p : Program) (e : ParseError) → e ≢ NoMemory → IsProgram source tokens limit p
    → ¬ IsFault limit (words_of_source source tokens) e
not_both source tokens limit p e some h = λ g. fault_excludes source tokens limit p e some h g
