-- The paths through types without names.
use Rattle.std.proofs.Common.{◌≡◌, ℕ, ◌+◌, ◌-◌, Bool, true, false, ◌&&◌, cond, List, [], ◌∷◌, ◌++◌, get_or, drop, refl, sym, ap, ◌∙◌, lit<}
use Rattle.std.proofs.lemmas.Bool.{and_from, both_ways, cond-true, cond-false}
use Rattle.c_ast.specs.declared.program.TypeName.{TypeName}
use Rattle.c_grammar.specs.declared.words.Word.{Word}
use Rattle.c_grammar.specs.declared.words.Terminal.TheVariants as terminal
use Rattle.c_grammar.specs.declared.words.Terminal.TheVariants.{Void, Close}
use Rattle.c_parser.specs.declared.spot.Spot.{Spot}
use Rattle.c_parser.specs.declared.spot.TheConstants.{NESTING}
use Rattle.c_grammar.specs.Terminals.{same_terminal}
use Rattle.c_grammar.specs.Steps.{OfType, Types, Give, Push, First}
use Rattle.c_grammar.specs.Grammar.{Form, ParameterTypes, MoreTypes, In, Out, Symbol, T, N, M, B, Unless}
use Rattle.c_grammar.specs.Grammar as form
use Rattle.c_grammar.specs.Ways.{way_number, is_bare_void, can_begin}
use Rattle.c_grammar.specs.Reading.{BeginWith}
use Rattle.c_parser.specs.Paths.{state_at, Path, Leads, next_is}
use Rattle.c_grammar.proofs.Begins.{is_same}
use Rattle.c_parser.proofs.NumberLemmas.{number_else}
use Rattle.c_parser.proofs.PathLemmas.{no_word, next_word, begin_path, rule_path, pair_path, build_path, mark_path, unless_path}

zero_either : (b : Bool) (n : ℕ) → n ≡ cond b 0 0 → n ≡ 0
zero_either true n e = e
zero_either false n e = e

pub type_name_number : (ws : List Word) → way_number form.TypeName ws ≡ 0
type_name_number [] = refl
type_name_number (w ∷ ws) = zero_either _ _ refl

-- ---- `void )`

and_false : (b : Bool) → (b && false) ≡ false
and_false true = refl
and_false false = refl

second_next : (w : Word) (ws : List Word) → is_bare_void (w ∷ ws) ≡ (same_terminal w.terminal Void && next_is ws Close)
second_next w [] = sym (and_false (same_terminal w.terminal Void))
second_next w (v ∷ ws) = refl

pub bare_void_next : (words : List Word) (at : ℕ) → next_is (drop at words) Void ≡ true → is_bare_void (drop at words) ≡ next_is (drop (at + 1) words) Close
bare_void_next words at h =
    let n = next_word words at Void h in
    let w = get_or words at no_word in
    ap is_bare_void n.split ∙ second_next w (drop (at + 1) words) ∙ ap (λ b. b && next_is (drop (at + 1) words) Close) (is_same w.terminal Void n.is)

pub no_void : (ws : List Word) → next_is ws Void ≡ false → is_bare_void ws ≡ false
no_void [] h = refl
no_void (w ∷ ws) h = second_next w ws ∙ ap (λ b. b && next_is ws Close) h

guard_of : (ws : List Word) → is_bare_void ws ≡ false → ¬ BeginWith (Void ∷ Close ∷ []) ws
guard_of [] h g = absurd g
guard_of (v ∷ []) h g = absurd g.1
guard_of (v ∷ w ∷ ws) h g = both_ways _ h (and_from _ _ (is_same v.terminal Void g.0) (is_same w.terminal Close g.1.0))

-- ---- parameters

abbrev pub deeper : Spot → Spot
deeper spot = record spot { depth = spot.depth + 1 }

abbrev all : List Symbol
all = N ParameterTypes ∷ []

pub void_path : (words : List Word) (spot : Spot) → is_bare_void (drop spot.at words) ≡ true
    → Path NESTING words spot all (deeper spot) (T Void ∷ B (Give (Types [])) ∷ M Out ∷ []) []
void_path words spot h =
    mark_path NESTING words spot all spot In (T Void ∷ B (Give (Types [])) ∷ M Out ∷ []) [] (deeper spot) refl (λ vs. refl)
    (rule_path NESTING words spot all spot ParameterTypes [] [] 1 (cond-true _ _ _ h) (lit< tt) (begin_path NESTING words spot all))

pub void_read : (words : List Word) (spot behind outside : Spot) → is_bare_void (drop spot.at words) ≡ true → Leads NESTING words (deeper spot) (T Void ∷ []) behind []
    → outside ≡ record behind { depth = behind.depth - 1 } → Leads NESTING words spot all outside (Types [] ∷ [])
void_read words spot behind outside h taken is =
    mark_path NESTING words spot all behind Out [] (Types [] ∷ []) outside (ap (λ s. s.at) is) (λ vs. sym (ap (λ (s : Spot). state_at s vs) is))
    (build_path NESTING words spot all behind (Give (Types [])) (M Out ∷ []) [] (Types [] ∷ []) (λ built. refl)
    (pair_path NESTING words spot all (deeper spot) (T Void ∷ []) (B (Give (Types [])) ∷ M Out ∷ []) [] behind [] (void_path words spot h) taken))

pub no_types : (words : List Word) (spot : Spot) → is_bare_void (drop spot.at words) ≡ false → can_begin form.TypeName (drop spot.at words) ≡ false
    → Leads NESTING words spot all spot (Types [] ∷ [])
no_types words spot h g =
    build_path NESTING words spot all spot (Give (Types [])) [] [] (Types [] ∷ []) (λ built. refl)
    (rule_path NESTING words spot all spot ParameterTypes [] [] 0 (cond-false _ _ _ h ∙ cond-false _ _ _ g) (lit< tt) (begin_path NESTING words spot all))

abbrev pub after_first : List Symbol
after_first = B First ∷ N MoreTypes ∷ M Out ∷ []

pub list_path : (words : List Word) (spot : Spot) → is_bare_void (drop spot.at words) ≡ false → can_begin form.TypeName (drop spot.at words) ≡ true
    → Path NESTING words spot all (deeper spot) (N form.TypeName ∷ after_first) []
list_path words spot h g =
    mark_path NESTING words spot all spot In (N form.TypeName ∷ after_first) [] (deeper spot) refl (λ vs. refl)
    (unless_path NESTING words spot all spot (Void ∷ Close ∷ []) (M In ∷ N form.TypeName ∷ after_first) [] (guard_of (drop spot.at words) h)
    (rule_path NESTING words spot all spot ParameterTypes [] [] 2 (cond-false _ _ _ h ∙ cond-true _ _ _ g) (lit< tt) (begin_path NESTING words spot all)))

pub first_path : (words : List Word) (spot to : Spot) (t : TypeName) → is_bare_void (drop spot.at words) ≡ false → can_begin form.TypeName (drop spot.at words) ≡ true
    → Leads NESTING words (deeper spot) (N form.TypeName ∷ []) to (OfType t ∷ []) → Path NESTING words spot all to (N MoreTypes ∷ M Out ∷ []) (Types (t ∷ []) ∷ [])
first_path words spot to t h g leads =
    build_path NESTING words spot all to First (N MoreTypes ∷ M Out ∷ []) (OfType t ∷ []) (Types (t ∷ []) ∷ []) (λ built. refl)
    (pair_path NESTING words spot all (deeper spot) (N form.TypeName ∷ []) after_first [] to (OfType t ∷ []) (list_path words spot h g) leads)

abbrev pub after_comma : List Symbol
after_comma = N form.TypeName ∷ B Push ∷ N MoreTypes ∷ M Out ∷ []

pub comma_path : (words : List Word) (spot at : Spot) (types : List TypeName) → next_is (drop at.at words) terminal.Comma ≡ true
    → Path NESTING words spot all at (N MoreTypes ∷ M Out ∷ []) (Types types ∷ []) → Path NESTING words spot all at (T terminal.Comma ∷ after_comma) (Types types ∷ [])
comma_path words spot at types h p =
    rule_path NESTING words spot all at MoreTypes (M Out ∷ []) (Types types ∷ []) 0
    (number_else MoreTypes terminal.Comma (λ w ws. refl) refl (drop at.at words) true h) (lit< tt) p

pub after_comma_path : (words : List Word) (spot at behind : Spot) (types : List TypeName) → next_is (drop at.at words) terminal.Comma ≡ true
    → Path NESTING words spot all at (N MoreTypes ∷ M Out ∷ []) (Types types ∷ []) → Leads NESTING words at (T terminal.Comma ∷ []) behind []
    → Path NESTING words spot all behind after_comma (Types types ∷ [])
after_comma_path words spot at behind types h p taken =
    pair_path NESTING words spot all at (T terminal.Comma ∷ []) after_comma (Types types ∷ []) behind [] (comma_path words spot at types h p) taken

pub next_path : (words : List Word) (spot behind to : Spot) (types : List TypeName) (t : TypeName) → Path NESTING words spot all behind after_comma (Types types ∷ [])
    → Leads NESTING words behind (N form.TypeName ∷ []) to (OfType t ∷ []) → Path NESTING words spot all to (N MoreTypes ∷ M Out ∷ []) (Types (types ++ t ∷ []) ∷ [])
next_path words spot behind to types t p leads =
    build_path NESTING words spot all to Push (N MoreTypes ∷ M Out ∷ []) (OfType t ∷ Types types ∷ []) (Types (types ++ t ∷ []) ∷ []) (λ built. refl)
    (pair_path NESTING words spot all behind (N form.TypeName ∷ []) (B Push ∷ N MoreTypes ∷ M Out ∷ []) (Types types ∷ []) to (OfType t ∷ []) p leads)

pub list_end : (words : List Word) (spot at outside : Spot) (types : List TypeName) → next_is (drop at.at words) terminal.Comma ≡ false
    → outside ≡ record at { depth = at.depth - 1 } → Path NESTING words spot all at (N MoreTypes ∷ M Out ∷ []) (Types types ∷ []) → Leads NESTING words spot all outside (Types types ∷ [])
list_end words spot at outside types h is p =
    mark_path NESTING words spot all at Out [] (Types types ∷ []) outside (ap (λ s. s.at) is) (λ vs. sym (ap (λ (s : Spot). state_at s vs) is))
    (rule_path NESTING words spot all at MoreTypes (M Out ∷ []) (Types types ∷ []) 1
    (number_else MoreTypes terminal.Comma (λ w ws. refl) refl (drop at.at words) false h) (lit< tt) p)
