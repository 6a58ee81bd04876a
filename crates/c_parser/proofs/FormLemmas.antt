-- A form at a spot: the path by its way, and what a word alone makes of it.
use Rattle.std.proofs.Common.{◌≡◌, ℕ, ◌+◌, ◌<◌, true, false, List, [], ◌∷◌, ◌++◌, length, drop, refl, sym, ap, subst, ◌∙◌, arith}
use Rattle.std.proofs.lemmas.Bool.{cond-false}
use Rattle.c_grammar.specs.declared.words.Word.{Word}
use Rattle.c_grammar.specs.declared.words.Terminal.{Terminal}
use Rattle.c_grammar.specs.declared.words.Terminal.TheVariants.{Char, Int, Long, Void, Struct}
use Rattle.c_parser.specs.declared.spot.Spot.{Spot}
use Rattle.c_parser.specs.declared.spot.TheConstants.{NESTING}
use Rattle.c_grammar.specs.Steps.{Value, Give}
use Rattle.c_grammar.specs.Grammar.{Form, BaseType, Symbol, T, N, B}
use Rattle.c_grammar.specs.Ways.{ways, way_at, way_number, begun_way}
use Rattle.c_parser.specs.Paths.{Path, Leads, Parses, next_is}
use Rattle.c_parser.proofs.PathLemmas.{begin_path, rule_path, pair_path, build_path}
use Rattle.c_parser.proofs.NumberLemmas.{number_at}

pub only_place : (spot to : Spot) (n : ℕ) → to ≡ record spot { at = n } → to ≡ record spot { at = to.at }
only_place spot to n is = is ∙ ap (λ i. record spot { at = i }) (sym (ap (λ s. s.at) is))

pub place_then : (spot middle to : Spot) (m n : ℕ) → middle ≡ record spot { at = m } → to ≡ record middle { at = n } → to ≡ record spot { at = n }
place_then spot middle to m n first second = let move : Spot → Spot = λ s. record s { at = n } in second ∙ ap move first

-- the way of a form that this word begins
pub begun_path : (words : List Word) (spot : Spot) (f : Form) (t : Terminal) (i : ℕ) (rest : List Symbol)
    → ((w : Word) (ws : List Word) → way_number f (w ∷ ws) ≡ begun_way f w.terminal) → begun_way f t ≡ i → i < length (ways f) → way_at ways f i ++ [] ≡ rest
    → next_is (drop spot.at words) t ≡ true → Path NESTING words spot (N f ∷ []) spot rest []
begun_path words spot f t i rest one number below is h =
    subst (λ (l : List Symbol). Path NESTING words spot (N f ∷ []) spot l []) is
    (rule_path NESTING words spot (N f ∷ []) spot f [] [] i (number_at f t one (drop spot.at words) h ∙ number) below (begin_path NESTING words spot (N f ∷ [])))

-- a form that is one word, and builds this
pub word_parses : (words : List Word) (spot to : Spot) (f : Form) (t : Terminal) (v : Value) → Path NESTING words spot (N f ∷ []) spot (T t ∷ B (Give v) ∷ []) []
    → Leads NESTING words spot (T t ∷ []) to [] → to ≡ record spot { at = spot.at + 1 } → spot.at < length words → Parses words spot f to v
word_parses words spot to f t v path taken place more = record {
  leads = build_path NESTING words spot (N f ∷ []) to (Give v) [] [] (v ∷ []) (λ built. refl)
      (pair_path NESTING words spot (N f ∷ []) spot (T t ∷ []) (B (Give v) ∷ []) [] to [] path taken);
  same = only_place spot to (spot.at + 1) place;
  on = omega (arith, ap (λ s. s.at) place);
  within = omega (arith, ap (λ s. s.at) place, more);
}

-- no base type is next
pub base_none : (ws : List Word) → next_is ws Char ≡ false → next_is ws Int ≡ false → next_is ws Long ≡ false → next_is ws Void ≡ false → next_is ws Struct ≡ false
    → way_number BaseType ws ≡ 0
base_none [] a b c d e = refl
base_none (w ∷ ws) a b c d e = cond-false _ _ _ a ∙ cond-false _ _ _ b ∙ cond-false _ _ _ c ∙ cond-false _ _ _ d ∙ cond-false _ _ _ e
