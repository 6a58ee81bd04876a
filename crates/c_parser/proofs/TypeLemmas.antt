-- The paths through a base type with its qualifiers, and through the stars of a pointer.
use Rattle.std.proofs.Common.{◌≡◌, ℕ, ◌+◌, ◌<◌, Bool, true, false, ◌||◌, cond, List, [], ◌∷◌, ◌++◌, length, get_or, drop, refl, sym, subst, lit<}
use Rattle.c_ast.specs.declared.program.Base.{Base}
use Rattle.c_ast.specs.declared.program.Star.{Star}
use Rattle.c_grammar.specs.declared.words.Word.{Word}
use Rattle.c_grammar.specs.declared.words.Terminal.TheVariants as terminal
use Rattle.c_parser.specs.declared.spot.Spot.{Spot}
use Rattle.c_parser.specs.declared.spot.TheConstants.{NESTING}
use Rattle.c_grammar.specs.Steps.{Place, Private, OfBase, OfSpecifier, Stars, Give, Push, MakeSpecifier}
use Rattle.c_grammar.specs.Grammar.{Specifier, PerhapsPrivate, BaseType, Pointer, MoreStars, CountStar, ForgetStars, Symbol, T, N, M, B, Here}
use Rattle.c_grammar.specs.Ways.{way_number}
use Rattle.c_parser.specs.Paths.{Path, Leads, next_is}
use Rattle.c_parser.proofs.NumberLemmas.{number_else}
use Rattle.c_parser.proofs.PathLemmas.{no_word, begin_path, rule_path, pair_path, build_path, mark_path, here_path}

zero_either : (b : Bool) (n : ℕ) → n ≡ cond b 0 0 → n ≡ 0
zero_either true n e = e
zero_either false n e = e

-- ---- a base type with its qualifiers

specifier_number : (ws : List Word) → way_number Specifier ws ≡ 0
specifier_number [] = refl
specifier_number (w ∷ ws) = zero_either _ _ refl

abbrev pub place_of : List Word → Spot → ℕ
place_of words spot = (get_or words spot.at no_word).place

pub specifier_rule : (words : List Word) (spot : Spot)
    → Path NESTING words spot (N Specifier ∷ []) spot (Here ∷ N PerhapsPrivate ∷ N BaseType ∷ N PerhapsPrivate ∷ B MakeSpecifier ∷ []) []
specifier_rule words spot =
    rule_path NESTING words spot (N Specifier ∷ []) spot Specifier [] [] 0 (specifier_number (drop spot.at words)) (lit< tt) (begin_path NESTING words spot (N Specifier ∷ []))

pub specifier_here : (words : List Word) (spot : Spot) → spot.at < length words
    → Path NESTING words spot (N Specifier ∷ []) spot (N PerhapsPrivate ∷ N BaseType ∷ N PerhapsPrivate ∷ B MakeSpecifier ∷ []) (Place (place_of words spot) ∷ [])
specifier_here words spot below =
    here_path NESTING words spot (N Specifier ∷ []) spot (N PerhapsPrivate ∷ N BaseType ∷ N PerhapsPrivate ∷ B MakeSpecifier ∷ []) [] below (specifier_rule words spot)

pub specifier_front : (words : List Word) (spot to : Spot) (front : Bool) → spot.at < length words → Leads NESTING words spot (N PerhapsPrivate ∷ []) to (Private front ∷ [])
    → Path NESTING words spot (N Specifier ∷ []) to (N BaseType ∷ N PerhapsPrivate ∷ B MakeSpecifier ∷ []) (Private front ∷ Place (place_of words spot) ∷ [])
specifier_front words spot to front below leads =
    pair_path NESTING words spot (N Specifier ∷ []) spot (N PerhapsPrivate ∷ []) (N BaseType ∷ N PerhapsPrivate ∷ B MakeSpecifier ∷ []) (Place (place_of words spot) ∷ [])
    to (Private front ∷ []) (specifier_here words spot below) leads

pub specifier_base : (words : List Word) (spot middle to : Spot) (front : Bool) (b : Base) → spot.at < length words → Leads NESTING words spot (N PerhapsPrivate ∷ []) middle (Private front ∷ [])
    → Leads NESTING words middle (N BaseType ∷ []) to (OfBase b ∷ [])
    → Path NESTING words spot (N Specifier ∷ []) to (N PerhapsPrivate ∷ B MakeSpecifier ∷ []) (OfBase b ∷ Private front ∷ Place (place_of words spot) ∷ [])
specifier_base words spot middle to front b below leads on =
    pair_path NESTING words spot (N Specifier ∷ []) middle (N BaseType ∷ []) (N PerhapsPrivate ∷ B MakeSpecifier ∷ []) (Private front ∷ Place (place_of words spot) ∷ [])
    to (OfBase b ∷ []) (specifier_front words spot middle front below leads) on

pub specifier_path : (words : List Word) (spot one two to : Spot) (front : Bool) (b : Base) (after : Bool) → spot.at < length words
    → Leads NESTING words spot (N PerhapsPrivate ∷ []) one (Private front ∷ []) → Leads NESTING words one (N BaseType ∷ []) two (OfBase b ∷ [])
    → Leads NESTING words two (N PerhapsPrivate ∷ []) to (Private after ∷ [])
    → Leads NESTING words spot (N Specifier ∷ []) to (OfSpecifier (record { place = place_of words spot; is_private = front || after; base = b }) ∷ [])
specifier_path words spot one two to front b after below leads on last =
    build_path NESTING words spot (N Specifier ∷ []) to MakeSpecifier [] (Private after ∷ OfBase b ∷ Private front ∷ Place (place_of words spot) ∷ [])
    (OfSpecifier (record { place = place_of words spot; is_private = front || after; base = b }) ∷ []) (λ built. refl)
    (pair_path NESTING words spot (N Specifier ∷ []) two (N PerhapsPrivate ∷ []) (B MakeSpecifier ∷ []) (OfBase b ∷ Private front ∷ Place (place_of words spot) ∷ [])
    to (Private after ∷ []) (specifier_base words spot one two front b below leads on) last)

-- ---- stars

pointer_number : (ws : List Word) → way_number Pointer ws ≡ 0
pointer_number [] = refl
pointer_number (w ∷ ws) = zero_either _ _ refl

pub pointer_begin : (words : List Word) (spot : Spot) → Path NESTING words spot (N Pointer ∷ []) spot (N MoreStars ∷ M ForgetStars ∷ []) (Stars [] ∷ [])
pointer_begin words spot =
    build_path NESTING words spot (N Pointer ∷ []) spot (Give (Stars [])) (N MoreStars ∷ M ForgetStars ∷ []) [] (Stars [] ∷ []) (λ built. refl)
    (rule_path NESTING words spot (N Pointer ∷ []) spot Pointer [] [] 0 (pointer_number (drop spot.at words)) (lit< tt) (begin_path NESTING words spot (N Pointer ∷ [])))

abbrev pub after_star : List Symbol
after_star = M CountStar ∷ N PerhapsPrivate ∷ B Push ∷ N MoreStars ∷ M ForgetStars ∷ []

pub star_next : (words : List Word) (spot at : Spot) (stars : List Star) → next_is (drop at.at words) terminal.Star ≡ true
    → Path NESTING words spot (N Pointer ∷ []) at (N MoreStars ∷ M ForgetStars ∷ []) (Stars stars ∷ []) → Path NESTING words spot (N Pointer ∷ []) at (T terminal.Star ∷ after_star) (Stars stars ∷ [])
star_next words spot at stars h p =
    rule_path NESTING words spot (N Pointer ∷ []) at MoreStars (M ForgetStars ∷ []) (Stars stars ∷ []) 0
    (number_else MoreStars terminal.Star (λ w ws. refl) refl (drop at.at words) true h) (lit< tt) p

pub star_marked : (words : List Word) (spot at behind marked : Spot) (stars : List Star) → next_is (drop at.at words) terminal.Star ≡ true
    → Path NESTING words spot (N Pointer ∷ []) at (N MoreStars ∷ M ForgetStars ∷ []) (Stars stars ∷ []) → Leads NESTING words at (T terminal.Star ∷ []) behind [] → marked ≡ record behind { stars = behind.stars + 1 }
    → Path NESTING words spot (N Pointer ∷ []) marked (N PerhapsPrivate ∷ B Push ∷ N MoreStars ∷ M ForgetStars ∷ []) (Stars stars ∷ [])
star_marked words spot at behind marked stars h p taken is =
    subst (λ (s : Spot). Path NESTING words spot (N Pointer ∷ []) s (N PerhapsPrivate ∷ B Push ∷ N MoreStars ∷ M ForgetStars ∷ []) (Stars stars ∷ [])) (sym is)
    (mark_path NESTING words spot (N Pointer ∷ []) behind CountStar (N PerhapsPrivate ∷ B Push ∷ N MoreStars ∷ M ForgetStars ∷ []) (Stars stars ∷ [])
    (record behind { stars = behind.stars + 1 }) refl (λ vs. refl)
    (pair_path NESTING words spot (N Pointer ∷ []) at (T terminal.Star ∷ []) after_star (Stars stars ∷ []) behind [] (star_next words spot at stars h p) taken))

pub star_pushed : (words : List Word) (spot marked to : Spot) (stars : List Star) (b : Bool)
    → Path NESTING words spot (N Pointer ∷ []) marked (N PerhapsPrivate ∷ B Push ∷ N MoreStars ∷ M ForgetStars ∷ []) (Stars stars ∷ [])
    → Leads NESTING words marked (N PerhapsPrivate ∷ []) to (Private b ∷ [])
    → Path NESTING words spot (N Pointer ∷ []) to (N MoreStars ∷ M ForgetStars ∷ []) (Stars (stars ++ record { is_private = b } ∷ []) ∷ [])
star_pushed words spot marked to stars b p leads =
    build_path NESTING words spot (N Pointer ∷ []) to Push (N MoreStars ∷ M ForgetStars ∷ []) (Private b ∷ Stars stars ∷ []) (Stars (stars ++ record { is_private = b } ∷ []) ∷ []) (λ built. refl)
    (pair_path NESTING words spot (N Pointer ∷ []) marked (N PerhapsPrivate ∷ []) (B Push ∷ N MoreStars ∷ M ForgetStars ∷ []) (Stars stars ∷ []) to (Private b ∷ []) p leads)

pub pointer_end : (words : List Word) (spot at : Spot) (stars : List Star) → next_is (drop at.at words) terminal.Star ≡ false
    → Path NESTING words spot (N Pointer ∷ []) at (N MoreStars ∷ M ForgetStars ∷ []) (Stars stars ∷ [])
    → Leads NESTING words spot (N Pointer ∷ []) (record at { stars = 0 }) (Stars stars ∷ [])
pointer_end words spot at stars h p =
    mark_path NESTING words spot (N Pointer ∷ []) at ForgetStars [] (Stars stars ∷ []) (record at { stars = 0 }) refl (λ vs. refl)
    (rule_path NESTING words spot (N Pointer ∷ []) at MoreStars (M ForgetStars ∷ []) (Stars stars ∷ []) 1
    (number_else MoreStars terminal.Star (λ w ws. refl) refl (drop at.at words) false h) (lit< tt) p)
