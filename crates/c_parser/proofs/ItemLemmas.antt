-- The numbers of the ways at the top of a source.
use Rattle.std.proofs.Common.{◌≡◌, ℕ, ◌+◌, ◌<◌, Bool, true, false, cond, ◌&&◌, ◌||◌, List, [], ◌∷◌, length, get_or, drop, refl, sym, ap, ◌∙◌, arith}
use Rattle.std.proofs.lemmas.Bool.{both_ways, cond-false}
use Rattle.std.proofs.lemmas.List.{drop_more}
use Rattle.c_grammar.specs.declared.words.Word.{Word}
use Rattle.c_grammar.specs.declared.words.Terminal.TheVariants.{Open, Equals, Comma, OpenBracket, Semicolon, Struct, OpenBrace}
use Rattle.c_grammar.specs.Grammar.{Left, AfterName, AfterObject, AfterParameters, AfterStars}
use Rattle.c_grammar.specs.Ways.{way_number, begun_way, begins_structure}
use Rattle.c_grammar.specs.declared.words.Terminal.{Terminal}
use Rattle.c_parser.specs.Operators.{follows_object, object_next}
use Rattle.c_parser.specs.Paths.{next_is}
use Rattle.c_parser.proofs.PathLemmas.{no_word}

zero_either : (b : Bool) (n : ℕ) → n ≡ cond b 0 0 → n ≡ 0
zero_either true n e = e
zero_either false n e = e

pub object_number : (ws : List Word) → way_number (Left AfterObject) ws ≡ 0
object_number [] = refl
object_number (w ∷ ws) = zero_either _ _ refl

zero_or_other : (a b : Bool) (n : ℕ) → n ≡ cond a 0 (cond b 1 0) → b ≡ false → n ≡ 0
zero_or_other true b n e h = e
zero_or_other false b n e h = e ∙ cond-false b 1 0 h

pub name_number : (ws : List Word) → next_is ws Open ≡ false → way_number (Left AfterStars) ws ≡ 0
name_number [] h = refl
name_number (w ∷ ws) h = zero_or_other _ _ _ refl h

object_begun : (t : Terminal) → follows_object t ≡ true → begun_way (Left AfterName) t ≡ 1
object_begun Equals h = refl
object_begun Semicolon h = refl
object_begun Comma h = refl
object_begun OpenBracket h = refl
object_begun t h = cc

pub plain_number : (ws : List Word) → object_next ws ≡ true → way_number (Left AfterName) ws ≡ 1
plain_number [] h = absurd (both_ways _ refl h)
plain_number (w ∷ ws) h = object_begun w.terminal h

other_begun : (t : Terminal) → follows_object t ≡ false → begun_way (Left AfterName) t ≡ 0
other_begun Equals h = cc
other_begun Semicolon h = cc
other_begun Comma h = cc
other_begun OpenBracket h = cc
other_begun t h = refl

pub called_number : (ws : List Word) → object_next ws ≡ false → way_number (Left AfterName) ws ≡ 0
called_number [] h = refl
called_number (w ∷ ws) h = other_begun w.terminal h

or_none : (b : Bool) → (b || false) ≡ b
or_none true = refl
or_none false = refl

pub no_body_number : (ws : List Word) → next_is ws OpenBrace ≡ false → way_number (Left AfterParameters) ws ≡ 0
no_body_number [] h = refl
no_body_number (w ∷ ws) h = zero_or_other _ _ _ refl (or_none _ ∙ or_none _ ∙ h)

pub structure_short : (ws : List Word) → length ws < 3 → begins_structure ws ≡ false
structure_short [] h = refl
structure_short (a ∷ []) h = refl
structure_short (a ∷ b ∷ []) h = refl
structure_short (a ∷ b ∷ c ∷ ws) h = let no : ⊥ = omega (arith, h) in absurd no

pub structure_long : (words : List Word) (at : ℕ) → at + 2 < length words
    → begins_structure (drop at words) ≡ (next_is (drop at words) Struct && next_is (drop (at + 2) words) OpenBrace)
structure_long words at h =
    let one = drop_more words at no_word (omega (arith, h)) in
    let two = drop_more words (at + 1) no_word (omega (arith, h)) in
    let same : at + 1 + 1 ≡ at + 2 = omega arith in
    let three = drop_more words (at + 2) no_word h in
    let a = get_or words at no_word in
    let b = get_or words (at + 1) no_word in
    let c = get_or words (at + 2) no_word in
    let all : drop at words ≡ a ∷ b ∷ c ∷ drop (at + 2 + 1) words =
    one ∙ ap (λ l. a ∷ l) (two ∙ ap (λ l. b ∷ l) (ap (λ i. drop i words) same ∙ three)) in
    ap begins_structure all ∙ ap (λ x. x && next_is (c ∷ drop (at + 2 + 1) words) OpenBrace) (sym (ap (λ l. next_is l Struct) one)) ∙ ap (λ x. next_is (drop at words) Struct && x) (sym (ap (λ l. next_is l OpenBrace) three))
