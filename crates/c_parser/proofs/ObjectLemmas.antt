-- The numbers of the ways of declarations.
use Rattle.std.proofs.Common.{◌≡◌, ℕ, Bool, true, false, cond, ◌||◌, List, [], ◌∷◌, refl, ap, ◌∙◌}
use Rattle.std.proofs.lemmas.Bool.{both_ways}
use Rattle.c_grammar.specs.declared.words.Word.{Word}
use Rattle.c_grammar.specs.Grammar as form
use Rattle.c_grammar.specs.Ways.{can_begin, way_number}

zero_either : (b : Bool) (n : ℕ) → n ≡ cond b 0 0 → n ≡ 0
zero_either true n e = e
zero_either false n e = e

pub whole_number : (ws : List Word) → way_number form.Whole ws ≡ 0
whole_number [] = refl
whole_number (w ∷ ws) = zero_either _ _ refl

pub object_number : (ws : List Word) → way_number form.Object ws ≡ 0
object_number [] = refl
object_number (w ∷ ws) = zero_either _ _ refl

pub declaration_number : (ws : List Word) → way_number form.Declaration ws ≡ 0
declaration_number [] = refl
declaration_number (w ∷ ws) = zero_either _ _ refl

or_none : (b : Bool) → (b || false) ≡ b
or_none true = refl
or_none false = refl

pub perhaps_whole_number : (ws : List Word) (b : Bool) → can_begin form.Whole ws ≡ b → way_number form.PerhapsWhole ws ≡ cond b 0 1
perhaps_whole_number [] true h = absurd (both_ways _ refl h)
perhaps_whole_number [] false h = refl
perhaps_whole_number (w ∷ ws) b h = ap (λ c. cond c 0 1) (or_none _ ∙ h)
