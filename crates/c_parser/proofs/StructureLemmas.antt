-- The numbers of the ways of a struct.
use Rattle.std.proofs.Common.{◌≡◌, ℕ, Bool, true, false, cond, ◌||◌, List, [], ◌∷◌, refl, ap, ◌∙◌}
use Rattle.std.proofs.lemmas.Bool.{both_ways}
use Rattle.c_grammar.specs.declared.words.Word.{Word}
use Rattle.c_grammar.specs.Grammar as form
use Rattle.c_grammar.specs.Ways.{can_begin, way_number}

zero_either : (b : Bool) (n : ℕ) → n ≡ cond b 0 0 → n ≡ 0
zero_either true n e = e
zero_either false n e = e

pub structure_number : (ws : List Word) → way_number form.Structure ws ≡ 0
structure_number [] = refl
structure_number (w ∷ ws) = zero_either _ _ refl

or_none : (b : Bool) → (b || false) ≡ b
or_none true = refl
or_none false = refl

pub members_number : (ws : List Word) (b : Bool) → can_begin form.TypeName ws ≡ b → way_number form.Members ws ≡ cond b 0 1
members_number [] true h = absurd (both_ways _ refl h)
members_number [] false h = refl
members_number (w ∷ ws) b h = ap (λ c. cond c 0 1) (or_none _ ∙ h)
