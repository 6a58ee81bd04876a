-- The number of the way of a member.
use Rattle.std.proofs.Common.{◌≡◌, ℕ, Bool, true, false, cond, List, [], ◌∷◌, refl}
use Rattle.c_grammar.specs.declared.words.Word.{Word}
use Rattle.c_grammar.specs.Grammar as form
use Rattle.c_grammar.specs.Ways.{way_number}

zero_either : (b : Bool) (n : ℕ) → n ≡ cond b 0 0 → n ≡ 0
zero_either true n e = e
zero_either false n e = e

pub member_number : (ws : List Word) → way_number form.Member ws ≡ 0
member_number [] = refl
member_number (w ∷ ws) = zero_either _ _ refl
