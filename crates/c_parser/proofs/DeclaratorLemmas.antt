-- The numbers of a declarator's ways.
use Rattle.std.proofs.Common.{◌≡◌, ℕ, Bool, true, false, cond, List, [], ◌∷◌, refl, ◌∙◌}
use Rattle.std.proofs.lemmas.Bool.{cond-false}
use Rattle.c_grammar.specs.declared.words.Word.{Word}
use Rattle.c_grammar.specs.declared.words.Terminal.TheVariants.{Open}
use Rattle.c_grammar.specs.Grammar.{Declarator, Parameter, Left, AfterPointer}
use Rattle.c_grammar.specs.Ways.{way_number}
use Rattle.c_parser.specs.Paths.{next_is}

zero_either : (b : Bool) (n : ℕ) → n ≡ cond b 0 0 → n ≡ 0
zero_either true n e = e
zero_either false n e = e

pub declarator_number : (ws : List Word) → way_number Declarator ws ≡ 0
declarator_number [] = refl
declarator_number (w ∷ ws) = zero_either _ _ refl

pub parameter_number : (ws : List Word) → way_number Parameter ws ≡ 0
parameter_number [] = refl
parameter_number (w ∷ ws) = zero_either _ _ refl

zero_or_other : (a b : Bool) (n : ℕ) → n ≡ cond a 0 (cond b 1 0) → b ≡ false → n ≡ 0
zero_or_other true b n e h = e
zero_or_other false b n e h = e ∙ cond-false b 1 0 h

pub named_number : (ws : List Word) → next_is ws Open ≡ false → way_number (Left AfterPointer) ws ≡ 0
named_number [] h = refl
named_number (w ∷ ws) h = zero_or_other _ _ _ refl h
