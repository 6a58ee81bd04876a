-- The number of a form's way at the next word.
use Rattle.std.proofs.Common.{◌≡◌, Bool, true, false, cond, List, [], ◌∷◌, refl, ap, ◌∙◌}
use Rattle.std.proofs.lemmas.Bool.{both_ways}
use Rattle.c_grammar.specs.declared.words.Word.{Word}
use Rattle.c_grammar.specs.declared.words.Terminal.{Terminal}
use Rattle.c_grammar.specs.Terminals.{same_terminal}
use Rattle.c_grammar.specs.Grammar.{Form}
use Rattle.c_grammar.specs.Ways.{begun_way, way_number}
use Rattle.c_parser.specs.Paths.{next_is}
use Rattle.c_grammar.proofs.Picks.{terminal_is}

-- where one word decides, and it is this one
pub number_at : (f : Form) (t : Terminal) → ((w : Word) (ws : List Word) → way_number f (w ∷ ws) ≡ begun_way f w.terminal)
    → (ws : List Word) → next_is ws t ≡ true → way_number f ws ≡ begun_way f t
number_at f t one [] h = absurd (both_ways _ refl h)
number_at f t one (w ∷ ws) h = one w ws ∙ ap (begun_way f) (terminal_is w.terminal t h)

-- a form with one way that begins with this terminal, and the empty one
pub number_else : (f : Form) (t : Terminal) → ((w : Word) (ws : List Word) → way_number f (w ∷ ws) ≡ cond (same_terminal w.terminal t) 0 1) → way_number f [] ≡ 1
    → (ws : List Word) (b : Bool) → next_is ws t ≡ b → way_number f ws ≡ cond b 0 1
number_else f t one none [] true h = absurd (both_ways _ refl h)
number_else f t one none [] false h = none
number_else f t one none (w ∷ ws) b h = one w ws ∙ ap (λ c. cond c 0 1) h
