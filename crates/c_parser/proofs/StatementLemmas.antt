-- The numbers of the ways of statements.
use Rattle.std.proofs.Common.{◌≡◌, ℕ, Bool, true, false, cond, ◌||◌, List, [], ◌∷◌, refl, sym, ap, ◌∙◌}
use Rattle.std.proofs.lemmas.Bool.{both_ways, cond-true, cond-false}
use Rattle.c_grammar.specs.declared.words.Word.{Word}
use Rattle.c_grammar.specs.declared.words.Terminal.{Terminal}
use Rattle.c_grammar.specs.declared.words.Terminal.TheVariants.{If, While, Do, For, Return, Break, Continue, Name, Number, Character, String, Sizeof, Minus, Star, Ampersand, Tilde, Exclamation, Open, Semicolon}
use Rattle.c_grammar.specs.Terminals.{same_terminal}
use Rattle.c_grammar.specs.Grammar as form
use Rattle.c_grammar.specs.Ways.{can_begin, way_number, begun_way}
use Rattle.c_grammar.specs.Reading.{BeginWith}
use Rattle.c_parser.specs.Operators.{is_evaluation, begins_evaluation, begins_item}
use Rattle.c_parser.specs.Paths.{next_is}
use Rattle.c_grammar.proofs.Begins.{is_same}

zero_either : (b : Bool) (n : ℕ) → n ≡ cond b 0 0 → n ≡ 0
zero_either true n e = e
zero_either false n e = e

pub statement_number : (ws : List Word) → way_number form.Statement ws ≡ 0
statement_number [] = refl
statement_number (w ∷ ws) = zero_either _ _ refl

pub block_number : (ws : List Word) → way_number form.Block ws ≡ 0
block_number [] = refl
block_number (w ∷ ws) = zero_either _ _ refl

pub not_begun : (ws : List Word) (t : Terminal) → next_is ws t ≡ false → ¬ BeginWith (t ∷ []) ws
not_begun [] t h g = absurd g
not_begun (w ∷ ws) t h g = both_ways _ h (is_same w.terminal t g.0)

evaluated : (t : Terminal) → is_evaluation t ≡ true → begun_way form.AnyStatement t ≡ 1
evaluated Name h = refl
evaluated Number h = refl
evaluated Character h = refl
evaluated String h = refl
evaluated Sizeof h = refl
evaluated Minus h = refl
evaluated Star h = refl
evaluated Ampersand h = refl
evaluated Tilde h = refl
evaluated Exclamation h = refl
evaluated Open h = refl
evaluated Semicolon h = refl
evaluated t h = cc

pub evaluation_number : (ws : List Word) → begins_evaluation ws ≡ true → way_number form.AnyStatement ws ≡ 1
evaluation_number [] h = absurd (both_ways _ refl h)
evaluation_number (w ∷ ws) h = evaluated w.terminal h

other : (t : Terminal) → same_terminal t If ≡ false → same_terminal t While ≡ false → same_terminal t Do ≡ false → same_terminal t For ≡ false → same_terminal t Return ≡ false
    → same_terminal t Break ≡ false → same_terminal t Continue ≡ false → is_evaluation t ≡ false → begun_way form.AnyStatement t ≡ 0
other If a b c d e f g h = cc
other While a b c d e f g h = cc
other Do a b c d e f g h = cc
other For a b c d e f g h = cc
other Return a b c d e f g h = cc
other Break a b c d e f g h = cc
other Continue a b c d e f g h = cc
other Name a b c d e f g h = cc
other Number a b c d e f g h = cc
other Character a b c d e f g h = cc
other String a b c d e f g h = cc
other Sizeof a b c d e f g h = cc
other Minus a b c d e f g h = cc
other Star a b c d e f g h = cc
other Ampersand a b c d e f g h = cc
other Tilde a b c d e f g h = cc
other Exclamation a b c d e f g h = cc
other Open a b c d e f g h = cc
other Semicolon a b c d e f g h = cc
other t a b c d e f g h = refl

pub other_number : (ws : List Word) → next_is ws If ≡ false → next_is ws While ≡ false → next_is ws Do ≡ false → next_is ws For ≡ false → next_is ws Return ≡ false
    → next_is ws Break ≡ false → next_is ws Continue ≡ false → begins_evaluation ws ≡ false → way_number form.AnyStatement ws ≡ 0
other_number [] a b c d e f g h = refl
other_number (w ∷ ws) a b c d e f g h = other w.terminal a b c d e f g h

-- ---- items of a block

or_none : (b : Bool) → (b || false) ≡ b
or_none true = refl
or_none false = refl

pub declaration_next : (ws : List Word) → can_begin form.TypeName ws ≡ true → way_number form.BlockItems ws ≡ 0
declaration_next [] h = absurd (both_ways _ refl h)
declaration_next (w ∷ ws) h = cond-true _ _ _ (or_none _ ∙ h)

pub statement_next : (ws : List Word) → begins_item ws ≡ true → can_begin form.TypeName ws ≡ false → way_number form.BlockItems ws ≡ 1
statement_next [] h g = absurd (both_ways _ refl h)
statement_next (w ∷ ws) h g = cond-false _ _ _ (or_none _ ∙ g) ∙ cond-true _ _ _ (or_none _ ∙ sym (ap (λ b. b || can_begin form.Statement (w ∷ ws)) g) ∙ h)

neither : (a b : Bool) → (a || b) ≡ false → (a ≡ false) × (b ≡ false)
neither true b h = absurd (both_ways _ h refl)
neither false b h = (refl, h)

pub no_item : (ws : List Word) → begins_item ws ≡ false → way_number form.BlockItems ws ≡ 2
no_item [] h = refl
no_item (w ∷ ws) h =
    let both = neither (can_begin form.TypeName (w ∷ ws)) (can_begin form.Statement (w ∷ ws)) h in
    cond-false _ _ _ (or_none _ ∙ both.0) ∙ cond-false _ _ _ (or_none _ ∙ both.1)
