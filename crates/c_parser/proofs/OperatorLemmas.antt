-- The ways of the levels of operators, and what opens a type.
use Rattle.std.proofs.Common.{◌≡◌, ℕ, ◌+◌, ◌-◌, ◌≤◌, Bool, true, false, cond, ◌&&◌, ◌||◌, Option, Some, None, inl, inr, List, [], ◌∷◌, get_or, drop, length, refl, sym, ap, subst, ◌∙◌, lit<}
use Rattle.std.proofs.lemmas.Bool.{both_ways, cases_lt, cond-false}
use Rattle.std.specs.Prelude.{is_none}
use Rattle.c_grammar.specs.declared.words.Word.{Word}
use Rattle.c_ast.specs.declared.program.PrefixOp.{PrefixOp}
use Rattle.c_ast.specs.declared.program.PrefixOp.TheVariants.{Negate, Complement, IsZero, Follow, Address}
use Rattle.c_grammar.specs.declared.words.Terminal.{Terminal}
use Rattle.c_grammar.specs.declared.words.Terminal.TheVariants.{Minus, Tilde, Exclamation, Star, Ampersand, Open, Number, Character, String, Name, Sizeof, OpenBracket, Dot, Arrow, Equals}
use Rattle.c_parser.specs.declared.spot.Spot.{Spot}
use Rattle.c_parser.specs.declared.spot.TheConstants.{NESTING}
use Rattle.c_grammar.specs.Terminals.{same_terminal}
use Rattle.c_grammar.specs.Grammar as form
use Rattle.c_grammar.specs.Grammar.{N, T, M, B, Here, Out, prefix}
use Rattle.c_grammar.specs.Ways.{can_begin, can_be, firsts, opens_type, way_number, begun_way}
use Rattle.c_parser.specs.Operators.{prefix_of, no_prefix, is_suffix, begins_suffix}
use Rattle.c_parser.specs.Paths.{Path, Stops, next_is}
use Rattle.c_grammar.specs.Steps.{Place, MakePrefix}
use Rattle.c_grammar.specs.Descent.{Faults, plain}
use Rattle.c_parser.proofs.NumberLemmas.{number_at}
use Rattle.c_parser.proofs.Chains.{by_rule, starts, deeper, entered}
use Rattle.c_grammar.proofs.Begins.{is_same}
use Rattle.c_parser.proofs.PathLemmas.{no_word, next_word, here_path, nowhere_stop, no_word_stop, break_path}

and_false : (b : Bool) → (b && false) ≡ false
and_false true = refl
and_false false = refl

opens_second : (w : Word) (ws : List Word) → opens_type (w ∷ ws) ≡ (same_terminal w.terminal Open && can_begin form.TypeName ws)
opens_second w [] = sym (and_false (same_terminal w.terminal Open))
opens_second w (v ∷ ws) = refl

pub opens_next : (words : List Word) (at : ℕ) → next_is (drop at words) Open ≡ true → opens_type (drop at words) ≡ can_begin form.TypeName (drop (at + 1) words)
opens_next words at h =
    let n = next_word words at Open h in
    let w = get_or words at no_word in
    ap opens_type n.split ∙ opens_second w (drop (at + 1) words) ∙ ap (λ b. b && can_begin form.TypeName (drop (at + 1) words)) (is_same w.terminal Open n.is)

-- ---- forms with one way

zero_either : (b : Bool) (n : ℕ) → n ≡ cond b 0 0 → n ≡ 0
zero_either true n e = e
zero_either false n e = e

pub postfix_number : (ws : List Word) → way_number form.Postfix ws ≡ 0
postfix_number [] = refl
postfix_number (w ∷ ws) = zero_either _ _ refl

pub expression_number : (ws : List Word) → way_number form.Expression ws ≡ 0
expression_number [] = refl
expression_number (w ∷ ws) = zero_either _ _ refl

pub conditional_number : (ws : List Word) → way_number form.Conditional ws ≡ 0
conditional_number [] = refl
conditional_number (w ∷ ws) = zero_either _ _ refl

-- ---- a sign before an operand

some_is : {X : Type 0} (x y : X) → Some x ≡ Some y → x ≡ y
some_is x y e = cc

signed : (words : List Word) (spot : Spot) (t : Terminal) (op : PrefixOp) (i : ℕ) → begun_way form.Unary t ≡ i → next_is (drop spot.at words) t ≡ true → way_number form.Unary (drop spot.at words) ≡ i
signed words spot t op i is h = number_at form.Unary t (λ w ws. refl) (drop spot.at words) h ∙ is

pub prefix_path : (words : List Word) (spot : Spot) (sign : Terminal) (op : PrefixOp) → next_is (drop spot.at words) sign ≡ true → prefix_of sign ≡ Some op
    → Path NESTING words spot (N form.Unary ∷ []) spot (prefix sign op) []
prefix_path words spot Minus op h is =
    subst (λ (o : PrefixOp). Path NESTING words spot (N form.Unary ∷ []) spot (prefix Minus o) []) (some_is Negate op is)
    (by_rule form.Unary 0 (signed words spot Minus op 0 refl h) (lit< tt) (starts words spot (N form.Unary ∷ [])))
prefix_path words spot Tilde op h is =
    subst (λ (o : PrefixOp). Path NESTING words spot (N form.Unary ∷ []) spot (prefix Tilde o) []) (some_is Complement op is)
    (by_rule form.Unary 1 (signed words spot Tilde op 1 refl h) (lit< tt) (starts words spot (N form.Unary ∷ [])))
prefix_path words spot Exclamation op h is =
    subst (λ (o : PrefixOp). Path NESTING words spot (N form.Unary ∷ []) spot (prefix Exclamation o) []) (some_is IsZero op is)
    (by_rule form.Unary 2 (signed words spot Exclamation op 2 refl h) (lit< tt) (starts words spot (N form.Unary ∷ [])))
prefix_path words spot Star op h is =
    subst (λ (o : PrefixOp). Path NESTING words spot (N form.Unary ∷ []) spot (prefix Star o) []) (some_is Follow op is)
    (by_rule form.Unary 3 (signed words spot Star op 3 refl h) (lit< tt) (starts words spot (N form.Unary ∷ [])))
prefix_path words spot Ampersand op h is =
    subst (λ (o : PrefixOp). Path NESTING words spot (N form.Unary ∷ []) spot (prefix Ampersand o) []) (some_is Address op is)
    (by_rule form.Unary 4 (signed words spot Ampersand op 4 refl h) (lit< tt) (starts words spot (N form.Unary ∷ [])))
prefix_path words spot t op h is = cc

-- ---- names and literals

zero_after : (b : Bool) (n : ℕ) → n ≡ 0 → cond b 0 n ≡ 0
zero_after true n e = refl
zero_after false n e = e

pub name_number : (ws : List Word) → next_is ws Open ≡ false → next_is ws Number ≡ false → next_is ws Character ≡ false → next_is ws String ≡ false → way_number form.Primary ws ≡ 0
name_number [] o a b c = refl
name_number (w ∷ ws) o a b c = zero_after _ _ (cond-false _ _ _ a ∙ cond-false _ _ _ b ∙ cond-false _ _ _ c ∙ cond-false _ _ _ o)

-- ---- arguments and suffixes

or_none : (b : Bool) → (b || false) ≡ b
or_none true = refl
or_none false = refl

pub arguments_number : (ws : List Word) (b : Bool) → can_begin form.Whole ws ≡ b → way_number form.Arguments ws ≡ cond b 0 1
arguments_number [] true h = absurd (both_ways _ refl h)
arguments_number [] false h = refl
arguments_number (w ∷ ws) b h = ap (λ c. cond c 0 1) (or_none _ ∙ h)

is_arrow : (t : Terminal) → is_suffix t ≡ true → same_terminal t OpenBracket ≡ false → same_terminal t Open ≡ false → same_terminal t Dot ≡ false → same_terminal t Arrow ≡ true
is_arrow Arrow h a b c = refl
is_arrow t h a b c = cc

pub arrow_next : (ws : List Word) → begins_suffix ws ≡ true → next_is ws OpenBracket ≡ false → next_is ws Open ≡ false → next_is ws Dot ≡ false → next_is ws Arrow ≡ true
arrow_next [] h a b c = absurd (both_ways _ refl h)
arrow_next (w ∷ ws) h a b c = is_arrow w.terminal h a b c

none_begun : (t : Terminal) → is_suffix t ≡ false → begun_way form.Suffixes t ≡ 4
none_begun OpenBracket h = absurd (both_ways _ h refl)
none_begun Open h = absurd (both_ways _ h refl)
none_begun Dot h = absurd (both_ways _ h refl)
none_begun Arrow h = absurd (both_ways _ h refl)
none_begun t h = refl

pub no_suffix : (ws : List Word) → begins_suffix ws ≡ false → way_number form.Suffixes ws ≡ 4
no_suffix [] h = refl
no_suffix (w ∷ ws) h = none_begun w.terminal h

-- ---- what is no operand

unary_begun : (t : Terminal) → prefix_of t ≡ None → same_terminal t Sizeof ≡ false → can_be (firsts form.Primary) t ≡ true → begun_way form.Unary t ≡ 6
unary_begun Name p s h = refl
unary_begun Number p s h = refl
unary_begun Character p s h = refl
unary_begun String p s h = refl
unary_begun Open p s h = refl
unary_begun t p s h = cc

none_is : {X : Type 0} (o : Option X) → is_none o ≡ true → o ≡ None
none_is None h = refl
none_is (Some x) h = cc

pub postfix_next : (ws : List Word) → no_prefix ws ≡ true → next_is ws Sizeof ≡ false → can_begin form.Primary ws ≡ true → way_number form.Unary ws ≡ 6
postfix_next [] p s h = absurd (both_ways _ refl h)
postfix_next (w ∷ ws) p s h = unary_begun w.terminal (none_is _ p) s h

unary_none : (t : Terminal) → is_none (prefix_of t) ≡ true → same_terminal t Sizeof ≡ false → can_be (firsts form.Primary) t ≡ false → begun_way form.Unary t ≡ 0
unary_none Minus p s h = refl
unary_none Tilde p s h = cc
unary_none Exclamation p s h = cc
unary_none Star p s h = cc
unary_none Ampersand p s h = cc
unary_none Sizeof p s h = cc
unary_none Name p s h = cc
unary_none Number p s h = cc
unary_none Character p s h = cc
unary_none String p s h = cc
unary_none Open p s h = cc
unary_none t p s h = refl

not_minus : (t : Terminal) → is_none (prefix_of t) ≡ true → same_terminal t Minus ≡ false
not_minus Minus p = cc
not_minus t p = refl

pub no_unary : (ws : List Word) → no_prefix ws ≡ true → next_is ws Sizeof ≡ false → can_begin form.Primary ws ≡ false → way_number form.Unary ws ≡ 0
no_unary [] p s h = refl
no_unary (w ∷ ws) p s h = unary_none w.terminal p s h

pub no_minus : (ws : List Word) → no_prefix ws ≡ true → next_is ws Minus ≡ false
no_minus [] p = refl
no_minus (w ∷ ws) p = not_minus w.terminal p

-- the place of the next word, or its absence, and then no `-`
pub no_unary_stop : (words : List Word) (spot : Spot) → spot.at ≤ length words → no_prefix (drop spot.at words) ≡ true → next_is (drop spot.at words) Sizeof ≡ false → can_begin form.Primary (drop spot.at words) ≡ false
    → Stops NESTING words spot (N form.Unary ∷ []) (Faults (length words - spot.at))
no_unary_stop words spot within p s h =
    let o = Faults (length words - spot.at) in
    let begun = entered (by_rule form.Unary 0 (no_unary (drop spot.at words) p s h) (lit< tt) (starts words spot (N form.Unary ∷ []))) in
    elim (cases_lt spot.at (length words)) [
      | inl below ↦ break_path NESTING words spot (N form.Unary ∷ []) (deeper spot) (T Minus ∷ []) (N form.Cast ∷ B (MakePrefix Negate) ∷ M Out ∷ []) (Place (get_or words spot.at no_word).place ∷ []) o
          (here_path NESTING words spot (N form.Unary ∷ []) (deeper spot) (T Minus ∷ N form.Cast ∷ B (MakePrefix Negate) ∷ M Out ∷ []) [] below begun)
          (no_word_stop NESTING words (deeper spot) (T Minus) Minus _ (plain Minus) (no_minus (drop spot.at words) p))
      | inr past ↦ break_path NESTING words spot (N form.Unary ∷ []) (deeper spot) (Here ∷ []) (T Minus ∷ N form.Cast ∷ B (MakePrefix Negate) ∷ M Out ∷ []) [] o begun (nowhere_stop NESTING words (deeper spot) past)
    ]

-- ---- what comes after an operand at the front

either_one : (b : Bool) (n : ℕ) → cond b n n ≡ n
either_one true n = refl
either_one false n = refl

pub after_number : (ws : List Word) → next_is ws Equals ≡ false → way_number (form.Left form.AfterUnary) ws ≡ 1
after_number [] h = refl
after_number (w ∷ ws) h = cond-false _ _ _ h ∙ either_one _ 1
