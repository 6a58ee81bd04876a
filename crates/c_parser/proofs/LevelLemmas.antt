-- The levels of operators: from an operand down to its first part, past levels without an operator, and to an operator.
use Rattle.std.proofs.Common.{◌≡◌, ◌≢◌, ℕ, zero, suc, ◌+◌, ◌-◌, ◌<◌, ◌≤◌, Bool, true, false, cond, List, [], ◌∷◌, drop, refl, sym, ap, subst, ◌∙◌, inl, inr, arith, lit<}
use Rattle.std.proofs.lemmas.Bool.{both_ways}
use Rattle.c_ast.specs.declared.program.InfixOp.{InfixOp}
use Rattle.c_grammar.specs.declared.words.Word.{Word}
use Rattle.c_grammar.specs.declared.words.Terminal.{Terminal}
use Rattle.c_grammar.specs.declared.words.Terminal.TheVariants.{Plus, Minus, Star, Slash, Percent, Ampersand, Bar, Caret, Less, Greater, ShiftLeft, ShiftRight, LessEqual, GreaterEqual, EqualEqual, NotEqual, Both, Either}
use Rattle.c_parser.specs.declared.operators.Operator.{Operator}
use Rattle.c_parser.specs.declared.spot.Spot.{Spot}
use Rattle.c_parser.specs.declared.spot.TheConstants.{NESTING}
use Rattle.c_grammar.specs.Steps.{Value, MakeInfix}
use Rattle.c_grammar.specs.Grammar.{Level, EitherLevel, BothLevel, OrLevel, XorLevel, AndLevel, EqualLevel, OrderLevel, ShiftLevel, SumLevel, ProductLevel, At, Operands, Cast, Symbol, T, N, M, B, CountOperator, operand}
use Rattle.c_grammar.specs.Ways.{way_number, begun_way}
use Rattle.c_parser.specs.Operators.{level_of, op_of, level_at, operands_then, operands_between, next_level, IsOperator, IsNoOperator}
use Rattle.c_parser.specs.Paths.{Path, next_is}
use Rattle.c_grammar.proofs.Picks.{terminal_is}
use Rattle.c_parser.proofs.NumberLemmas.{number_at}
use Rattle.c_parser.proofs.Chains.{by_rule}

zero_either : (b : Bool) (n : ℕ) → n ≡ cond b 0 0 → n ≡ 0
zero_either true n e = e
zero_either false n e = e

-- ---- down to the first part

at_number : (l : Level) (ws : List Word) → way_number (At l) ws ≡ 0
at_number ProductLevel [] = refl
at_number ProductLevel (w ∷ ws) = zero_either _ _ refl
at_number SumLevel [] = refl
at_number SumLevel (w ∷ ws) = zero_either _ _ refl
at_number ShiftLevel [] = refl
at_number ShiftLevel (w ∷ ws) = zero_either _ _ refl
at_number OrderLevel [] = refl
at_number OrderLevel (w ∷ ws) = zero_either _ _ refl
at_number EqualLevel [] = refl
at_number EqualLevel (w ∷ ws) = zero_either _ _ refl
at_number AndLevel [] = refl
at_number AndLevel (w ∷ ws) = zero_either _ _ refl
at_number XorLevel [] = refl
at_number XorLevel (w ∷ ws) = zero_either _ _ refl
at_number OrLevel [] = refl
at_number OrLevel (w ∷ ws) = zero_either _ _ refl
at_number BothLevel [] = refl
at_number BothLevel (w ∷ ws) = zero_either _ _ refl
at_number EitherLevel [] = refl
at_number EitherLevel (w ∷ ws) = zero_either _ _ refl

pub down : {words : List Word} {from to : Spot} {all left : List Symbol} {new : List Value} (a : ℕ) → a < 10
    → Path NESTING words from all to (N (operand (level_at a)) ∷ left) new → Path NESTING words from all to (N Cast ∷ operands_between 0 a left) new
down {words} {from} {to} {all} {left} {new} (zero) h p = p
down {words} {from} {to} {all} {left} {new} (suc zero) h p = (by_rule (At ProductLevel) 0 (at_number ProductLevel (drop to.at words)) (lit< tt) p)
down {words} {from} {to} {all} {left} {new} (suc (suc zero)) h p = (by_rule (At ProductLevel) 0 (at_number ProductLevel (drop to.at words)) (lit< tt) (by_rule (At SumLevel) 0 (at_number SumLevel (drop to.at words)) (lit< tt) p))
down {words} {from} {to} {all} {left} {new} (suc (suc (suc zero))) h p = (by_rule (At ProductLevel) 0 (at_number ProductLevel (drop to.at words)) (lit< tt) (by_rule (At SumLevel) 0 (at_number SumLevel (drop to.at words)) (lit< tt) (by_rule (At ShiftLevel) 0 (at_number ShiftLevel (drop to.at words)) (lit< tt) p)))
down {words} {from} {to} {all} {left} {new} (suc (suc (suc (suc zero)))) h p = (by_rule (At ProductLevel) 0 (at_number ProductLevel (drop to.at words)) (lit< tt) (by_rule (At SumLevel) 0 (at_number SumLevel (drop to.at words)) (lit< tt) (by_rule (At ShiftLevel) 0 (at_number ShiftLevel (drop to.at words)) (lit< tt) (by_rule (At OrderLevel) 0 (at_number OrderLevel (drop to.at words)) (lit< tt) p))))
down {words} {from} {to} {all} {left} {new} (suc (suc (suc (suc (suc zero))))) h p = (by_rule (At ProductLevel) 0 (at_number ProductLevel (drop to.at words)) (lit< tt) (by_rule (At SumLevel) 0 (at_number SumLevel (drop to.at words)) (lit< tt) (by_rule (At ShiftLevel) 0 (at_number ShiftLevel (drop to.at words)) (lit< tt) (by_rule (At OrderLevel) 0 (at_number OrderLevel (drop to.at words)) (lit< tt) (by_rule (At EqualLevel) 0 (at_number EqualLevel (drop to.at words)) (lit< tt) p)))))
down {words} {from} {to} {all} {left} {new} (suc (suc (suc (suc (suc (suc zero)))))) h p = (by_rule (At ProductLevel) 0 (at_number ProductLevel (drop to.at words)) (lit< tt) (by_rule (At SumLevel) 0 (at_number SumLevel (drop to.at words)) (lit< tt) (by_rule (At ShiftLevel) 0 (at_number ShiftLevel (drop to.at words)) (lit< tt) (by_rule (At OrderLevel) 0 (at_number OrderLevel (drop to.at words)) (lit< tt) (by_rule (At EqualLevel) 0 (at_number EqualLevel (drop to.at words)) (lit< tt) (by_rule (At AndLevel) 0 (at_number AndLevel (drop to.at words)) (lit< tt) p))))))
down {words} {from} {to} {all} {left} {new} (suc (suc (suc (suc (suc (suc (suc zero))))))) h p = (by_rule (At ProductLevel) 0 (at_number ProductLevel (drop to.at words)) (lit< tt) (by_rule (At SumLevel) 0 (at_number SumLevel (drop to.at words)) (lit< tt) (by_rule (At ShiftLevel) 0 (at_number ShiftLevel (drop to.at words)) (lit< tt) (by_rule (At OrderLevel) 0 (at_number OrderLevel (drop to.at words)) (lit< tt) (by_rule (At EqualLevel) 0 (at_number EqualLevel (drop to.at words)) (lit< tt) (by_rule (At AndLevel) 0 (at_number AndLevel (drop to.at words)) (lit< tt) (by_rule (At XorLevel) 0 (at_number XorLevel (drop to.at words)) (lit< tt) p)))))))
down {words} {from} {to} {all} {left} {new} (suc (suc (suc (suc (suc (suc (suc (suc zero)))))))) h p = (by_rule (At ProductLevel) 0 (at_number ProductLevel (drop to.at words)) (lit< tt) (by_rule (At SumLevel) 0 (at_number SumLevel (drop to.at words)) (lit< tt) (by_rule (At ShiftLevel) 0 (at_number ShiftLevel (drop to.at words)) (lit< tt) (by_rule (At OrderLevel) 0 (at_number OrderLevel (drop to.at words)) (lit< tt) (by_rule (At EqualLevel) 0 (at_number EqualLevel (drop to.at words)) (lit< tt) (by_rule (At AndLevel) 0 (at_number AndLevel (drop to.at words)) (lit< tt) (by_rule (At XorLevel) 0 (at_number XorLevel (drop to.at words)) (lit< tt) (by_rule (At OrLevel) 0 (at_number OrLevel (drop to.at words)) (lit< tt) p))))))))
down {words} {from} {to} {all} {left} {new} (suc (suc (suc (suc (suc (suc (suc (suc (suc zero))))))))) h p = (by_rule (At ProductLevel) 0 (at_number ProductLevel (drop to.at words)) (lit< tt) (by_rule (At SumLevel) 0 (at_number SumLevel (drop to.at words)) (lit< tt) (by_rule (At ShiftLevel) 0 (at_number ShiftLevel (drop to.at words)) (lit< tt) (by_rule (At OrderLevel) 0 (at_number OrderLevel (drop to.at words)) (lit< tt) (by_rule (At EqualLevel) 0 (at_number EqualLevel (drop to.at words)) (lit< tt) (by_rule (At AndLevel) 0 (at_number AndLevel (drop to.at words)) (lit< tt) (by_rule (At XorLevel) 0 (at_number XorLevel (drop to.at words)) (lit< tt) (by_rule (At OrLevel) 0 (at_number OrLevel (drop to.at words)) (lit< tt) (by_rule (At BothLevel) 0 (at_number BothLevel (drop to.at words)) (lit< tt) p)))))))))
down {words} {from} {to} {all} {left} {new} (suc (suc (suc (suc (suc (suc (suc (suc (suc (suc n)))))))))) h p = let no : ⊥ = omega (arith, h) in absurd no

pub conditional_down : {words : List Word} {from to : Spot} {all left : List Symbol} {new : List Value}
    → Path NESTING words from all to (N (At EitherLevel) ∷ left) new → Path NESTING words from all to (N Cast ∷ operands_between 0 10 left) new
conditional_down {words} {from} {to} {all} {left} {new} p = down 9 (lit< tt) (by_rule (At EitherLevel) 0 (at_number EitherLevel (drop to.at words)) (lit< tt) p)

-- ---- past a level

past0 : (t : Terminal) → level_of t ≢ 0 → begun_way (Operands ProductLevel) t ≡ 3
past0 Star h = absurd (h refl)
past0 Slash h = absurd (h refl)
past0 Percent h = absurd (h refl)
past0 t h = refl

past1 : (t : Terminal) → level_of t ≢ 1 → begun_way (Operands SumLevel) t ≡ 2
past1 Plus h = absurd (h refl)
past1 Minus h = absurd (h refl)
past1 t h = refl

past2 : (t : Terminal) → level_of t ≢ 2 → begun_way (Operands ShiftLevel) t ≡ 2
past2 ShiftLeft h = absurd (h refl)
past2 ShiftRight h = absurd (h refl)
past2 t h = refl

past3 : (t : Terminal) → level_of t ≢ 3 → begun_way (Operands OrderLevel) t ≡ 4
past3 Less h = absurd (h refl)
past3 LessEqual h = absurd (h refl)
past3 Greater h = absurd (h refl)
past3 GreaterEqual h = absurd (h refl)
past3 t h = refl

past4 : (t : Terminal) → level_of t ≢ 4 → begun_way (Operands EqualLevel) t ≡ 2
past4 EqualEqual h = absurd (h refl)
past4 NotEqual h = absurd (h refl)
past4 t h = refl

past5 : (t : Terminal) → level_of t ≢ 5 → begun_way (Operands AndLevel) t ≡ 1
past5 Ampersand h = absurd (h refl)
past5 t h = refl

past6 : (t : Terminal) → level_of t ≢ 6 → begun_way (Operands XorLevel) t ≡ 1
past6 Caret h = absurd (h refl)
past6 t h = refl

past7 : (t : Terminal) → level_of t ≢ 7 → begun_way (Operands OrLevel) t ≡ 1
past7 Bar h = absurd (h refl)
past7 t h = refl

past8 : (t : Terminal) → level_of t ≢ 8 → begun_way (Operands BothLevel) t ≡ 1
past8 Both h = absurd (h refl)
past8 t h = refl

past9 : (t : Terminal) → level_of t ≢ 9 → begun_way (Operands EitherLevel) t ≡ 1
past9 Either h = absurd (h refl)
past9 t h = refl

passed0 : (ws : List Word) → next_level ws ≢ 0 → way_number (Operands ProductLevel) ws ≡ 3
passed0 [] h = refl
passed0 (w ∷ ws) h = past0 w.terminal h

passed1 : (ws : List Word) → next_level ws ≢ 1 → way_number (Operands SumLevel) ws ≡ 2
passed1 [] h = refl
passed1 (w ∷ ws) h = past1 w.terminal h

passed2 : (ws : List Word) → next_level ws ≢ 2 → way_number (Operands ShiftLevel) ws ≡ 2
passed2 [] h = refl
passed2 (w ∷ ws) h = past2 w.terminal h

passed3 : (ws : List Word) → next_level ws ≢ 3 → way_number (Operands OrderLevel) ws ≡ 4
passed3 [] h = refl
passed3 (w ∷ ws) h = past3 w.terminal h

passed4 : (ws : List Word) → next_level ws ≢ 4 → way_number (Operands EqualLevel) ws ≡ 2
passed4 [] h = refl
passed4 (w ∷ ws) h = past4 w.terminal h

passed5 : (ws : List Word) → next_level ws ≢ 5 → way_number (Operands AndLevel) ws ≡ 1
passed5 [] h = refl
passed5 (w ∷ ws) h = past5 w.terminal h

passed6 : (ws : List Word) → next_level ws ≢ 6 → way_number (Operands XorLevel) ws ≡ 1
passed6 [] h = refl
passed6 (w ∷ ws) h = past6 w.terminal h

passed7 : (ws : List Word) → next_level ws ≢ 7 → way_number (Operands OrLevel) ws ≡ 1
passed7 [] h = refl
passed7 (w ∷ ws) h = past7 w.terminal h

passed8 : (ws : List Word) → next_level ws ≢ 8 → way_number (Operands BothLevel) ws ≡ 1
passed8 [] h = refl
passed8 (w ∷ ws) h = past8 w.terminal h

passed9 : (ws : List Word) → next_level ws ≢ 9 → way_number (Operands EitherLevel) ws ≡ 1
passed9 [] h = refl
passed9 (w ∷ ws) h = past9 w.terminal h

past_level : {words : List Word} {from to : Spot} {all left : List Symbol} {new : List Value} (i : ℕ) → i < 10 → next_level (drop to.at words) ≢ i
    → Path NESTING words from all to (N (Operands (level_at i)) ∷ left) new → Path NESTING words from all to left new
past_level {words} {from} {to} {all} {left} {new} (zero) low h p = by_rule (Operands ProductLevel) 3 (passed0 (drop to.at words) h) (lit< tt) p
past_level {words} {from} {to} {all} {left} {new} (suc zero) low h p = by_rule (Operands SumLevel) 2 (passed1 (drop to.at words) h) (lit< tt) p
past_level {words} {from} {to} {all} {left} {new} (suc (suc zero)) low h p = by_rule (Operands ShiftLevel) 2 (passed2 (drop to.at words) h) (lit< tt) p
past_level {words} {from} {to} {all} {left} {new} (suc (suc (suc zero))) low h p = by_rule (Operands OrderLevel) 4 (passed3 (drop to.at words) h) (lit< tt) p
past_level {words} {from} {to} {all} {left} {new} (suc (suc (suc (suc zero)))) low h p = by_rule (Operands EqualLevel) 2 (passed4 (drop to.at words) h) (lit< tt) p
past_level {words} {from} {to} {all} {left} {new} (suc (suc (suc (suc (suc zero))))) low h p = by_rule (Operands AndLevel) 1 (passed5 (drop to.at words) h) (lit< tt) p
past_level {words} {from} {to} {all} {left} {new} (suc (suc (suc (suc (suc (suc zero)))))) low h p = by_rule (Operands XorLevel) 1 (passed6 (drop to.at words) h) (lit< tt) p
past_level {words} {from} {to} {all} {left} {new} (suc (suc (suc (suc (suc (suc (suc zero))))))) low h p = by_rule (Operands OrLevel) 1 (passed7 (drop to.at words) h) (lit< tt) p
past_level {words} {from} {to} {all} {left} {new} (suc (suc (suc (suc (suc (suc (suc (suc zero)))))))) low h p = by_rule (Operands BothLevel) 1 (passed8 (drop to.at words) h) (lit< tt) p
past_level {words} {from} {to} {all} {left} {new} (suc (suc (suc (suc (suc (suc (suc (suc (suc zero))))))))) low h p = by_rule (Operands EitherLevel) 1 (passed9 (drop to.at words) h) (lit< tt) p
past_level {words} {from} {to} {all} {left} {new} (suc (suc (suc (suc (suc (suc (suc (suc (suc (suc n)))))))))) low h p = let no : ⊥ = omega (arith, low) in absurd no

pub operands_step : (from bound : ℕ) (left : List Symbol) → from < bound → operands_between from bound left ≡ N (Operands (level_at from)) ∷ operands_between (suc from) bound left
operands_step from bound left h =
    let e : bound - from ≡ suc (bound - suc from) = omega (arith, h) in
    ap (λ n. operands_then from n left) e

pub past_levels : {words : List Word} {from to : Spot} {all : List Symbol} {new : List Value} (left : List Symbol) (n low bound : ℕ) → low + n ≤ bound → bound ≤ 10
    → ((i : ℕ) → low ≤ i → i < low + n → next_level (drop to.at words) ≢ i)
    → Path NESTING words from all to (operands_between low bound left) new → Path NESTING words from all to (operands_between (low + n) bound left) new
past_levels {words} {from} {to} {all} {new} left zero low bound fits ten none p =
    let same : low ≡ low + 0 = omega arith in
    subst (λ (i : ℕ). Path NESTING words from all to (operands_between i bound left) new) same p
past_levels {words} {from} {to} {all} {new} left (suc n) low bound fits ten none p =
    let below : low < bound = omega (arith, fits) in
    let tenth : low < 10 = omega (arith, fits, ten) in
    let first : low < low + suc n = omega arith in
    let one : Path NESTING words from all to (operands_between (suc low) bound left) new =
    past_level low tenth (none low (omega arith) first)
    (subst (λ (l : List Symbol). Path NESTING words from all to l new) (operands_step low bound left below) p) in
    let same : suc low + n ≡ low + suc n = omega arith in
    let fits' : suc low + n ≤ bound = omega (arith, fits) in
    subst (λ (i : ℕ). Path NESTING words from all to (operands_between i bound left) new) same
    (past_levels left n (suc low) bound fits' ten (λ i from_low below_end. none i (omega (arith, from_low)) (omega (arith, below_end))) one)

-- ---- to an operator

at_sign : {words : List Word} {from to : Spot} {all left : List Symbol} {new : List Value} (sign : Terminal) → level_of sign < 10 → next_is (drop to.at words) sign ≡ true
    → Path NESTING words from all to (N (Operands (level_at (level_of sign))) ∷ left) new
    → Path NESTING words from all to (T sign ∷ M CountOperator ∷ N (operand (level_at (level_of sign))) ∷ B (MakeInfix (op_of sign)) ∷ N (Operands (level_at (level_of sign))) ∷ left) new
at_sign {words} {from} {to} {all} {left} {new} Star low h p = by_rule (Operands ProductLevel) 0 (number_at (Operands ProductLevel) Star (λ w ws. refl) (drop to.at words) h) (lit< tt) p
at_sign {words} {from} {to} {all} {left} {new} Slash low h p = by_rule (Operands ProductLevel) 1 (number_at (Operands ProductLevel) Slash (λ w ws. refl) (drop to.at words) h) (lit< tt) p
at_sign {words} {from} {to} {all} {left} {new} Percent low h p = by_rule (Operands ProductLevel) 2 (number_at (Operands ProductLevel) Percent (λ w ws. refl) (drop to.at words) h) (lit< tt) p
at_sign {words} {from} {to} {all} {left} {new} Plus low h p = by_rule (Operands SumLevel) 0 (number_at (Operands SumLevel) Plus (λ w ws. refl) (drop to.at words) h) (lit< tt) p
at_sign {words} {from} {to} {all} {left} {new} Minus low h p = by_rule (Operands SumLevel) 1 (number_at (Operands SumLevel) Minus (λ w ws. refl) (drop to.at words) h) (lit< tt) p
at_sign {words} {from} {to} {all} {left} {new} ShiftLeft low h p = by_rule (Operands ShiftLevel) 0 (number_at (Operands ShiftLevel) ShiftLeft (λ w ws. refl) (drop to.at words) h) (lit< tt) p
at_sign {words} {from} {to} {all} {left} {new} ShiftRight low h p = by_rule (Operands ShiftLevel) 1 (number_at (Operands ShiftLevel) ShiftRight (λ w ws. refl) (drop to.at words) h) (lit< tt) p
at_sign {words} {from} {to} {all} {left} {new} Less low h p = by_rule (Operands OrderLevel) 0 (number_at (Operands OrderLevel) Less (λ w ws. refl) (drop to.at words) h) (lit< tt) p
at_sign {words} {from} {to} {all} {left} {new} LessEqual low h p = by_rule (Operands OrderLevel) 1 (number_at (Operands OrderLevel) LessEqual (λ w ws. refl) (drop to.at words) h) (lit< tt) p
at_sign {words} {from} {to} {all} {left} {new} Greater low h p = by_rule (Operands OrderLevel) 2 (number_at (Operands OrderLevel) Greater (λ w ws. refl) (drop to.at words) h) (lit< tt) p
at_sign {words} {from} {to} {all} {left} {new} GreaterEqual low h p = by_rule (Operands OrderLevel) 3 (number_at (Operands OrderLevel) GreaterEqual (λ w ws. refl) (drop to.at words) h) (lit< tt) p
at_sign {words} {from} {to} {all} {left} {new} EqualEqual low h p = by_rule (Operands EqualLevel) 0 (number_at (Operands EqualLevel) EqualEqual (λ w ws. refl) (drop to.at words) h) (lit< tt) p
at_sign {words} {from} {to} {all} {left} {new} NotEqual low h p = by_rule (Operands EqualLevel) 1 (number_at (Operands EqualLevel) NotEqual (λ w ws. refl) (drop to.at words) h) (lit< tt) p
at_sign {words} {from} {to} {all} {left} {new} Ampersand low h p = by_rule (Operands AndLevel) 0 (number_at (Operands AndLevel) Ampersand (λ w ws. refl) (drop to.at words) h) (lit< tt) p
at_sign {words} {from} {to} {all} {left} {new} Caret low h p = by_rule (Operands XorLevel) 0 (number_at (Operands XorLevel) Caret (λ w ws. refl) (drop to.at words) h) (lit< tt) p
at_sign {words} {from} {to} {all} {left} {new} Bar low h p = by_rule (Operands OrLevel) 0 (number_at (Operands OrLevel) Bar (λ w ws. refl) (drop to.at words) h) (lit< tt) p
at_sign {words} {from} {to} {all} {left} {new} Both low h p = by_rule (Operands BothLevel) 0 (number_at (Operands BothLevel) Both (λ w ws. refl) (drop to.at words) h) (lit< tt) p
at_sign {words} {from} {to} {all} {left} {new} Either low h p = by_rule (Operands EitherLevel) 0 (number_at (Operands EitherLevel) Either (λ w ws. refl) (drop to.at words) h) (lit< tt) p
at_sign {words} {from} {to} {all} {left} {new} t low h p = let no : ⊥ = omega (arith, low) in absurd no

next_is_level : (ws : List Word) (sign : Terminal) → next_is ws sign ≡ true → next_level ws ≡ level_of sign
next_is_level [] sign h = absurd (both_ways _ refl h)
next_is_level (w ∷ ws) sign h = ap level_of (terminal_is w.terminal sign h)

-- past the levels before an operator, to it
pub to_operator : {words : List Word} {from to : Spot} {all : List Symbol} {new : List Value} (left : List Symbol) (passed bound : ℕ) (o : Operator) → bound ≤ 10 → IsOperator (drop to.at words) passed bound o
    → Path NESTING words from all to (operands_between passed bound left) new
    → Path NESTING words from all to (T o.sign ∷ M CountOperator ∷ N (operand (level_at o.level)) ∷ B (MakeInfix o.op) ∷ operands_between o.level bound left) new
to_operator {words} {from} {to} {all} {new} left passed bound o ten is p =
    let level = next_is_level (drop to.at words) o.sign is.next ∙ is.level in
    let end : passed + (o.level - passed) ≡ o.level = omega (arith, is.from) in
    let fits : passed + (o.level - passed) ≤ bound = omega (arith, is.from, is.below) in
    let there : Path NESTING words from all to (operands_between o.level bound left) new =
    subst (λ (i : ℕ). Path NESTING words from all to (operands_between i bound left) new) end
    (past_levels left (o.level - passed) passed bound fits ten (λ i from_passed below_end same. let no : ⊥ = omega (arith, same, level, below_end, end) in absurd no) p) in
    let low : level_of o.sign < 10 = omega (arith, is.level, is.below, ten) in
    let step = operands_step o.level bound left is.below in
    let opened : Path NESTING words from all to (N (Operands (level_at o.level)) ∷ operands_between (suc o.level) bound left) new =
    subst (λ (l : List Symbol). Path NESTING words from all to l new) step there in
    let taken : Path NESTING words from all to (T o.sign ∷ M CountOperator ∷ N (operand (level_at (level_of o.sign))) ∷ B (MakeInfix (op_of o.sign)) ∷ N (Operands (level_at (level_of o.sign))) ∷ operands_between (suc o.level) bound left) new =
    at_sign o.sign low is.next (subst (λ (i : ℕ). Path NESTING words from all to (N (Operands (level_at i)) ∷ operands_between (suc o.level) bound left) new) (sym is.level) opened) in
    subst (λ (l : List Symbol). Path NESTING words from all to (T o.sign ∷ M CountOperator ∷ N (operand (level_at o.level)) ∷ B (MakeInfix o.op) ∷ l) new) (sym step)
    (subst (λ (op : InfixOp). Path NESTING words from all to (T o.sign ∷ M CountOperator ∷ N (operand (level_at o.level)) ∷ B (MakeInfix op) ∷ N (Operands (level_at o.level)) ∷ operands_between (suc o.level) bound left) new) (sym is.op)
    (subst (λ (i : ℕ). Path NESTING words from all to (T o.sign ∷ M CountOperator ∷ N (operand (level_at i)) ∷ B (MakeInfix (op_of o.sign)) ∷ N (Operands (level_at i)) ∷ operands_between (suc o.level) bound left) new) is.level taken))

-- past all levels
pub no_operator : {words : List Word} {from to : Spot} {all : List Symbol} {new : List Value} (left : List Symbol) (passed bound : ℕ) → passed ≤ bound → bound ≤ 10 → IsNoOperator (drop to.at words) passed bound
    → Path NESTING words from all to (operands_between passed bound left) new → Path NESTING words from all to left new
no_operator {words} {from} {to} {all} {new} left passed bound within ten none p =
    let end : passed + (bound - passed) ≡ bound = omega (arith, within) in
    let fits : passed + (bound - passed) ≤ bound = omega (arith, within) in
    let there : Path NESTING words from all to (operands_between bound bound left) new =
    subst (λ (i : ℕ). Path NESTING words from all to (operands_between i bound left) new) end
    (past_levels left (bound - passed) passed bound fits ten (λ i from_passed below_end same. elim none [
      | inl low ↦ let no : ⊥ = omega (arith, same, low, from_passed) in absurd no
      | inr high ↦ let no : ⊥ = omega (arith, same, high, below_end, end) in absurd no
    ]) p) in
    let zero_left : bound - bound ≡ 0 = omega arith in
    subst (λ (n : ℕ). Path NESTING words from all to (operands_then bound n left) new) zero_left there
