-- Paths and moves put together: spots and symbols are read off the facts.
use Rattle.std.proofs.Common.{◌≡◌, ℕ, ◌+◌, ◌-◌, ◌<◌, ◌≤◌, List, [], ◌∷◌, ◌++◌, length, drop, refl, sym, ap, subst, ◌∙◌, arith}
use Rattle.std.specs.Prelude.{Result, IfErr, IsErrAnd}
use Rattle.c_grammar.specs.declared.words.Word.{Word}
use Rattle.c_parser.specs.declared.spot.Spot.{Spot}
use Rattle.c_parser.specs.declared.spot.TheConstants.{NESTING}
use Rattle.c_parser.specs.declared.errors.ParseError.{ParseError}
use Rattle.c_parser.specs.declared.errors.ParseError.TheVariants.{NoMemory}
use Rattle.c_grammar.specs.Steps.{Value, Step, BlockItems, build}
use Rattle.c_grammar.specs.Grammar.{Form, Symbol, M, B, N, In, Out, CountOperator, ForgetOperators, Unless}
use Rattle.c_grammar.specs.declared.words.Terminal.{Terminal}
use Rattle.c_grammar.specs.Reading.{BeginWith}
use Rattle.c_ast.specs.declared.program.BlockItem.{BlockItem}
use Rattle.c_grammar.specs.Grammar as form
use Rattle.c_grammar.specs.Ways.{ways, way_at, way_number}
use Rattle.c_parser.specs.Paths.{Path, Leads, Breaks, Parses}
use Rattle.c_parser.specs.Parts.{Fails, Moves, Halts, Turns, Sticks}
use Rattle.c_parser.proofs.PathLemmas.{begin_path, rule_path, pair_path, breaks, build_path, mark_path, unless_path, err_out}

abbrev pub deeper : Spot → Spot
deeper spot = record spot { depth = spot.depth + 1 }

-- ---- paths

-- what another function read
pub read : {words : List Word} {from middle to : Spot} {all a left : List Symbol} {new more : List Value} → Leads NESTING words middle a to more
    → Path NESTING words from all middle (a ++ left) new → Path NESTING words from all to left (more ++ new)
read {words} {from} {middle} {to} {all} {a} {left} {new} {more} q p = pair_path NESTING words from all middle a left new to more p q

pub made : {words : List Word} {from to : Spot} {all left : List Symbol} {new built_new : List Value} {b : Step}
    → ((built : List Value) → build b (new ++ built) ≡ built_new ++ built) → Path NESTING words from all to (B b ∷ left) new → Path NESTING words from all to left built_new
made {words} {from} {to} {all} {left} {new} {built_new} {b} is p = build_path NESTING words from all to b left new built_new is p

pub entered : {words : List Word} {from to : Spot} {all left : List Symbol} {new : List Value}
    → Path NESTING words from all to (M In ∷ left) new → Path NESTING words from all (deeper to) left new
entered {words} {from} {to} {all} {left} {new} p = mark_path NESTING words from all to In left new (deeper to) refl (λ vs. refl) p

pub leaves : {words : List Word} {from to : Spot} {all left : List Symbol} {new : List Value} (d : ℕ) → to.depth ≡ d + 1
    → Path NESTING words from all to (M Out ∷ left) new → Path NESTING words from all (record to { depth = d }) left new
leaves {words} {from} {to} {all} {left} {new} d is p =
    let back : to.depth - 1 ≡ d = omega (arith, is) in
    mark_path NESTING words from all to Out left new (record to { depth = d }) refl (λ vs. λ i. record { depth = back i; ended = to.ended; stars = to.stars; built = vs }) p

pub counted : {words : List Word} {from to : Spot} {all left : List Symbol} {new : List Value}
    → Path NESTING words from all to (M CountOperator ∷ left) new → Path NESTING words from all (record to { ended = to.ended + 1 }) left new
counted {words} {from} {to} {all} {left} {new} p = mark_path NESTING words from all to CountOperator left new (record to { ended = to.ended + 1 }) refl (λ vs. refl) p

-- the exit of a `?`
pub exits : {A : Type 0} {words : List Word} {from middle : Spot} {all : List Symbol} {new : List Value} (a left : List Symbol) (r : Result A ParseError) (e : ParseError)
    → IsErrAnd r (λ y. y ≡ e) → Path NESTING words from all middle (a ++ left) new → Breaks NESTING words middle a e → IfErr r (Breaks NESTING words from all)
exits {A} {words} {from} {middle} {all} {new} a left r e h p q = err_out (Breaks NESTING words from all) r e h (breaks NESTING words from all middle a left new e p q)

pub stops_at : {words : List Word} {from middle : Spot} {all : List Symbol} {new : List Value} (a left : List Symbol) (e : ParseError)
    → Path NESTING words from all middle (a ++ left) new → Breaks NESTING words middle a e → Breaks NESTING words from all e
stops_at {words} {from} {middle} {all} {new} a left e p q = breaks NESTING words from all middle a left new e p q

pub exits_so : {A : Type 0} (words : List Word) (from : Spot) (all : List Symbol) (r : Result A ParseError) (e : ParseError)
    → IsErrAnd r (λ y. y ≡ e) → Breaks NESTING words from all e → IfErr r (Breaks NESTING words from all)
exits_so {A} words from all r e h q = err_out (Breaks NESTING words from all) r e h q

-- the same where a part is built already
pub halts_so : {A : Type 0} (words : List Word) (from : Spot) (front : List Symbol → List Symbol) (old : Value) (r : Result A ParseError) (e : ParseError) → IsErrAnd r (λ y. y ≡ e)
    → ((start : Spot) (all left : List Symbol) (values : List Value) → Path NESTING words start all from (front left) (old ∷ values) → Breaks NESTING words start all e)
    → IfErr r (Halts words from front old)
halts_so {A} words from front old r e h q = err_out (Halts words from front old) r e h (record { halts = q })

no_memory_halts : (words : List Word) (from : Spot) (front : List Symbol → List Symbol) (old : Value) → Halts words from front old NoMemory
no_memory_halts words from front old = record { halts = λ start all left values p. tt }

-- want of memory says nothing
pub halts_memory : {A : Type 0} (words : List Word) (from : Spot) (front : List Symbol → List Symbol) (old : Value) (r : Result A ParseError) (e : ParseError) → IsErrAnd r (λ y. y ≡ e) → e ≡ NoMemory
    → IfErr r (Halts words from front old)
halts_memory {A} words from front old r e h is = err_out (Halts words from front old) r e h (subst (Halts words from front old) (sym is) (no_memory_halts words from front old))

pub exits_memory : {A : Type 0} (words : List Word) (from : Spot) (all : List Symbol) (r : Result A ParseError) (e : ParseError) → IsErrAnd r (λ y. y ≡ e) → e ≡ NoMemory → IfErr r (Breaks NESTING words from all)
exits_memory {A} words from all r e h is = err_out (Breaks NESTING words from all) r e h (subst (Breaks NESTING words from all) (sym is) tt)

pub sticks_so : {A : Type 0} (words : List Word) (from : Spot) (r : Result A ParseError) (e : ParseError) → IsErrAnd r (λ y. y ≡ e)
    → ((start : Spot) (all left : List Symbol) (values : List Value) (items : List BlockItem) → Path NESTING words start all from (N form.BlockItems ∷ left) (BlockItems items ∷ values) → Breaks NESTING words start all e)
    → IfErr r (Sticks words from)
sticks_so {A} words from r e h q = err_out (Sticks words from) r e h (record { sticks = q })

pub fails_so : {A : Type 0} (words : List Word) (from : Spot) (front : List Symbol → List Symbol) (olds : List Value) (r : Result A ParseError) (e : ParseError) → IsErrAnd r (λ y. y ≡ e)
    → ((start : Spot) (all left : List Symbol) (values : List Value) → Path NESTING words start all from (front left) (olds ++ values) → Breaks NESTING words start all e)
    → IfErr r (Fails words from front olds)
fails_so {A} words from front olds r e h q = err_out (Fails words from front olds) r e h (record { fails = q })

-- by a way of a form
pub by_rule : {words : List Word} {from to : Spot} {all left : List Symbol} {new : List Value} (f : Form) (i : ℕ) → way_number f (drop to.at words) ≡ i → i < length (ways f)
    → Path NESTING words from all to (N f ∷ left) new → Path NESTING words from all to (way_at ways f i ++ left) new
by_rule {words} {from} {to} {all} {left} {new} f i is below p = rule_path NESTING words from all to f left new i is below p

pub starts : (words : List Word) (from : Spot) (all : List Symbol) → Path NESTING words from all from all []
starts words from all = begin_path NESTING words from all

pub whole_ends : {words : List Word} {from to : Spot} {all left : List Symbol} {new : List Value}
    → Path NESTING words from all to (M ForgetOperators ∷ left) new → Path NESTING words from all (record to { ended = 0 }) left new
whole_ends {words} {from} {to} {all} {left} {new} p = mark_path NESTING words from all to ForgetOperators left new (record to { ended = 0 }) refl (λ vs. refl) p

pub guarded : {words : List Word} {from to : Spot} {all left : List Symbol} {new : List Value} {ts : List Terminal} → ¬ BeginWith ts (drop to.at words)
    → Path NESTING words from all to (Unless ts ∷ left) new → Path NESTING words from all to left new
guarded {words} {from} {to} {all} {left} {new} {ts} guard p = unless_path NESTING words from all to ts left new guard p

-- ---- moves

pub moved_by_one : {words : List Word} {from to : Spot} → to ≡ record from { at = from.at + 1 } → from.at < length words → from.ended ≤ NESTING + 1 → Moves words from to
moved_by_one {words} {from} {to} place more low = record {
  depth = ap (λ (s : Spot). s.depth) place;
  ended = omega (arith, ap (λ (s : Spot). s.ended) place);
  stars = ap (λ (s : Spot). s.stars) place;
  on = omega (arith, ap (λ (s : Spot). s.at) place);
  within = omega (arith, ap (λ (s : Spot). s.at) place);
}

pub moved_by_form : {words : List Word} {from to : Spot} {f : Form} {v : Value} → Parses words from f to v → from.ended ≤ NESTING + 1 → Moves words from to
moved_by_form {words} {from} {to} {f} {v} p low = record {
  depth = ap (λ (s : Spot). s.depth) p.same;
  ended = omega (arith, ap (λ (s : Spot). s.ended) p.same);
  stars = ap (λ (s : Spot). s.stars) p.same;
  on = p.on;
  within = p.within;
}

pub moved_then : {words : List Word} {from middle to : Spot} → Moves words from middle → Moves words middle to → Moves words from to
moved_then m n = record { depth = n.depth ∙ m.depth; ended = n.ended; stars = n.stars ∙ m.stars; on = omega (arith, m.on, n.on); within = n.within }

pub moved_counted : {words : List Word} {from to : Spot} → to.ended ≤ NESTING → Moves words from to → Moves words from (record to { ended = to.ended + 1 })
moved_counted low m = record { depth = m.depth; ended = omega (arith, low); stars = m.stars; on = m.on; within = m.within }

pub moved_whole : {words : List Word} {from to : Spot} → Moves words from to → Moves words from (record to { ended = 0 })
moved_whole m = record { depth = m.depth; ended = omega arith; stars = m.stars; on = m.on; within = m.within }

pub moved_inside : {words : List Word} {from to : Spot} → Moves words (deeper from) to → Moves words from (record to { depth = from.depth })
moved_inside m = record { depth = refl; ended = m.ended; stars = m.stars; on = m.on; within = m.within }

pub stays : {words : List Word} {spot : Spot} → spot.ended ≤ NESTING + 1 → spot.at ≤ length words → Moves words spot spot
stays low within = record { depth = refl; ended = low; stars = refl; on = omega arith; within = within }

-- ---- a part that grows

pub turns_not : {words : List Word} {spot : Spot} {front : List Symbol → List Symbol} {v : Value} → spot.ended ≤ NESTING + 1 → spot.at ≤ length words → Turns words spot front v spot front v
turns_not low within = record { turns = λ start all left values p. p; moves = stays low within }

pub turns_then : {words : List Word} {from middle to : Spot} {front between back : List Symbol → List Symbol} {v w x : Value}
    → Turns words from front v middle between w → Turns words middle between w to back x → Turns words from front v to back x
turns_then f g = record { turns = λ start all left values p. g.turns start all left values (f.turns start all left values p); moves = moved_then f.moves g.moves }
