-- Paths of the descent, a symbol at a time.
use Rattle.std.proofs.Common.{◌≡◌, ℕ, ◌+◌, ◌-◌, ◌<◌, ◌≤◌, true, false, List, [], ◌∷◌, ◌++◌, length, get_or, drop, refl, sym, ap, subst, ◌∙◌, inl, inr, arith, append_assoc}
use Rattle.std.specs.Prelude.{Result, Ok, Err, IfErr, IsErrAnd}
use Rattle.std.proofs.lemmas.Bool.{cases_lt, both_ways}
use Rattle.std.proofs.lemmas.List.{drop_more, drop_all, length-drop}
use Rattle.c_grammar.specs.declared.words.Word.{Word}
use Rattle.c_grammar.specs.declared.words.Terminal.{Terminal}
use Rattle.c_grammar.specs.declared.words.Terminal.TheVariants.{Name}
use Rattle.c_parser.specs.declared.spot.Spot.{Spot}
use Rattle.c_parser.specs.declared.errors.ParseError.{ParseError}
use Rattle.c_parser.specs.declared.errors.ParseError.TheVariants.{NoMemory, SyntaxFault, DepthFault}
use Rattle.c_grammar.specs.Steps.{Value, Step, Leaf, Place, build}
use Rattle.c_grammar.specs.Grammar.{Form, Mark, Symbol, T, L, N, M, B, Here, Unless}
use Rattle.c_grammar.specs.Ways.{ways, way_at, way_number}
use Rattle.c_grammar.specs.Reading.{State, after, add, BeginWith}
use Rattle.c_grammar.specs.Descent.{Stop, Faults, Deep, Wants, plain, valued, Descent, token, deep, other, ended, here, nowhere, mark, step, unless, rule}
use Rattle.c_parser.specs.Paths.{state_at, Path, Leads, Stops, Breaks, next_is}
use Rattle.c_grammar.proofs.Begins.{is_same}
use Rattle.c_grammar.proofs.Picks.{terminal_is}

-- what a read past the end gives
abbrev pub no_word : Word
no_word = record { terminal = Name; place = 0; value = 0 }

-- ---- the next word

pub record NextWord (words : List Word) (at : ℕ) (t : Terminal) (w : Word) : Type 0 where
  pub below : at < length words
  pub is : w.terminal ≡ t
  pub split : drop at words ≡ w ∷ drop (at + 1) words

pub next_word : (words : List Word) (at : ℕ) (t : Terminal) → next_is (drop at words) t ≡ true → NextWord words at t (get_or words at no_word)
next_word words at t h =
    elim (cases_lt at (length words)) [
      | inl lt ↦
          let split = drop_more words at no_word lt in
          record { below = lt; is = terminal_is (get_or words at no_word).terminal t (sym (ap (λ l. next_is l t) split) ∙ h); split = split }
      | inr past ↦
          let none : next_is [] t ≡ true = sym (ap (λ l. next_is l t) (drop_all at words past)) ∙ h in absurd (both_ways _ refl none)
    ]

left_is : (words : List Word) (at : ℕ) → length (drop at words) ≡ length words - at
left_is words at = length-drop at words

-- ---- a word

pub token_path : (limit : ℕ) (words : List Word) (spot : Spot) (t : Terminal) → next_is (drop spot.at words) t ≡ true → spot.depth + spot.ended + spot.stars ≤ limit
    → Leads limit words spot (T t ∷ []) (record spot { at = spot.at + 1 }) []
token_path limit words spot t h low =
    let n = next_word words spot.at t h in
    let w = get_or words spot.at no_word in
    record {
      path = λ built k o more.
          subst (λ (ws : List Word). Descent limit (state_at spot built) (T t ∷ k) ws o) (sym n.split)
          (token (state_at spot built) (T t) t (λ w s. s) k w (drop (spot.at + 1) words) o (plain t) n.is low more);
    }

pub leaf_path : (limit : ℕ) (words : List Word) (spot : Spot) (t : Terminal) → next_is (drop spot.at words) t ≡ true → spot.depth + spot.ended + spot.stars ≤ limit
    → Leads limit words spot (L t ∷ []) (record spot { at = spot.at + 1 }) (Leaf (get_or words spot.at no_word).place (get_or words spot.at no_word).value ∷ [])
leaf_path limit words spot t h low =
    let n = next_word words spot.at t h in
    let w = get_or words spot.at no_word in
    record {
      path = λ built k o more.
          subst (λ (ws : List Word). Descent limit (state_at spot built) (L t ∷ k) ws o) (sym n.split)
          (token (state_at spot built) (L t) t (λ w s. add (Leaf w.place w.value) s) k w (drop (spot.at + 1) words) o (valued t) n.is low more);
    }

pub deep_stop : (limit : ℕ) (words : List Word) (spot : Spot) (x : Symbol) (t : Terminal) (f : Word → State → State) → Wants x t f → next_is (drop spot.at words) t ≡ true
    → limit < spot.depth + spot.ended + spot.stars → Stops limit words spot (x ∷ []) (Deep (length words - spot.at))
deep_stop limit words spot x t f want h high =
    let n = next_word words spot.at t h in
    let w = get_or words spot.at no_word in
    record {
      stops = λ built k.
          subst (λ (i : ℕ). Descent limit (state_at spot built) (x ∷ k) (drop spot.at words) (Deep i)) (left_is words spot.at)
          (subst (λ (ws : List Word). Descent limit (state_at spot built) (x ∷ k) ws (Deep (length ws))) (sym n.split)
          (deep (state_at spot built) x t f k w (drop (spot.at + 1) words) want n.is high));
    }

not_next : (limit : ℕ) (s : State) (x : Symbol) (t : Terminal) (f : Word → State → State) (k : List Symbol) → Wants x t f → (ws : List Word) → next_is ws t ≡ false
    → Descent limit s (x ∷ k) ws (Faults (length ws))
not_next limit s x t f k want [] h = ended s x t f k want
not_next limit s x t f k want (w ∷ ws) h = other s x t f k w ws want (λ is. both_ways _ h (is_same w.terminal t is))

pub no_word_stop : (limit : ℕ) (words : List Word) (spot : Spot) (x : Symbol) (t : Terminal) (f : Word → State → State) → Wants x t f → next_is (drop spot.at words) t ≡ false
    → Stops limit words spot (x ∷ []) (Faults (length words - spot.at))
no_word_stop limit words spot x t f want h =
    record {
      stops = λ built k.
          subst (λ (i : ℕ). Descent limit (state_at spot built) (x ∷ k) (drop spot.at words) (Faults i)) (left_is words spot.at)
          (not_next limit (state_at spot built) x t f k want (drop spot.at words) h);
    }

-- ---- along the symbols

pub begin_path : (limit : ℕ) (words : List Word) (spot : Spot) (all : List Symbol) → Path limit words spot all spot all []
begin_path limit words spot all = record { path = λ built k o more. more }

pub rule_path : (limit : ℕ) (words : List Word) (from : Spot) (all : List Symbol) (to : Spot) (f : Form) (left : List Symbol) (new : List Value) (i : ℕ)
    → way_number f (drop to.at words) ≡ i → i < length (ways f) → Path limit words from all to (N f ∷ left) new → Path limit words from all to (way_at ways f i ++ left) new
rule_path limit words from all to f left new i is below p =
    record {
      path = λ built k o more.
          let s = state_at to (new ++ built) in
          let ws = drop to.at words in
          p.path built k o
          (rule s f (left ++ k) ws o (subst (λ (j : ℕ). j < length (ways f)) (sym is) below)
          (subst (λ (j : ℕ). Descent limit s (way_at ways f j ++ (left ++ k)) ws o) (sym is)
          (subst (λ (l : List Symbol). Descent limit s l ws o) (append_assoc (way_at ways f i) left k) more)));
    }

-- a path of the next symbols, of another function
pub pair_path : (limit : ℕ) (words : List Word) (from : Spot) (all : List Symbol) (middle : Spot) (a : List Symbol) (left : List Symbol) (new : List Value) (to : Spot) (more : List Value)
    → Path limit words from all middle (a ++ left) new → Leads limit words middle a to more → Path limit words from all to left (more ++ new)
pair_path limit words from all middle a left new to more p q =
    record {
      path = λ built k o d.
          p.path built k o
          (subst (λ (l : List Symbol). Descent limit (state_at middle (new ++ built)) l (drop middle.at words) o) (sym (append_assoc a left k))
          (q.path (new ++ built) (left ++ k) o
          (subst (λ (vs : List Value). Descent limit (state_at to vs) (left ++ k) (drop to.at words) o) (append_assoc more new built) d)));
    }

pub break_path : (limit : ℕ) (words : List Word) (from : Spot) (all : List Symbol) (middle : Spot) (a : List Symbol) (left : List Symbol) (new : List Value) (o : Stop)
    → Path limit words from all middle (a ++ left) new → Stops limit words middle a o → Stops limit words from all o
break_path limit words from all middle a left new o p q =
    record {
      stops = λ built k.
          p.path built k o
          (subst (λ (l : List Symbol). Descent limit (state_at middle (new ++ built)) l (drop middle.at words) o) (sym (append_assoc a left k)) (q.stops (new ++ built) (left ++ k)));
    }

pub breaks : (limit : ℕ) (words : List Word) (from : Spot) (all : List Symbol) (middle : Spot) (a : List Symbol) (left : List Symbol) (new : List Value) (e : ParseError)
    → Path limit words from all middle (a ++ left) new → Breaks limit words middle a e → Breaks limit words from all e
breaks limit words from all middle a left new NoMemory p q = tt
breaks limit words from all middle a left new (SyntaxFault t) p q = (q.0, break_path limit words from all middle a left new (Faults (length words - t)) p q.1)
breaks limit words from all middle a left new (DepthFault t) p q = (q.0, break_path limit words from all middle a left new (Deep (length words - t)) p q.1)

pub build_path : (limit : ℕ) (words : List Word) (from : Spot) (all : List Symbol) (to : Spot) (b : Step) (left : List Symbol) (new built_new : List Value)
    → ((built : List Value) → build b (new ++ built) ≡ built_new ++ built) → Path limit words from all to (B b ∷ left) new → Path limit words from all to left built_new
build_path limit words from all to b left new built_new is p =
    record {
      path = λ built k o more.
          p.path built k o
          (step (state_at to (new ++ built)) b (left ++ k) (drop to.at words) o
          (subst (λ (vs : List Value). Descent limit (state_at to vs) (left ++ k) (drop to.at words) o) (sym (is built)) more));
    }

-- a mark, which changes the spot
pub mark_path : (limit : ℕ) (words : List Word) (from : Spot) (all : List Symbol) (to : Spot) (m : Mark) (left : List Symbol) (new : List Value) (marked : Spot)
    → marked.at ≡ to.at → ((vs : List Value) → after m (state_at to vs) ≡ state_at marked vs) → Path limit words from all to (M m ∷ left) new → Path limit words from all marked left new
mark_path limit words from all to m left new marked same is p =
    record {
      path = λ built k o more.
          p.path built k o
          (mark (state_at to (new ++ built)) m (left ++ k) (drop to.at words) o
          (subst (λ (s : State). Descent limit s (left ++ k) (drop to.at words) o) (sym (is (new ++ built)))
          (subst (λ (i : ℕ). Descent limit (state_at marked (new ++ built)) (left ++ k) (drop i words) o) same more)));
    }

-- the place of the next word
pub here_path : (limit : ℕ) (words : List Word) (from : Spot) (all : List Symbol) (to : Spot) (left : List Symbol) (new : List Value) → to.at < length words
    → Path limit words from all to (Here ∷ left) new → Path limit words from all to left (Place (get_or words to.at no_word).place ∷ new)
here_path limit words from all to left new below p =
    let w = get_or words to.at no_word in
    let split = drop_more words to.at no_word below in
    record {
      path = λ built k o more.
          p.path built k o
          (subst (λ (ws : List Word). Descent limit (state_at to (new ++ built)) (Here ∷ (left ++ k)) ws o) (sym split)
          (here (state_at to (new ++ built)) (left ++ k) w (drop (to.at + 1) words) o
          (subst (λ (ws : List Word). Descent limit (state_at to (Place w.place ∷ (new ++ built))) (left ++ k) ws o) split more)));
    }

-- and where no word is next
pub nowhere_stop : (limit : ℕ) (words : List Word) (spot : Spot) → length words ≤ spot.at → Stops limit words spot (Here ∷ []) (Faults (length words - spot.at))
nowhere_stop limit words spot past =
    let zero_left : 0 ≡ length words - spot.at = omega arith in
    record {
      stops = λ built k.
          subst (λ (i : ℕ). Descent limit (state_at spot built) (Here ∷ k) (drop spot.at words) (Faults i)) zero_left
          (subst (λ (ws : List Word). Descent limit (state_at spot built) (Here ∷ k) ws (Faults 0)) (sym (drop_all spot.at words past)) (nowhere (state_at spot built) k));
    }

pub unless_path : (limit : ℕ) (words : List Word) (from : Spot) (all : List Symbol) (to : Spot) (ts : List Terminal) (left : List Symbol) (new : List Value)
    → ¬ BeginWith ts (drop to.at words) → Path limit words from all to (Unless ts ∷ left) new → Path limit words from all to left new
unless_path limit words from all to ts left new guard p =
    record { path = λ built k o more. p.path built k o (unless (state_at to (new ++ built)) ts (left ++ k) (drop to.at words) o guard more) }

-- the exit of a `?` keeps what its error says
pub err_out : {A : Type 0} (P : ParseError → Type 0) (r : Result A ParseError) (e : ParseError) → IsErrAnd r (λ y. y ≡ e) → P e → IfErr r P
err_out P (Ok x) e h p = tt
err_out P (Err y) e h p = subst P (sym h) p
