-- The one way in which words are read a word at a time, and where it stops. No public contract cites it.
use Rattle.std.specs.Prelude.{◌≡◌, ◌≢◌, ℕ, ◌<◌, ◌≤◌, List, [], ◌∷◌, ◌++◌, length}
use Rattle.c_grammar.specs.declared.words.Word.{Word}
use Rattle.c_grammar.specs.declared.words.Terminal.{Terminal}
use Rattle.c_grammar.specs.Steps.{Value, Step, Leaf, Place, build}
use Rattle.c_grammar.specs.Grammar.{Form, Mark, Symbol, T, L, N, M, B, Here, Unless}
use Rattle.c_grammar.specs.Reading.{State, nesting, after, add, BeginWith}
use Rattle.c_grammar.specs.Ways.{ways, way_at, way_number}

-- how it ends: with what is built, or at a word, told by the number of words left there
pub data Stop : Type 0 where
  Accepts : List Value → Stop
  Faults : ℕ → Stop
  Deep : ℕ → Stop

-- where a token is wanted: what it does with the state
pub data Wants : Symbol → Terminal → (Word → State → State) → Type 0 where
  plain : (t : Terminal) → Wants (T t) t (λ w s. s)
  valued : (t : Terminal) → Wants (L t) t (λ w s. add (Leaf w.place w.value) s)

pub data Descent (limit : ℕ) : State → List Symbol → List Word → Stop → Type 0 where
  accepts : (s : State) → Descent limit s [] [] (Accepts s.built)
  left_over : (s : State) (w : Word) (ws : List Word) → Descent limit s [] (w ∷ ws) (Faults (length (w ∷ ws)))
  token : (s : State) (x : Symbol) (t : Terminal) (f : Word → State → State) (k : List Symbol) (w : Word) (ws : List Word) (o : Stop)
      → Wants x t f → w.terminal ≡ t → nesting s ≤ limit → Descent limit (f w s) k ws o → Descent limit s (x ∷ k) (w ∷ ws) o
  deep : (s : State) (x : Symbol) (t : Terminal) (f : Word → State → State) (k : List Symbol) (w : Word) (ws : List Word)
      → Wants x t f → w.terminal ≡ t → limit < nesting s → Descent limit s (x ∷ k) (w ∷ ws) (Deep (length (w ∷ ws)))
  other : (s : State) (x : Symbol) (t : Terminal) (f : Word → State → State) (k : List Symbol) (w : Word) (ws : List Word)
      → Wants x t f → w.terminal ≢ t → Descent limit s (x ∷ k) (w ∷ ws) (Faults (length (w ∷ ws)))
  ended : (s : State) (x : Symbol) (t : Terminal) (f : Word → State → State) (k : List Symbol)
      → Wants x t f → Descent limit s (x ∷ k) [] (Faults 0)
  here : (s : State) (k : List Symbol) (w : Word) (ws : List Word) (o : Stop)
      → Descent limit (add (Place w.place) s) k (w ∷ ws) o → Descent limit s (Here ∷ k) (w ∷ ws) o
  nowhere : (s : State) (k : List Symbol) → Descent limit s (Here ∷ k) [] (Faults 0)
  mark : (s : State) (m : Mark) (k : List Symbol) (ws : List Word) (o : Stop)
      → Descent limit (after m s) k ws o → Descent limit s (M m ∷ k) ws o
  step : (s : State) (b : Step) (k : List Symbol) (ws : List Word) (o : Stop)
      → Descent limit (record s { built = build b s.built }) k ws o → Descent limit s (B b ∷ k) ws o
  unless : (s : State) (ts : List Terminal) (k : List Symbol) (ws : List Word) (o : Stop)
      → ¬ BeginWith ts ws → Descent limit s k ws o → Descent limit s (Unless ts ∷ k) ws o
  rule : (s : State) (f : Form) (k : List Symbol) (ws : List Word) (o : Stop)
      → way_number f ws < length (ways f) → Descent limit s (way_at ways f (way_number f ws) ++ k) ws o → Descent limit s (N f ∷ k) ws o
