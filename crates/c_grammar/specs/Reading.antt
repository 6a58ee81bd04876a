-- The readings and fronts of lists of words by the grammar, with the nesting of each word and what it builds.
use Rattle.std.specs.Prelude.{◌≡◌, ℕ, ◌+◌, ◌-◌, ◌≤◌, List, [], ◌∷◌, ◌++◌, map, Contains}
use Rattle.std.specs.List.{All}
use Rattle.c_ast.specs.declared.program.Item.{Item}
use Rattle.c_grammar.specs.declared.words.Word.{Word}
use Rattle.c_grammar.specs.declared.words.Terminal.{Terminal}
use Rattle.c_grammar.specs.Steps.{Value, Step, Place, Leaf, Items, build}
use Rattle.c_grammar.specs.Grammar.{Form, Program, Mark, In, Out, CountOperator, ForgetOperators, CountStar, ForgetStars, Symbol, T, L, N, M, B, Here, Unless, Table, rules}

-- where a reading is: how many parts that nest stand around, how many operators and suffixes have ended
-- in the outermost expression, how many stars have ended in the pointer, and what is built
pub record State : Type 0 where
  pub depth : ℕ
  pub ended : ℕ
  pub stars : ℕ
  pub built : List Value

abbrev pub start : State
start = record { depth = 0; ended = 0; stars = 0; built = [] }

-- the nesting of a word that stands here
abbrev pub nesting : State → ℕ
nesting s = s.depth + s.ended + s.stars

abbrev pub after : Mark → State → State
after In s = record s { depth = s.depth + 1 }
after Out s = record s { depth = s.depth - 1 }
after CountOperator s = record s { ended = s.ended + 1 }
after ForgetOperators s = record s { ended = 0 }
after CountStar s = record s { stars = s.stars + 1 }
after ForgetStars s = record s { stars = 0 }

abbrev pub add : Value → State → State
add v s = record s { built = v ∷ s.built }

-- a word, and how deep it is nested
pub record Nested : Type 0 where
  pub word : Word
  pub nesting : ℕ

abbrev pub nested : Word → ℕ → Nested
nested word n = record { word = word; nesting = n }

abbrev pub words_of : List Nested → List Word
words_of way = map (λ w. w.word) way

-- the words begin with these terminals
abbrev pub BeginWith : List Terminal → List Word → Type 0
BeginWith [] words = Unit {0}
BeginWith (t ∷ ts) [] = ⊥
BeginWith (t ∷ ts) (w ∷ words) = (w.terminal ≡ t) × BeginWith ts words

-- where a run may end
pub data Ending : Type 0 where
  -- anywhere: the words are a front
  Anywhere : Ending
  -- at the end of all symbols: the words are a reading, which built this
  Complete : List Value → Ending

-- A run reads words from left to right. The symbols are what is still to be read: one of its rules takes the place of a
-- form, and a token takes a word.
pub data Run (table : Table) : State → List Symbol → List Nested → Ending → Type 0 where
  stop : (s : State) (symbols : List Symbol) → Run table s symbols [] Anywhere
  done : (s : State) → Run table s [] [] (Complete s.built)
  token : (s : State) (t : Terminal) (w : Word) (symbols : List Symbol) (way : List Nested) (e : Ending)
      → w.terminal ≡ t → Run table s symbols way e → Run table s (T t ∷ symbols) (nested w (nesting s) ∷ way) e
  leaf : (s : State) (t : Terminal) (w : Word) (symbols : List Symbol) (way : List Nested) (e : Ending)
      → w.terminal ≡ t → Run table (add (Leaf w.place w.value) s) symbols way e
      → Run table s (L t ∷ symbols) (nested w (nesting s) ∷ way) e
  here : (s : State) (w : Nested) (symbols : List Symbol) (way : List Nested) (e : Ending)
      → Run table (add (Place w.word.place) s) symbols (w ∷ way) e → Run table s (Here ∷ symbols) (w ∷ way) e
  mark : (s : State) (m : Mark) (symbols : List Symbol) (way : List Nested) (e : Ending)
      → Run table (after m s) symbols way e → Run table s (M m ∷ symbols) way e
  step : (s : State) (b : Step) (symbols : List Symbol) (way : List Nested) (e : Ending)
      → Run table (record s { built = build b s.built }) symbols way e → Run table s (B b ∷ symbols) way e
  unless : (s : State) (ts : List Terminal) (symbols : List Symbol) (way : List Nested) (e : Ending)
      → ¬ BeginWith ts (words_of way) → Run table s symbols way e → Run table s (Unless ts ∷ symbols) way e
  rule : (s : State) (f : Form) (parts : List Symbol) (symbols : List Symbol) (way : List Nested) (e : Ending)
      → Contains (table f) parts → Run table s (parts ++ symbols) way e → Run table s (N f ∷ symbols) way e

-- a way in which the words are a front of a program
abbrev pub IsFrontWay : List Word → List Nested → Type 0
IsFrontWay words way = (words_of way ≡ words) × Run rules start (N Program ∷ []) way Anywhere

abbrev pub IsFront : List Word → Type 0
IsFront words = (way : List Nested) × IsFrontWay words way

-- the words are a program with these items, in a way
abbrev pub IsReading : List Word → List Item → List Nested → Type 0
IsReading words items way = (words_of way ≡ words) × Run rules start (N Program ∷ []) way (Complete (Items items ∷ []))

-- no word is nested above the limit
abbrev pub IsWithin : ℕ → List Nested → Type 0
IsWithin limit way = All (λ w. w.nesting ≤ limit) way
