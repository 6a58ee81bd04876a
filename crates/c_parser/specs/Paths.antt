-- What the parser's functions say of the descent. No public contract cites it.
use Rattle.std.specs.Prelude.{◌≡◌, ℕ, ◌-◌, ◌*◌, ◌^◌, ◌<◌, ◌≤◌, Bool, false, List, [], ◌∷◌, ◌++◌, length, drop}
use Rattle.std.specs.List.{All}
use Rattle.c_grammar.specs.declared.words.Word.{Word}
use Rattle.c_grammar.specs.declared.words.Terminal.{Terminal}
use Rattle.c_grammar.specs.declared.words.Terminal.TheVariants.{Name, String, Character}
use Rattle.c_parser.specs.declared.spot.Spot.{Spot}
use Rattle.c_parser.specs.declared.spot.TheConstants.{NESTING}
use Rattle.c_parser.specs.declared.errors.ParseError.{ParseError}
use Rattle.c_parser.specs.declared.errors.ParseError.TheVariants.{NoMemory, SyntaxFault, DepthFault}
use Rattle.c_grammar.specs.Terminals.{same_terminal}
use Rattle.c_grammar.specs.Steps.{Value}
use Rattle.c_grammar.specs.Grammar.{Form, Symbol, N}
use Rattle.c_grammar.specs.Reading.{State}
use Rattle.c_grammar.specs.Descent.{Stop, Faults, Deep, Descent}

abbrev pub state_at : Spot → List Value → State
state_at spot built = record { depth = spot.depth; ended = spot.ended; stars = spot.stars; built = built }

-- The descent goes from a spot, with these symbols first, to another, where these are left: whatever was
-- built before, and whatever comes behind. What is built on the way stands first.
pub record Path (limit : ℕ) (words : List Word) (from : Spot) (all : List Symbol) (to : Spot) (left : List Symbol) (new : List Value) : Type 0 where
  pub path : (built : List Value) (k : List Symbol) (o : Stop)
      → Descent limit (state_at to (new ++ built)) (left ++ k) (drop to.at words) o
      → Descent limit (state_at from built) (all ++ k) (drop from.at words) o

-- the same to the end of the symbols
abbrev pub Leads : ℕ → List Word → Spot → List Symbol → Spot → List Value → Type 0
Leads limit words from all to new = Path limit words from all to [] new

-- the descent from a spot stops so
pub record Stops (limit : ℕ) (words : List Word) (from : Spot) (all : List Symbol) (o : Stop) : Type 0 where
  pub stops : (built : List Value) (k : List Symbol) → Descent limit (state_at from built) (all ++ k) (drop from.at words) o

-- what an error says of it; want of memory says nothing
abbrev pub Breaks : ℕ → List Word → Spot → List Symbol → ParseError → Type 0
Breaks limit words from all NoMemory = Unit {0}
Breaks limit words from all (SyntaxFault token) =
    (token ≤ length words) × Stops limit words from all (Faults (length words - token))
Breaks limit words from all (DepthFault token) =
    (token ≤ length words) × Stops limit words from all (Deep (length words - token))

-- the terminal is next
abbrev pub next_is : List Word → Terminal → Bool
next_is [] t = false
next_is (w ∷ words) t = same_terminal w.terminal t

-- what the value of a word is below: a name's and a string's number, and a character
abbrev pub bound_of : Terminal → ℕ
bound_of Name = 2 ^ 32
bound_of String = 2 ^ 32
bound_of Character = 256
bound_of t = 2 ^ 64

abbrev pub AreBounded : List Word → Type 0
AreBounded words = All (λ w. w.value < bound_of w.terminal) words

-- The parser can go on from a spot: what it counts is far from its types' bounds.
pub record IsReady (words : List Word) (spot : Spot) : Type 0 where
  pub short : length words < 2 ^ 32
  pub bounded : AreBounded words
  pub within : spot.at ≤ length words
  pub depth : spot.depth ≤ 2 * NESTING
  pub ended : spot.ended ≤ 2 * NESTING
  pub stars : spot.stars ≤ 2 * NESTING

-- a form without expressions is read, and builds this: only the place changes
pub record Parses (words : List Word) (from : Spot) (f : Form) (to : Spot) (value : Value) : Type 0 where
  pub leads : Leads NESTING words from (N f ∷ []) to (value ∷ [])
  pub same : to ≡ record from { at = to.at }
  pub on : from.at ≤ to.at
  pub within : to.at ≤ length words
