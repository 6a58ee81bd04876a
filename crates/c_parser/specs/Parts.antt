-- What the parser's functions for expressions say of the descent. No public contract cites it.
use Rattle.std.specs.Prelude.{ℕ, ◌≡◌, ◌+◌, ◌≤◌, List, [], ◌∷◌, ◌++◌, length}
use Rattle.c_ast.specs.declared.program.BlockItem.{BlockItem}
use Rattle.c_ast.specs.declared.program.Item.{Item}
use Rattle.c_grammar.specs.Reading.{Nested, IsReading, IsWithin}
use Rattle.c_grammar.specs.declared.words.Word.{Word}
use Rattle.c_parser.specs.declared.spot.Spot.{Spot}
use Rattle.c_parser.specs.declared.spot.TheConstants.{NESTING}
use Rattle.c_parser.specs.declared.errors.ParseError.{ParseError}
use Rattle.c_grammar.specs.Steps.{Value, BlockItems}
use Rattle.c_grammar.specs.Grammar.{Symbol, N}
use Rattle.c_grammar.specs.Grammar as form
use Rattle.c_parser.specs.Paths.{Path, Leads, Breaks}

-- a spot in which a part of an expression may begin
pub record IsShallow (spot : Spot) : Type 0 where
  pub depth : spot.depth ≤ NESTING + 4
  pub ended : spot.ended ≤ NESTING + 1
  pub outside : spot.stars ≡ 0

-- from a spot to one behind it, outside of the same parts
pub record Moves (words : List Word) (from to : Spot) : Type 0 where
  pub depth : to.depth ≡ from.depth
  pub ended : to.ended ≤ NESTING + 1
  pub stars : to.stars ≡ from.stars
  pub on : from.at ≤ to.at
  pub within : to.at ≤ length words

-- these symbols are read, and build this
pub record Reads (words : List Word) (from : Spot) (all : List Symbol) (to : Spot) (value : Value) : Type 0 where
  pub leads : Leads NESTING words from all to (value ∷ [])
  pub moves : Moves words from to

-- Where a part is built and symbols come that take it up: these are read, and the part becomes another. The
-- symbols are told by what comes behind them.
pub record Turns (words : List Word) (from : Spot) (front : List Symbol → List Symbol) (old : Value) (to : Spot) (back : List Symbol → List Symbol) (new : Value) : Type 0 where
  pub turns : (start : Spot) (all left : List Symbol) (values : List Value)
      → Path NESTING words start all from (front left) (old ∷ values) → Path NESTING words start all to (back left) (new ∷ values)
  pub moves : Moves words from to

-- and the descent stops there
pub record Halts (words : List Word) (from : Spot) (front : List Symbol → List Symbol) (old : Value) (e : ParseError) : Type 0 where
  pub halts : (start : Spot) (all left : List Symbol) (values : List Value)
      → Path NESTING words start all from (front left) (old ∷ values) → Breaks NESTING words start all e

-- an item of a block is read, and comes to the end of those before it
pub record Pushes (words : List Word) (from to : Spot) (item : BlockItem) : Type 0 where
  pub pushes : (start : Spot) (all left : List Symbol) (values : List Value) (items : List BlockItem)
      → Path NESTING words start all from (N form.BlockItems ∷ left) (BlockItems items ∷ values)
      → Path NESTING words start all to (N form.BlockItems ∷ left) (BlockItems (items ++ item ∷ []) ∷ values)
  pub moves : Moves words from to

-- and the descent stops there
pub record Sticks (words : List Word) (from : Spot) (e : ParseError) : Type 0 where
  pub sticks : (start : Spot) (all left : List Symbol) (values : List Value) (items : List BlockItem)
      → Path NESTING words start all from (N form.BlockItems ∷ left) (BlockItems items ∷ values) → Breaks NESTING words start all e

-- The same where several parts are built, the last one first: they become one part.
pub record Grows (words : List Word) (from : Spot) (front : List Symbol → List Symbol) (olds : List Value) (to : Spot) (new : Value) : Type 0 where
  pub grows : (start : Spot) (all left : List Symbol) (values : List Value)
      → Path NESTING words start all from (front left) (olds ++ values) → Path NESTING words start all to left (new ∷ values)
  pub moves : Moves words from to

pub record Fails (words : List Word) (from : Spot) (front : List Symbol → List Symbol) (olds : List Value) (e : ParseError) : Type 0 where
  pub fails : (start : Spot) (all left : List Symbol) (values : List Value)
      → Path NESTING words start all from (front left) (olds ++ values) → Breaks NESTING words start all e

-- where the parser begins
abbrev pub first_spot : Spot
first_spot = record { at = 0; depth = 0; ended = 0; stars = 0 }

-- the words are a program with these items, and no word is nested above the limit
pub record IsProgramOf (limit : ℕ) (words : List Word) (items : List Item) : Type 0 where
  pub way : List Nested
  pub reading : IsReading words items way
  pub within : IsWithin limit way
