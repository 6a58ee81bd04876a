-- The word at fault: the first with which no program goes on, or the first that is nested too deep.
use Rattle.std.specs.Prelude.{◌≡◌, ℕ, ◌+◌, ◌<◌, ◌≤◌, List, get_or, length, map, take, ◌⊎◌}
use Rattle.c_ast.specs.declared.program.Item.{Item}
use Rattle.c_grammar.specs.declared.words.Word.{Word}
use Rattle.c_grammar.specs.Reading.{Nested, IsFront, IsFrontWay, IsReading}

-- how deep a way nests the word of this number, and 0 where it has no such word
abbrev pub nesting_at : List Nested → ℕ → ℕ
nesting_at way number = get_or (map (λ w. w.nesting) way) number 0

-- every way in which the words are a front nests this one above the limit
abbrev pub IsAlwaysAbove : ℕ → List Word → ℕ → Type 0
IsAlwaysAbove limit words number = (way : List Nested) → IsFrontWay words way → limit < nesting_at way number

-- The words up to and with this one are a front, and it is nested above the limit however the words looked at are
-- read. Those go up to the next word where that still gives a front, and else up to this one. A `(` before an operand
-- needs it: it may open an expression, or a cast, which nests it one deeper, and the next word tells which.
pub record IsTooDeep (limit : ℕ) (words : List Word) (number : ℕ) : Type 0 where
  pub inside : number < length words
  pub front : IsFront (take (number + 1) words)
  pub with_next : IsFront (take (number + 2) words) → IsAlwaysAbove limit (take (number + 2) words) number
  pub alone : ¬ IsFront (take (number + 2) words) → IsAlwaysAbove limit (take (number + 1) words) number

-- the words are a program, however deep it nests them
abbrev pub IsProgramAtAnyDepth : List Word → Type 0
IsProgramAtAnyDepth words = (items : List Item) × (way : List Nested) × IsReading words items way

-- Some program begins with the words before this one, and none with this one too. Or the words end here: a program
-- could go on, but they are no whole one. Neither this word nor one before it is too deep.
pub record IsSyntaxFault (limit : ℕ) (words : List Word) (number : ℕ) : Type 0 where
  pub front : IsFront (take number words)
  pub stuck : ¬ IsFront (take (number + 1) words) ⊎ ((number ≡ length words) × ¬ IsProgramAtAnyDepth words)
  pub shallow : (other : ℕ) → other ≤ number → ¬ IsTooDeep limit words other

-- this word is too deep, and none before it
pub record IsDepthFault (limit : ℕ) (words : List Word) (number : ℕ) : Type 0 where
  pub deep : IsTooDeep limit words number
  pub first : (other : ℕ) → other < number → ¬ IsTooDeep limit words other
