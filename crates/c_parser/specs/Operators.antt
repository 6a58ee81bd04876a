-- The levels of operators by number, the tightest first, for who reads a word at a time. No public contract cites it.
use Rattle.std.specs.Prelude.{◌≡◌, ℕ, zero, suc, ◌-◌, ◌<◌, ◌≤◌, Bool, true, false, ◌||◌, List, [], ◌∷◌, ◌⊎◌, Option, Some, None, is_none}
use Rattle.c_ast.specs.declared.program.InfixOp.{InfixOp}
use Rattle.c_ast.specs.declared.program.InfixOp.TheVariants as infix_op
use Rattle.c_ast.specs.declared.program.PrefixOp.{PrefixOp}
use Rattle.c_ast.specs.declared.program.PrefixOp.TheVariants.{Negate, Complement, IsZero, Follow, Address}
use Rattle.c_grammar.specs.declared.words.Word.{Word}
use Rattle.c_grammar.specs.declared.words.Terminal.{Terminal}
use Rattle.c_grammar.specs.declared.words.Terminal.TheVariants.{Plus, Minus, Star, Slash, Percent, Ampersand, Bar, Caret, Tilde, Exclamation, Less, Greater, ShiftLeft, ShiftRight, LessEqual, GreaterEqual, EqualEqual, NotEqual, Both, Either, OpenBracket, Open, Dot, Arrow, Name, Number, Character, String, Sizeof, Semicolon, Equals, Comma}
use Rattle.c_parser.specs.declared.operators.Operator.{Operator}
use Rattle.c_parser.specs.Paths.{next_is}
use Rattle.c_grammar.specs.Ways.{can_begin}
use Rattle.c_grammar.specs.Grammar as form
use Rattle.c_grammar.specs.Grammar.{Level, EitherLevel, BothLevel, OrLevel, XorLevel, AndLevel, EqualLevel, OrderLevel, ShiftLevel, SumLevel, ProductLevel, Operands, Symbol, N}

-- the level of an operator's sign, and 10 where it is none
abbrev pub level_of : Terminal → ℕ
level_of Star = 0
level_of Slash = 0
level_of Percent = 0
level_of Plus = 1
level_of Minus = 1
level_of ShiftLeft = 2
level_of ShiftRight = 2
level_of Less = 3
level_of LessEqual = 3
level_of Greater = 3
level_of GreaterEqual = 3
level_of EqualEqual = 4
level_of NotEqual = 4
level_of Ampersand = 5
level_of Caret = 6
level_of Bar = 7
level_of Both = 8
level_of Either = 9
level_of t = 10

abbrev pub op_of : Terminal → InfixOp
op_of Star = infix_op.Multiply
op_of Slash = infix_op.Divide
op_of Percent = infix_op.Remainder
op_of Minus = infix_op.Subtract
op_of ShiftLeft = infix_op.ShiftLeft
op_of ShiftRight = infix_op.ShiftRight
op_of Less = infix_op.Less
op_of LessEqual = infix_op.LessEqual
op_of Greater = infix_op.Greater
op_of GreaterEqual = infix_op.GreaterEqual
op_of EqualEqual = infix_op.Equal
op_of NotEqual = infix_op.NotEqual
op_of Ampersand = infix_op.BitAnd
op_of Caret = infix_op.BitXor
op_of Bar = infix_op.BitOr
op_of Both = infix_op.Both
op_of Either = infix_op.Either
op_of t = infix_op.Add

abbrev level_from : List Level → ℕ → Level
level_from [] n = EitherLevel
level_from (l ∷ ls) zero = l
level_from (l ∷ ls) (suc n) = level_from ls n

abbrev pub level_at : ℕ → Level
level_at n =
    level_from (ProductLevel ∷ SumLevel ∷ ShiftLevel ∷ OrderLevel ∷ EqualLevel ∷ AndLevel ∷ XorLevel ∷ OrLevel ∷ BothLevel ∷ EitherLevel ∷ []) n

-- what may come after an operand of so many levels from one on, and then these symbols
abbrev pub operands_then : ℕ → ℕ → List Symbol → List Symbol
operands_then from zero left = left
operands_then from (suc n) left = N (Operands (level_at from)) ∷ operands_then (suc from) n left

-- the same up to a level
abbrev pub operands_between : ℕ → ℕ → List Symbol → List Symbol
operands_between from bound left = operands_then from (bound - from) left

-- the level of the next word
abbrev pub next_level : List Word → ℕ
next_level [] = 10
next_level (w ∷ words) = level_of w.terminal

-- the next word is this operator, of a level from one on and below another
pub record IsOperator (words : List Word) (passed bound : ℕ) (o : Operator) : Type 0 where
  pub next : next_is words o.sign ≡ true
  pub op : o.op ≡ op_of o.sign
  pub level : level_of o.sign ≡ o.level
  pub from : passed ≤ o.level
  pub below : o.level < bound

-- no such operator is next
abbrev pub IsNoOperator : List Word → ℕ → ℕ → Type 0
IsNoOperator words passed bound = (next_level words < passed) ⊎ (bound ≤ next_level words)

-- the sign before an operand
abbrev pub prefix_of : Terminal → Option PrefixOp
prefix_of Minus = Some Negate
prefix_of Tilde = Some Complement
prefix_of Exclamation = Some IsZero
prefix_of Star = Some Follow
prefix_of Ampersand = Some Address
prefix_of t = None

pub record IsPrefix (words : List Word) (sign : Terminal) (op : PrefixOp) : Type 0 where
  pub next : next_is words sign ≡ true
  pub is : prefix_of sign ≡ Some op

abbrev pub no_prefix : List Word → Bool
no_prefix [] = true
no_prefix (w ∷ words) = is_none (prefix_of w.terminal)

-- a suffix is next
abbrev pub is_suffix : Terminal → Bool
is_suffix OpenBracket = true
is_suffix Open = true
is_suffix Dot = true
is_suffix Arrow = true
is_suffix t = false

abbrev pub begins_suffix : List Word → Bool
begins_suffix [] = false
begins_suffix (w ∷ words) = is_suffix w.terminal

-- an expression or `;` can begin with this terminal
abbrev pub is_evaluation : Terminal → Bool
is_evaluation Name = true
is_evaluation Number = true
is_evaluation Character = true
is_evaluation String = true
is_evaluation Sizeof = true
is_evaluation Minus = true
is_evaluation Star = true
is_evaluation Ampersand = true
is_evaluation Tilde = true
is_evaluation Exclamation = true
is_evaluation Open = true
is_evaluation Semicolon = true
is_evaluation t = false

abbrev pub begins_evaluation : List Word → Bool
begins_evaluation [] = false
begins_evaluation (w ∷ words) = is_evaluation w.terminal

-- a declaration or a statement is next
abbrev pub begins_item : List Word → Bool
begins_item words = can_begin form.TypeName words || can_begin form.Statement words

-- behind a declared name an object goes on, or ends
abbrev pub follows_object : Terminal → Bool
follows_object Equals = true
follows_object Semicolon = true
follows_object Comma = true
follows_object OpenBracket = true
follows_object t = false

abbrev pub object_next : List Word → Bool
object_next [] = false
object_next (w ∷ words) = follows_object w.terminal
