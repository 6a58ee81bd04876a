-- The number of a terminal is that of its variant.
use Rattle.std.proofs.Common.{◌≡◌, refl}
use denote.Enum.Declared.{tag_of}
use Rattle.c_grammar.specs.contracts.words.Terminal.{the_type}
use Rattle.c_grammar.specs.declared.words.Terminal.{Terminal}
use Rattle.c_grammar.specs.declared.words.Terminal.TheVariants.{Name, Number, Character, String, Char, Int, Long, Void, Struct, Private, If, Else, While, For, Do, Return, Break, Continue, Sizeof, Plus, Minus, Star, Slash, Percent, Ampersand, Bar, Caret, Tilde, Exclamation, Less, Greater, Equals, Question, Colon, Semicolon, Comma, Dot, Open, Close, OpenBracket, CloseBracket, OpenBrace, CloseBrace, ShiftLeft, ShiftRight, LessEqual, GreaterEqual, EqualEqual, NotEqual, Both, Either, Arrow, Unused}
use Rattle.c_grammar.specs.Terminals.{number_of}

pub tag_number : (t : Terminal) → tag_of the_type t ≡ number_of t
tag_number Name = refl
tag_number Number = refl
tag_number Character = refl
tag_number String = refl
tag_number Char = refl
tag_number Int = refl
tag_number Long = refl
tag_number Void = refl
tag_number Struct = refl
tag_number Private = refl
tag_number If = refl
tag_number Else = refl
tag_number While = refl
tag_number For = refl
tag_number Do = refl
tag_number Return = refl
tag_number Break = refl
tag_number Continue = refl
tag_number Sizeof = refl
tag_number Plus = refl
tag_number Minus = refl
tag_number Star = refl
tag_number Slash = refl
tag_number Percent = refl
tag_number Ampersand = refl
tag_number Bar = refl
tag_number Caret = refl
tag_number Tilde = refl
tag_number Exclamation = refl
tag_number Less = refl
tag_number Greater = refl
tag_number Equals = refl
tag_number Question = refl
tag_number Colon = refl
tag_number Semicolon = refl
tag_number Comma = refl
tag_number Dot = refl
tag_number Open = refl
tag_number Close = refl
tag_number OpenBracket = refl
tag_number CloseBracket = refl
tag_number OpenBrace = refl
tag_number CloseBrace = refl
tag_number ShiftLeft = refl
tag_number ShiftRight = refl
tag_number LessEqual = refl
tag_number GreaterEqual = refl
tag_number EqualEqual = refl
tag_number NotEqual = refl
tag_number Both = refl
tag_number Either = refl
tag_number Arrow = refl
tag_number Unused = refl
