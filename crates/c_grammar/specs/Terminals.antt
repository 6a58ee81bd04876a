-- What a token is to the grammar, by its kind and its text.
use Rattle.std.specs.Prelude.{ℕ, Bool, ◌==◌, List, [], ◌∷◌, codes, if◌then◌else◌}
use Rattle.std.specs.Str.{bytes_eq}
use Rattle.c_lexer.specs.declared.tokens.TokenKind.{TokenKind}
use Rattle.c_lexer.specs.declared.tokens.TokenKind.TheVariants as kind
use Rattle.c_grammar.specs.declared.words.Terminal.{Terminal}
use Rattle.c_grammar.specs.declared.words.Terminal.TheVariants.{Name, Number, Character, String, Char, Int, Long, Void, Struct, Private, If, Else, While, For, Do, Return, Break, Continue, Sizeof, Plus, Minus, Star, Slash, Percent, Ampersand, Bar, Caret, Tilde, Exclamation, Less, Greater, Equals, Question, Colon, Semicolon, Comma, Dot, Open, Close, OpenBracket, CloseBracket, OpenBrace, CloseBrace, ShiftLeft, ShiftRight, LessEqual, GreaterEqual, EqualEqual, NotEqual, Both, Either, Arrow, Unused}

-- where a terminal stands in their list
abbrev pub number_of : Terminal → ℕ
number_of Name = 0
number_of Number = 1
number_of Character = 2
number_of String = 3
number_of Char = 4
number_of Int = 5
number_of Long = 6
number_of Void = 7
number_of Struct = 8
number_of Private = 9
number_of If = 10
number_of Else = 11
number_of While = 12
number_of For = 13
number_of Do = 14
number_of Return = 15
number_of Break = 16
number_of Continue = 17
number_of Sizeof = 18
number_of Plus = 19
number_of Minus = 20
number_of Star = 21
number_of Slash = 22
number_of Percent = 23
number_of Ampersand = 24
number_of Bar = 25
number_of Caret = 26
number_of Tilde = 27
number_of Exclamation = 28
number_of Less = 29
number_of Greater = 30
number_of Equals = 31
number_of Question = 32
number_of Colon = 33
number_of Semicolon = 34
number_of Comma = 35
number_of Dot = 36
number_of Open = 37
number_of Close = 38
number_of OpenBracket = 39
number_of CloseBracket = 40
number_of OpenBrace = 41
number_of CloseBrace = 42
number_of ShiftLeft = 43
number_of ShiftRight = 44
number_of LessEqual = 45
number_of GreaterEqual = 46
number_of EqualEqual = 47
number_of NotEqual = 48
number_of Both = 49
number_of Either = 50
number_of Arrow = 51
number_of Unused = 52

abbrev pub same_terminal : Terminal → Terminal → Bool
same_terminal t u = number_of t == number_of u

-- a text that is spelled so
pub record Spelling : Type 0 where
  pub terminal : Terminal
  pub text : List ℕ

abbrev pub spelled : Terminal → List ℕ → Spelling
spelled terminal text = record { terminal = terminal; text = text }

abbrev pub keyword_spellings : List Spelling
keyword_spellings =
    spelled Char (codes "char")
    ∷ spelled Int (codes "int")
    ∷ spelled Long (codes "long")
    ∷ spelled Void (codes "void")
    ∷ spelled Struct (codes "struct")
    ∷ spelled Private (codes "private")
    ∷ spelled If (codes "if")
    ∷ spelled Else (codes "else")
    ∷ spelled While (codes "while")
    ∷ spelled For (codes "for")
    ∷ spelled Do (codes "do")
    ∷ spelled Return (codes "return")
    ∷ spelled Break (codes "break")
    ∷ spelled Continue (codes "continue")
    ∷ spelled Sizeof (codes "sizeof") ∷ []

-- no rule uses the signs that stand in no line of these
abbrev pub sign_spellings : List Spelling
sign_spellings =
    spelled Plus (codes "+")
    ∷ spelled Minus (codes "-")
    ∷ spelled Star (codes "*")
    ∷ spelled Slash (codes "/")
    ∷ spelled Percent (codes "%")
    ∷ spelled Ampersand (codes "&")
    ∷ spelled Bar (codes "|")
    ∷ spelled Caret (codes "^")
    ∷ spelled Tilde (codes "~")
    ∷ spelled Exclamation (codes "!")
    ∷ spelled Less (codes "<")
    ∷ spelled Greater (codes ">")
    ∷ spelled Equals (codes "=")
    ∷ spelled Question (codes "?")
    ∷ spelled Colon (codes ":")
    ∷ spelled Semicolon (codes ";")
    ∷ spelled Comma (codes ",")
    ∷ spelled Dot (codes ".")
    ∷ spelled Open (codes "(")
    ∷ spelled Close (codes ")")
    ∷ spelled OpenBracket (codes "[")
    ∷ spelled CloseBracket (codes "]")
    ∷ spelled OpenBrace (codes "{")
    ∷ spelled CloseBrace (codes "}")
    ∷ spelled ShiftLeft (codes "<<")
    ∷ spelled ShiftRight (codes ">>")
    ∷ spelled LessEqual (codes "<=")
    ∷ spelled GreaterEqual (codes ">=")
    ∷ spelled EqualEqual (codes "==")
    ∷ spelled NotEqual (codes "!=")
    ∷ spelled Both (codes "&&")
    ∷ spelled Either (codes "||")
    ∷ spelled Arrow (codes "->") ∷ []

-- the terminal that is spelled so, and `Unused` where none is
abbrev pub spelled_in : List Spelling → List ℕ → Terminal
spelled_in [] text = Unused
spelled_in (s ∷ ss) text = if bytes_eq text s.text then s.terminal else spelled_in ss text

abbrev pub terminal_of : TokenKind → List ℕ → Terminal
terminal_of kind.Name text = Name
terminal_of kind.Keyword text = spelled_in keyword_spellings text
terminal_of (kind.Num value) text = Number
terminal_of (kind.Char value) text = Character
terminal_of kind.Str text = String
terminal_of kind.Sign text = spelled_in sign_spellings text
