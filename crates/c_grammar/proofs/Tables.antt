-- What can come after each form, and what is tested of all forms and terminals.
use Rattle.std.proofs.Common.{lit<, ◌≡◌, ℕ, suc, ◌==◌, Bool, true, false, not, ◌&&◌, ◌||◌, List, [], ◌∷◌, refl}
use Rattle.std.specs.Prelude.{Contains}
use Rattle.std.specs.List.{list_all}
use Rattle.c_grammar.specs.declared.words.Terminal.{Terminal}
use Rattle.c_grammar.specs.declared.words.Terminal.TheVariants.{Name, Number, Character, String, Char, Int, Long, Void, Struct, Private, If, Else, While, For, Do, Return, Break, Continue, Sizeof, Plus, Minus, Star, Slash, Percent, Ampersand, Bar, Caret, Tilde, Exclamation, Less, Greater, Equals, Question, Colon, Semicolon, Comma, Dot, Open, Close, OpenBracket, CloseBracket, OpenBrace, CloseBrace, ShiftLeft, ShiftRight, LessEqual, GreaterEqual, EqualEqual, NotEqual, Both, Either, Arrow, Unused}
use Rattle.c_grammar.specs.Terminals.{same_terminal}
use Rattle.c_grammar.specs.Grammar.{EitherLevel, BothLevel, OrLevel, XorLevel, AndLevel, EqualLevel, OrderLevel, ShiftLevel, SumLevel, ProductLevel, AfterPointer, AfterStars, AfterName, AfterParameters, AfterObject, AfterUnary, Form, At, Operands, Left, Program, Tops, Top, Structure, Members, Member, MoreDeclarators, Specifier, PerhapsPrivate, BaseType, Pointer, MoreStars, Declarator, PerhapsLength, Declaration, MoreObjects, Object, PerhapsStart, Prototype, Function, Parameters, Parameter, MoreParameters, ParameterTypes, MoreTypes, TypeName, PerhapsPointer, Block, BlockItems, Statement, AnyStatement, PerhapsElse, PerhapsWhole, Whole, Expression, Assign, Conditional, PerhapsChoice, Cast, Unary, Postfix, Suffixes, Arguments, MoreArguments, Primary, Symbol, T, L, N, M, B, Here, Unless}
use Rattle.c_grammar.specs.Ways.{ways, firsts, may_be_empty, can_be, begins, passes, empty_way, begun_way}

abbrev pub all_terminals : List Terminal
all_terminals = Name ∷ Number ∷ Character ∷ String ∷ Char ∷ Int ∷ Long ∷ Void ∷ Struct ∷ Private ∷ If ∷ Else ∷ While ∷ For ∷ Do ∷ Return ∷ Break ∷ Continue ∷ Sizeof ∷ Plus ∷ Minus ∷ Star ∷ Slash ∷ Percent ∷ Ampersand ∷ Bar ∷ Caret ∷ Tilde ∷ Exclamation ∷ Less ∷ Greater ∷ Equals ∷ Question ∷ Colon ∷ Semicolon ∷ Comma ∷ Dot ∷ Open ∷ Close ∷ OpenBracket ∷ CloseBracket ∷ OpenBrace ∷ CloseBrace ∷ ShiftLeft ∷ ShiftRight ∷ LessEqual ∷ GreaterEqual ∷ EqualEqual ∷ NotEqual ∷ Both ∷ Either ∷ Arrow ∷ Unused ∷ []

pub every_terminal : (t : Terminal) → Contains all_terminals t
every_terminal Name = (0, lit< tt, refl)
every_terminal Number = (1, lit< tt, refl)
every_terminal Character = (2, lit< tt, refl)
every_terminal String = (3, lit< tt, refl)
every_terminal Char = (4, lit< tt, refl)
every_terminal Int = (5, lit< tt, refl)
every_terminal Long = (6, lit< tt, refl)
every_terminal Void = (7, lit< tt, refl)
every_terminal Struct = (8, lit< tt, refl)
every_terminal Private = (9, lit< tt, refl)
every_terminal If = (10, lit< tt, refl)
every_terminal Else = (11, lit< tt, refl)
every_terminal While = (12, lit< tt, refl)
every_terminal For = (13, lit< tt, refl)
every_terminal Do = (14, lit< tt, refl)
every_terminal Return = (15, lit< tt, refl)
every_terminal Break = (16, lit< tt, refl)
every_terminal Continue = (17, lit< tt, refl)
every_terminal Sizeof = (18, lit< tt, refl)
every_terminal Plus = (19, lit< tt, refl)
every_terminal Minus = (20, lit< tt, refl)
every_terminal Star = (21, lit< tt, refl)
every_terminal Slash = (22, lit< tt, refl)
every_terminal Percent = (23, lit< tt, refl)
every_terminal Ampersand = (24, lit< tt, refl)
every_terminal Bar = (25, lit< tt, refl)
every_terminal Caret = (26, lit< tt, refl)
every_terminal Tilde = (27, lit< tt, refl)
every_terminal Exclamation = (28, lit< tt, refl)
every_terminal Less = (29, lit< tt, refl)
every_terminal Greater = (30, lit< tt, refl)
every_terminal Equals = (31, lit< tt, refl)
every_terminal Question = (32, lit< tt, refl)
every_terminal Colon = (33, lit< tt, refl)
every_terminal Semicolon = (34, lit< tt, refl)
every_terminal Comma = (35, lit< tt, refl)
every_terminal Dot = (36, lit< tt, refl)
every_terminal Open = (37, lit< tt, refl)
every_terminal Close = (38, lit< tt, refl)
every_terminal OpenBracket = (39, lit< tt, refl)
every_terminal CloseBracket = (40, lit< tt, refl)
every_terminal OpenBrace = (41, lit< tt, refl)
every_terminal CloseBrace = (42, lit< tt, refl)
every_terminal ShiftLeft = (43, lit< tt, refl)
every_terminal ShiftRight = (44, lit< tt, refl)
every_terminal LessEqual = (45, lit< tt, refl)
every_terminal GreaterEqual = (46, lit< tt, refl)
every_terminal EqualEqual = (47, lit< tt, refl)
every_terminal NotEqual = (48, lit< tt, refl)
every_terminal Both = (49, lit< tt, refl)
every_terminal Either = (50, lit< tt, refl)
every_terminal Arrow = (51, lit< tt, refl)
every_terminal Unused = (52, lit< tt, refl)

-- what can come after each form
abbrev pub follows : Form → List Terminal
follows Program = []
follows Tops = []
follows Top = Char ∷ Int ∷ Long ∷ Void ∷ Struct ∷ Private ∷ []
follows Structure = Char ∷ Int ∷ Long ∷ Void ∷ Struct ∷ Private ∷ []
follows Members = CloseBrace ∷ []
follows Member = Char ∷ Int ∷ Long ∷ Void ∷ Struct ∷ Private ∷ CloseBrace ∷ []
follows MoreDeclarators = Semicolon ∷ []
follows Specifier = Name ∷ Star ∷ Comma ∷ Open ∷ Close ∷ []
follows PerhapsPrivate = Name ∷ Char ∷ Int ∷ Long ∷ Void ∷ Struct ∷ Star ∷ Comma ∷ Open ∷ Close ∷ []
follows BaseType = Name ∷ Private ∷ Star ∷ Comma ∷ Open ∷ Close ∷ []
follows Pointer = Name ∷ Comma ∷ Open ∷ Close ∷ []
follows MoreStars = Name ∷ Comma ∷ Open ∷ Close ∷ []
follows Declarator = Equals ∷ Semicolon ∷ Comma ∷ Close ∷ []
follows PerhapsLength = Equals ∷ Semicolon ∷ Comma ∷ Close ∷ []
follows Declaration = Name ∷ Number ∷ Character ∷ String ∷ Char ∷ Int ∷ Long ∷ Void ∷ Struct ∷ Private ∷ If ∷ While ∷ For ∷ Do ∷ Return ∷ Break ∷ Continue ∷ Sizeof ∷ Minus ∷ Star ∷ Ampersand ∷ Tilde ∷ Exclamation ∷ Semicolon ∷ Open ∷ OpenBrace ∷ CloseBrace ∷ []
follows MoreObjects = Semicolon ∷ []
follows Object = Semicolon ∷ Comma ∷ []
follows PerhapsStart = Semicolon ∷ Comma ∷ []
follows Prototype = []
follows Function = []
follows Parameters = Close ∷ []
follows Parameter = Comma ∷ Close ∷ []
follows MoreParameters = Close ∷ []
follows ParameterTypes = Close ∷ []
follows MoreTypes = Close ∷ []
follows TypeName = Comma ∷ Close ∷ []
follows PerhapsPointer = Comma ∷ Close ∷ []
follows Block = Name ∷ Number ∷ Character ∷ String ∷ Char ∷ Int ∷ Long ∷ Void ∷ Struct ∷ Private ∷ If ∷ Else ∷ While ∷ For ∷ Do ∷ Return ∷ Break ∷ Continue ∷ Sizeof ∷ Minus ∷ Star ∷ Ampersand ∷ Tilde ∷ Exclamation ∷ Semicolon ∷ Open ∷ OpenBrace ∷ CloseBrace ∷ []
follows BlockItems = CloseBrace ∷ []
follows Statement = Name ∷ Number ∷ Character ∷ String ∷ Char ∷ Int ∷ Long ∷ Void ∷ Struct ∷ Private ∷ If ∷ Else ∷ While ∷ For ∷ Do ∷ Return ∷ Break ∷ Continue ∷ Sizeof ∷ Minus ∷ Star ∷ Ampersand ∷ Tilde ∷ Exclamation ∷ Semicolon ∷ Open ∷ OpenBrace ∷ CloseBrace ∷ []
follows AnyStatement = Name ∷ Number ∷ Character ∷ String ∷ Char ∷ Int ∷ Long ∷ Void ∷ Struct ∷ Private ∷ If ∷ Else ∷ While ∷ For ∷ Do ∷ Return ∷ Break ∷ Continue ∷ Sizeof ∷ Minus ∷ Star ∷ Ampersand ∷ Tilde ∷ Exclamation ∷ Semicolon ∷ Open ∷ OpenBrace ∷ CloseBrace ∷ []
follows PerhapsElse = Name ∷ Number ∷ Character ∷ String ∷ Char ∷ Int ∷ Long ∷ Void ∷ Struct ∷ Private ∷ If ∷ Else ∷ While ∷ For ∷ Do ∷ Return ∷ Break ∷ Continue ∷ Sizeof ∷ Minus ∷ Star ∷ Ampersand ∷ Tilde ∷ Exclamation ∷ Semicolon ∷ Open ∷ OpenBrace ∷ CloseBrace ∷ []
follows PerhapsWhole = Semicolon ∷ Close ∷ []
follows Whole = Semicolon ∷ Comma ∷ Close ∷ []
follows Expression = Colon ∷ Semicolon ∷ Comma ∷ Close ∷ CloseBracket ∷ []
follows Assign = Colon ∷ Semicolon ∷ Comma ∷ Close ∷ CloseBracket ∷ []
follows Conditional = Colon ∷ Semicolon ∷ Comma ∷ Close ∷ CloseBracket ∷ []
follows PerhapsChoice = Colon ∷ Semicolon ∷ Comma ∷ Close ∷ CloseBracket ∷ []
follows (At EitherLevel) = Question ∷ Colon ∷ Semicolon ∷ Comma ∷ Close ∷ CloseBracket ∷ []
follows (At BothLevel) = Question ∷ Colon ∷ Semicolon ∷ Comma ∷ Close ∷ CloseBracket ∷ Either ∷ []
follows (At OrLevel) = Question ∷ Colon ∷ Semicolon ∷ Comma ∷ Close ∷ CloseBracket ∷ Both ∷ Either ∷ []
follows (At XorLevel) = Bar ∷ Question ∷ Colon ∷ Semicolon ∷ Comma ∷ Close ∷ CloseBracket ∷ Both ∷ Either ∷ []
follows (At AndLevel) = Bar ∷ Caret ∷ Question ∷ Colon ∷ Semicolon ∷ Comma ∷ Close ∷ CloseBracket ∷ Both ∷ Either ∷ []
follows (At EqualLevel) = Ampersand ∷ Bar ∷ Caret ∷ Question ∷ Colon ∷ Semicolon ∷ Comma ∷ Close ∷ CloseBracket ∷ Both ∷ Either ∷ []
follows (At OrderLevel) = Ampersand ∷ Bar ∷ Caret ∷ Question ∷ Colon ∷ Semicolon ∷ Comma ∷ Close ∷ CloseBracket ∷ EqualEqual ∷ NotEqual ∷ Both ∷ Either ∷ []
follows (At ShiftLevel) = Ampersand ∷ Bar ∷ Caret ∷ Less ∷ Greater ∷ Question ∷ Colon ∷ Semicolon ∷ Comma ∷ Close ∷ CloseBracket ∷ LessEqual ∷ GreaterEqual ∷ EqualEqual ∷ NotEqual ∷ Both ∷ Either ∷ []
follows (At SumLevel) = Ampersand ∷ Bar ∷ Caret ∷ Less ∷ Greater ∷ Question ∷ Colon ∷ Semicolon ∷ Comma ∷ Close ∷ CloseBracket ∷ ShiftLeft ∷ ShiftRight ∷ LessEqual ∷ GreaterEqual ∷ EqualEqual ∷ NotEqual ∷ Both ∷ Either ∷ []
follows (At ProductLevel) = Plus ∷ Minus ∷ Ampersand ∷ Bar ∷ Caret ∷ Less ∷ Greater ∷ Question ∷ Colon ∷ Semicolon ∷ Comma ∷ Close ∷ CloseBracket ∷ ShiftLeft ∷ ShiftRight ∷ LessEqual ∷ GreaterEqual ∷ EqualEqual ∷ NotEqual ∷ Both ∷ Either ∷ []
follows (Operands EitherLevel) = Question ∷ Colon ∷ Semicolon ∷ Comma ∷ Close ∷ CloseBracket ∷ []
follows (Operands BothLevel) = Question ∷ Colon ∷ Semicolon ∷ Comma ∷ Close ∷ CloseBracket ∷ Either ∷ []
follows (Operands OrLevel) = Question ∷ Colon ∷ Semicolon ∷ Comma ∷ Close ∷ CloseBracket ∷ Both ∷ Either ∷ []
follows (Operands XorLevel) = Bar ∷ Question ∷ Colon ∷ Semicolon ∷ Comma ∷ Close ∷ CloseBracket ∷ Both ∷ Either ∷ []
follows (Operands AndLevel) = Bar ∷ Caret ∷ Question ∷ Colon ∷ Semicolon ∷ Comma ∷ Close ∷ CloseBracket ∷ Both ∷ Either ∷ []
follows (Operands EqualLevel) = Ampersand ∷ Bar ∷ Caret ∷ Question ∷ Colon ∷ Semicolon ∷ Comma ∷ Close ∷ CloseBracket ∷ Both ∷ Either ∷ []
follows (Operands OrderLevel) = Ampersand ∷ Bar ∷ Caret ∷ Question ∷ Colon ∷ Semicolon ∷ Comma ∷ Close ∷ CloseBracket ∷ EqualEqual ∷ NotEqual ∷ Both ∷ Either ∷ []
follows (Operands ShiftLevel) = Ampersand ∷ Bar ∷ Caret ∷ Less ∷ Greater ∷ Question ∷ Colon ∷ Semicolon ∷ Comma ∷ Close ∷ CloseBracket ∷ LessEqual ∷ GreaterEqual ∷ EqualEqual ∷ NotEqual ∷ Both ∷ Either ∷ []
follows (Operands SumLevel) = Ampersand ∷ Bar ∷ Caret ∷ Less ∷ Greater ∷ Question ∷ Colon ∷ Semicolon ∷ Comma ∷ Close ∷ CloseBracket ∷ ShiftLeft ∷ ShiftRight ∷ LessEqual ∷ GreaterEqual ∷ EqualEqual ∷ NotEqual ∷ Both ∷ Either ∷ []
follows (Operands ProductLevel) = Plus ∷ Minus ∷ Ampersand ∷ Bar ∷ Caret ∷ Less ∷ Greater ∷ Question ∷ Colon ∷ Semicolon ∷ Comma ∷ Close ∷ CloseBracket ∷ ShiftLeft ∷ ShiftRight ∷ LessEqual ∷ GreaterEqual ∷ EqualEqual ∷ NotEqual ∷ Both ∷ Either ∷ []
follows Cast = Plus ∷ Minus ∷ Star ∷ Slash ∷ Percent ∷ Ampersand ∷ Bar ∷ Caret ∷ Less ∷ Greater ∷ Equals ∷ Question ∷ Colon ∷ Semicolon ∷ Comma ∷ Close ∷ CloseBracket ∷ ShiftLeft ∷ ShiftRight ∷ LessEqual ∷ GreaterEqual ∷ EqualEqual ∷ NotEqual ∷ Both ∷ Either ∷ []
follows Unary = Plus ∷ Minus ∷ Star ∷ Slash ∷ Percent ∷ Ampersand ∷ Bar ∷ Caret ∷ Less ∷ Greater ∷ Equals ∷ Question ∷ Colon ∷ Semicolon ∷ Comma ∷ Close ∷ CloseBracket ∷ ShiftLeft ∷ ShiftRight ∷ LessEqual ∷ GreaterEqual ∷ EqualEqual ∷ NotEqual ∷ Both ∷ Either ∷ []
follows Postfix = Plus ∷ Minus ∷ Star ∷ Slash ∷ Percent ∷ Ampersand ∷ Bar ∷ Caret ∷ Less ∷ Greater ∷ Equals ∷ Question ∷ Colon ∷ Semicolon ∷ Comma ∷ Close ∷ CloseBracket ∷ ShiftLeft ∷ ShiftRight ∷ LessEqual ∷ GreaterEqual ∷ EqualEqual ∷ NotEqual ∷ Both ∷ Either ∷ []
follows Suffixes = Plus ∷ Minus ∷ Star ∷ Slash ∷ Percent ∷ Ampersand ∷ Bar ∷ Caret ∷ Less ∷ Greater ∷ Equals ∷ Question ∷ Colon ∷ Semicolon ∷ Comma ∷ Close ∷ CloseBracket ∷ ShiftLeft ∷ ShiftRight ∷ LessEqual ∷ GreaterEqual ∷ EqualEqual ∷ NotEqual ∷ Both ∷ Either ∷ []
follows Arguments = Close ∷ []
follows MoreArguments = Close ∷ []
follows Primary = Plus ∷ Minus ∷ Star ∷ Slash ∷ Percent ∷ Ampersand ∷ Bar ∷ Caret ∷ Less ∷ Greater ∷ Equals ∷ Question ∷ Colon ∷ Semicolon ∷ Comma ∷ Dot ∷ Open ∷ Close ∷ OpenBracket ∷ CloseBracket ∷ ShiftLeft ∷ ShiftRight ∷ LessEqual ∷ GreaterEqual ∷ EqualEqual ∷ NotEqual ∷ Both ∷ Either ∷ Arrow ∷ []
follows (Left AfterPointer) = Equals ∷ Semicolon ∷ Comma ∷ Close ∷ []
follows (Left AfterStars) = Char ∷ Int ∷ Long ∷ Void ∷ Struct ∷ Private ∷ []
follows (Left AfterName) = Char ∷ Int ∷ Long ∷ Void ∷ Struct ∷ Private ∷ []
follows (Left AfterParameters) = Char ∷ Int ∷ Long ∷ Void ∷ Struct ∷ Private ∷ []
follows (Left AfterObject) = Char ∷ Int ∷ Long ∷ Void ∷ Struct ∷ Private ∷ []
follows (Left AfterUnary) = Colon ∷ Semicolon ∷ Comma ∷ Close ∷ CloseBracket ∷ []

-- which forms can stand at the end of a program
abbrev pub can_end : Form → Bool
can_end Program = true
can_end Tops = true
can_end Top = true
can_end Structure = true
can_end Block = true
can_end (Left AfterStars) = true
can_end (Left AfterName) = true
can_end (Left AfterParameters) = true
can_end (Left AfterObject) = true
can_end f = false

-- ---- the tests

-- what a way of a form begins with, the form does
abbrev pub firsts_closed : Form → Bool
firsts_closed f = list_all (λ t. list_all (λ p. not (begins p t) || can_be (firsts f) t) (ways f)) all_terminals

-- a form with an empty way may be empty
abbrev pub empty_closed : Form → Bool
empty_closed f = list_all (λ p. not (passes p) || may_be_empty f) (ways f)

-- what comes after each form in a way can come after it
abbrev pub fit_in : Form → List Symbol → Terminal → Bool
fit_in f [] t = true
fit_in f (N g ∷ k) t = (not (begins k t || (passes k && can_be (follows f) t)) || can_be (follows g) t) && fit_in f k t
fit_in f (T u ∷ k) t = fit_in f k t
fit_in f (L u ∷ k) t = fit_in f k t
fit_in f (M m ∷ k) t = fit_in f k t
fit_in f (B b ∷ k) t = fit_in f k t
fit_in f (Here ∷ k) t = fit_in f k t
fit_in f (Unless ts ∷ k) t = fit_in f k t

abbrev pub follows_closed : Form → Bool
follows_closed f = list_all (λ t. list_all (λ p. fit_in f p t) (ways f)) all_terminals

-- a form that ends a way of a form that can stand at the end can do so
abbrev pub end_in : Form → List Symbol → Bool
end_in f [] = true
end_in f (N g ∷ k) = (not (passes k && can_end f) || can_end g) && end_in f k
end_in f (T u ∷ k) = end_in f k
end_in f (L u ∷ k) = end_in f k
end_in f (M m ∷ k) = end_in f k
end_in f (B b ∷ k) = end_in f k
end_in f (Here ∷ k) = end_in f k
end_in f (Unless ts ∷ k) = end_in f k

abbrev pub ends_closed : Form → Bool
ends_closed f = list_all (λ p. end_in f p) (ways f)

-- one word doesn't decide
abbrev pub is_hard : Form → Terminal → Bool
is_hard Top t = same_terminal t Struct
is_hard Assign t = same_terminal t Open
is_hard Cast t = same_terminal t Open
is_hard Parameters t = same_terminal t Void
is_hard ParameterTypes t = same_terminal t Void
is_hard PerhapsElse t = same_terminal t Else
is_hard f t = false

-- a form can have this way at this terminal
abbrev pub can_have : Form → List Symbol → Terminal → Bool
can_have f p t = begins p t || (passes p && can_be (follows f) t)

abbrev pub one_from : Form → ℕ → List (List Symbol) → Terminal → Bool
one_from f i [] t = true
one_from f i (p ∷ ps) t = (not (can_have f p t) || i == begun_way f t) && one_from f (suc i) ps t

abbrev pub one_way : Form → Bool
one_way f = list_all (λ t. is_hard f t || one_from f 0 (ways f) t) all_terminals

abbrev pub one_empty_from : Form → ℕ → List (List Symbol) → Bool
one_empty_from f i [] = true
one_empty_from f i (p ∷ ps) = (not (passes p) || i == empty_way f) && one_empty_from f (suc i) ps

abbrev pub one_empty : Form → Bool
one_empty f = one_empty_from f 0 (ways f)

pub are_firsts_closed : (f : Form) → firsts_closed f ≡ true
are_firsts_closed (At EitherLevel) = refl
are_firsts_closed (At BothLevel) = refl
are_firsts_closed (At OrLevel) = refl
are_firsts_closed (At XorLevel) = refl
are_firsts_closed (At AndLevel) = refl
are_firsts_closed (At EqualLevel) = refl
are_firsts_closed (At OrderLevel) = refl
are_firsts_closed (At ShiftLevel) = refl
are_firsts_closed (At SumLevel) = refl
are_firsts_closed (At ProductLevel) = refl
are_firsts_closed (Operands EitherLevel) = refl
are_firsts_closed (Operands BothLevel) = refl
are_firsts_closed (Operands OrLevel) = refl
are_firsts_closed (Operands XorLevel) = refl
are_firsts_closed (Operands AndLevel) = refl
are_firsts_closed (Operands EqualLevel) = refl
are_firsts_closed (Operands OrderLevel) = refl
are_firsts_closed (Operands ShiftLevel) = refl
are_firsts_closed (Operands SumLevel) = refl
are_firsts_closed (Operands ProductLevel) = refl
are_firsts_closed (Left AfterPointer) = refl
are_firsts_closed (Left AfterStars) = refl
are_firsts_closed (Left AfterName) = refl
are_firsts_closed (Left AfterParameters) = refl
are_firsts_closed (Left AfterObject) = refl
are_firsts_closed (Left AfterUnary) = refl
are_firsts_closed f = refl

pub are_empty_closed : (f : Form) → empty_closed f ≡ true
are_empty_closed (At EitherLevel) = refl
are_empty_closed (At BothLevel) = refl
are_empty_closed (At OrLevel) = refl
are_empty_closed (At XorLevel) = refl
are_empty_closed (At AndLevel) = refl
are_empty_closed (At EqualLevel) = refl
are_empty_closed (At OrderLevel) = refl
are_empty_closed (At ShiftLevel) = refl
are_empty_closed (At SumLevel) = refl
are_empty_closed (At ProductLevel) = refl
are_empty_closed (Operands EitherLevel) = refl
are_empty_closed (Operands BothLevel) = refl
are_empty_closed (Operands OrLevel) = refl
are_empty_closed (Operands XorLevel) = refl
are_empty_closed (Operands AndLevel) = refl
are_empty_closed (Operands EqualLevel) = refl
are_empty_closed (Operands OrderLevel) = refl
are_empty_closed (Operands ShiftLevel) = refl
are_empty_closed (Operands SumLevel) = refl
are_empty_closed (Operands ProductLevel) = refl
are_empty_closed (Left AfterPointer) = refl
are_empty_closed (Left AfterStars) = refl
are_empty_closed (Left AfterName) = refl
are_empty_closed (Left AfterParameters) = refl
are_empty_closed (Left AfterObject) = refl
are_empty_closed (Left AfterUnary) = refl
are_empty_closed f = refl

pub are_follows_closed : (f : Form) → follows_closed f ≡ true
are_follows_closed (At EitherLevel) = refl
are_follows_closed (At BothLevel) = refl
are_follows_closed (At OrLevel) = refl
are_follows_closed (At XorLevel) = refl
are_follows_closed (At AndLevel) = refl
are_follows_closed (At EqualLevel) = refl
are_follows_closed (At OrderLevel) = refl
are_follows_closed (At ShiftLevel) = refl
are_follows_closed (At SumLevel) = refl
are_follows_closed (At ProductLevel) = refl
are_follows_closed (Operands EitherLevel) = refl
are_follows_closed (Operands BothLevel) = refl
are_follows_closed (Operands OrLevel) = refl
are_follows_closed (Operands XorLevel) = refl
are_follows_closed (Operands AndLevel) = refl
are_follows_closed (Operands EqualLevel) = refl
are_follows_closed (Operands OrderLevel) = refl
are_follows_closed (Operands ShiftLevel) = refl
are_follows_closed (Operands SumLevel) = refl
are_follows_closed (Operands ProductLevel) = refl
are_follows_closed (Left AfterPointer) = refl
are_follows_closed (Left AfterStars) = refl
are_follows_closed (Left AfterName) = refl
are_follows_closed (Left AfterParameters) = refl
are_follows_closed (Left AfterObject) = refl
are_follows_closed (Left AfterUnary) = refl
are_follows_closed f = refl

pub has_one_way : (f : Form) → one_way f ≡ true
has_one_way (At EitherLevel) = refl
has_one_way (At BothLevel) = refl
has_one_way (At OrLevel) = refl
has_one_way (At XorLevel) = refl
has_one_way (At AndLevel) = refl
has_one_way (At EqualLevel) = refl
has_one_way (At OrderLevel) = refl
has_one_way (At ShiftLevel) = refl
has_one_way (At SumLevel) = refl
has_one_way (At ProductLevel) = refl
has_one_way (Operands EitherLevel) = refl
has_one_way (Operands BothLevel) = refl
has_one_way (Operands OrLevel) = refl
has_one_way (Operands XorLevel) = refl
has_one_way (Operands AndLevel) = refl
has_one_way (Operands EqualLevel) = refl
has_one_way (Operands OrderLevel) = refl
has_one_way (Operands ShiftLevel) = refl
has_one_way (Operands SumLevel) = refl
has_one_way (Operands ProductLevel) = refl
has_one_way (Left AfterPointer) = refl
has_one_way (Left AfterStars) = refl
has_one_way (Left AfterName) = refl
has_one_way (Left AfterParameters) = refl
has_one_way (Left AfterObject) = refl
has_one_way (Left AfterUnary) = refl
has_one_way f = refl

pub has_one_empty : (f : Form) → one_empty f ≡ true
has_one_empty (At EitherLevel) = refl
has_one_empty (At BothLevel) = refl
has_one_empty (At OrLevel) = refl
has_one_empty (At XorLevel) = refl
has_one_empty (At AndLevel) = refl
has_one_empty (At EqualLevel) = refl
has_one_empty (At OrderLevel) = refl
has_one_empty (At ShiftLevel) = refl
has_one_empty (At SumLevel) = refl
has_one_empty (At ProductLevel) = refl
has_one_empty (Operands EitherLevel) = refl
has_one_empty (Operands BothLevel) = refl
has_one_empty (Operands OrLevel) = refl
has_one_empty (Operands XorLevel) = refl
has_one_empty (Operands AndLevel) = refl
has_one_empty (Operands EqualLevel) = refl
has_one_empty (Operands OrderLevel) = refl
has_one_empty (Operands ShiftLevel) = refl
has_one_empty (Operands SumLevel) = refl
has_one_empty (Operands ProductLevel) = refl
has_one_empty (Left AfterPointer) = refl
has_one_empty (Left AfterStars) = refl
has_one_empty (Left AfterName) = refl
has_one_empty (Left AfterParameters) = refl
has_one_empty (Left AfterObject) = refl
has_one_empty (Left AfterUnary) = refl
has_one_empty f = refl

pub are_ends_closed : (f : Form) → ends_closed f ≡ true
are_ends_closed (At EitherLevel) = refl
are_ends_closed (At BothLevel) = refl
are_ends_closed (At OrLevel) = refl
are_ends_closed (At XorLevel) = refl
are_ends_closed (At AndLevel) = refl
are_ends_closed (At EqualLevel) = refl
are_ends_closed (At OrderLevel) = refl
are_ends_closed (At ShiftLevel) = refl
are_ends_closed (At SumLevel) = refl
are_ends_closed (At ProductLevel) = refl
are_ends_closed (Operands EitherLevel) = refl
are_ends_closed (Operands BothLevel) = refl
are_ends_closed (Operands OrLevel) = refl
are_ends_closed (Operands XorLevel) = refl
are_ends_closed (Operands AndLevel) = refl
are_ends_closed (Operands EqualLevel) = refl
are_ends_closed (Operands OrderLevel) = refl
are_ends_closed (Operands ShiftLevel) = refl
are_ends_closed (Operands SumLevel) = refl
are_ends_closed (Operands ProductLevel) = refl
are_ends_closed (Left AfterPointer) = refl
are_ends_closed (Left AfterStars) = refl
are_ends_closed (Left AfterName) = refl
are_ends_closed (Left AfterParameters) = refl
are_ends_closed (Left AfterObject) = refl
are_ends_closed (Left AfterUnary) = refl
are_ends_closed f = refl
