-- The grammar for who reads a word at a time: common beginnings are taken out of a form's ways. The proofs
-- show that it reads the same; no public contract cites it.
use Rattle.std.specs.Prelude.{ℕ, suc, Bool, true, false, ◌&&◌, ◌||◌, List, [], ◌∷◌, ◌++◌, get_or, if◌then◌else◌}
use Rattle.std.specs.List.{list_any}
use Rattle.c_grammar.specs.declared.words.Word.{Word}
use Rattle.c_grammar.specs.declared.words.Terminal.{Terminal}
use Rattle.c_grammar.specs.declared.words.Terminal.TheVariants.{Name, Number, Character, String, Char, Int, Long, Void, Struct, Private, If, Else, While, For, Do, Return, Break, Continue, Sizeof, Plus, Minus, Star, Slash, Percent, Ampersand, Bar, Caret, Tilde, Exclamation, Less, Greater, Equals, Question, Semicolon, Comma, Dot, Open, Close, OpenBracket, OpenBrace, ShiftLeft, ShiftRight, LessEqual, GreaterEqual, EqualEqual, NotEqual, Both, Either, Arrow}
use Rattle.c_grammar.specs.Terminals.{same_terminal}
use Rattle.c_grammar.specs.Steps.{MakeCast}
use Rattle.c_grammar.specs.Grammar.{EitherLevel, BothLevel, OrLevel, XorLevel, AndLevel, EqualLevel, OrderLevel, ShiftLevel, SumLevel, ProductLevel, AfterPointer, AfterStars, AfterName, AfterParameters, AfterObject, AfterUnary, Form, At, Operands, Left, Program, Tops, Top, Structure, Members, Member, MoreDeclarators, Specifier, PerhapsPrivate, BaseType, Pointer, MoreStars, Declarator, PerhapsLength, Declaration, MoreObjects, Object, PerhapsStart, Prototype, Function, Parameters, Parameter, MoreParameters, ParameterTypes, MoreTypes, TypeName, PerhapsPointer, Block, BlockItems, Statement, AnyStatement, PerhapsElse, PerhapsWhole, Whole, Expression, Assign, Conditional, PerhapsChoice, Cast, Unary, Postfix, Suffixes, Arguments, MoreArguments, Primary, In, Out, Symbol, T, L, N, M, B, Here, Unless, Table, rules}

-- what may come after a cast in an expression
abbrev pub operands_left : List Symbol
operands_left =
    N (Operands ProductLevel) ∷ N (Operands SumLevel) ∷ N (Operands ShiftLevel) ∷ N (Operands OrderLevel)
    ∷ N (Operands EqualLevel) ∷ N (Operands AndLevel) ∷ N (Operands XorLevel) ∷ N (Operands OrLevel)
    ∷ N (Operands BothLevel) ∷ N (Operands EitherLevel) ∷ N PerhapsChoice ∷ M Out ∷ []

-- a type in brackets and its operand
abbrev pub typed_operand : List Symbol
typed_operand = M In ∷ Here ∷ T Open ∷ N TypeName ∷ T Close ∷ N Cast ∷ B MakeCast ∷ M Out ∷ []

abbrev pub ways : Table
ways Top = (N Structure ∷ []) ∷ (N Specifier ∷ N Pointer ∷ N (Left AfterStars) ∷ []) ∷ []
ways Declarator = (N Pointer ∷ N (Left AfterPointer) ∷ []) ∷ []
ways Assign = (M In ∷ N Unary ∷ N (Left AfterUnary) ∷ []) ∷ (M In ∷ (typed_operand ++ operands_left)) ∷ []
ways f = rules f

-- what each form can begin with
abbrev pub firsts : Form → List Terminal
firsts Program = Char ∷ Int ∷ Long ∷ Void ∷ Struct ∷ Private ∷ []
firsts Tops = Char ∷ Int ∷ Long ∷ Void ∷ Struct ∷ Private ∷ []
firsts Top = Char ∷ Int ∷ Long ∷ Void ∷ Struct ∷ Private ∷ []
firsts Structure = Struct ∷ []
firsts Members = Char ∷ Int ∷ Long ∷ Void ∷ Struct ∷ Private ∷ []
firsts Member = Char ∷ Int ∷ Long ∷ Void ∷ Struct ∷ Private ∷ []
firsts MoreDeclarators = Comma ∷ []
firsts Specifier = Char ∷ Int ∷ Long ∷ Void ∷ Struct ∷ Private ∷ []
firsts PerhapsPrivate = Private ∷ []
firsts BaseType = Char ∷ Int ∷ Long ∷ Void ∷ Struct ∷ []
firsts Pointer = Star ∷ []
firsts MoreStars = Star ∷ []
firsts Declarator = Name ∷ Star ∷ Open ∷ []
firsts PerhapsLength = OpenBracket ∷ []
firsts Declaration = Char ∷ Int ∷ Long ∷ Void ∷ Struct ∷ Private ∷ []
firsts MoreObjects = Comma ∷ []
firsts Object = Name ∷ Star ∷ Open ∷ []
firsts PerhapsStart = Equals ∷ []
firsts Prototype = Char ∷ Int ∷ Long ∷ Void ∷ Struct ∷ Private ∷ []
firsts Function = Char ∷ Int ∷ Long ∷ Void ∷ Struct ∷ Private ∷ []
firsts Parameters = Char ∷ Int ∷ Long ∷ Void ∷ Struct ∷ Private ∷ []
firsts Parameter = Char ∷ Int ∷ Long ∷ Void ∷ Struct ∷ Private ∷ []
firsts MoreParameters = Comma ∷ []
firsts ParameterTypes = Char ∷ Int ∷ Long ∷ Void ∷ Struct ∷ Private ∷ []
firsts MoreTypes = Comma ∷ []
firsts TypeName = Char ∷ Int ∷ Long ∷ Void ∷ Struct ∷ Private ∷ []
firsts PerhapsPointer = Open ∷ []
firsts Block = OpenBrace ∷ []
firsts BlockItems = Name ∷ Number ∷ Character ∷ String ∷ Char ∷ Int ∷ Long ∷ Void ∷ Struct ∷ Private ∷ If ∷ While ∷ For ∷ Do ∷ Return ∷ Break ∷ Continue ∷ Sizeof ∷ Minus ∷ Star ∷ Ampersand ∷ Tilde ∷ Exclamation ∷ Semicolon ∷ Open ∷ OpenBrace ∷ []
firsts Statement = Name ∷ Number ∷ Character ∷ String ∷ If ∷ While ∷ For ∷ Do ∷ Return ∷ Break ∷ Continue ∷ Sizeof ∷ Minus ∷ Star ∷ Ampersand ∷ Tilde ∷ Exclamation ∷ Semicolon ∷ Open ∷ OpenBrace ∷ []
firsts AnyStatement = Name ∷ Number ∷ Character ∷ String ∷ If ∷ While ∷ For ∷ Do ∷ Return ∷ Break ∷ Continue ∷ Sizeof ∷ Minus ∷ Star ∷ Ampersand ∷ Tilde ∷ Exclamation ∷ Semicolon ∷ Open ∷ OpenBrace ∷ []
firsts PerhapsElse = Else ∷ []
firsts PerhapsWhole = Name ∷ Number ∷ Character ∷ String ∷ Sizeof ∷ Minus ∷ Star ∷ Ampersand ∷ Tilde ∷ Exclamation ∷ Open ∷ []
firsts Whole = Name ∷ Number ∷ Character ∷ String ∷ Sizeof ∷ Minus ∷ Star ∷ Ampersand ∷ Tilde ∷ Exclamation ∷ Open ∷ []
firsts Expression = Name ∷ Number ∷ Character ∷ String ∷ Sizeof ∷ Minus ∷ Star ∷ Ampersand ∷ Tilde ∷ Exclamation ∷ Open ∷ []
firsts Assign = Name ∷ Number ∷ Character ∷ String ∷ Sizeof ∷ Minus ∷ Star ∷ Ampersand ∷ Tilde ∷ Exclamation ∷ Open ∷ []
firsts Conditional = Name ∷ Number ∷ Character ∷ String ∷ Sizeof ∷ Minus ∷ Star ∷ Ampersand ∷ Tilde ∷ Exclamation ∷ Open ∷ []
firsts PerhapsChoice = Question ∷ []
firsts (At EitherLevel) = Name ∷ Number ∷ Character ∷ String ∷ Sizeof ∷ Minus ∷ Star ∷ Ampersand ∷ Tilde ∷ Exclamation ∷ Open ∷ []
firsts (At BothLevel) = Name ∷ Number ∷ Character ∷ String ∷ Sizeof ∷ Minus ∷ Star ∷ Ampersand ∷ Tilde ∷ Exclamation ∷ Open ∷ []
firsts (At OrLevel) = Name ∷ Number ∷ Character ∷ String ∷ Sizeof ∷ Minus ∷ Star ∷ Ampersand ∷ Tilde ∷ Exclamation ∷ Open ∷ []
firsts (At XorLevel) = Name ∷ Number ∷ Character ∷ String ∷ Sizeof ∷ Minus ∷ Star ∷ Ampersand ∷ Tilde ∷ Exclamation ∷ Open ∷ []
firsts (At AndLevel) = Name ∷ Number ∷ Character ∷ String ∷ Sizeof ∷ Minus ∷ Star ∷ Ampersand ∷ Tilde ∷ Exclamation ∷ Open ∷ []
firsts (At EqualLevel) = Name ∷ Number ∷ Character ∷ String ∷ Sizeof ∷ Minus ∷ Star ∷ Ampersand ∷ Tilde ∷ Exclamation ∷ Open ∷ []
firsts (At OrderLevel) = Name ∷ Number ∷ Character ∷ String ∷ Sizeof ∷ Minus ∷ Star ∷ Ampersand ∷ Tilde ∷ Exclamation ∷ Open ∷ []
firsts (At ShiftLevel) = Name ∷ Number ∷ Character ∷ String ∷ Sizeof ∷ Minus ∷ Star ∷ Ampersand ∷ Tilde ∷ Exclamation ∷ Open ∷ []
firsts (At SumLevel) = Name ∷ Number ∷ Character ∷ String ∷ Sizeof ∷ Minus ∷ Star ∷ Ampersand ∷ Tilde ∷ Exclamation ∷ Open ∷ []
firsts (At ProductLevel) = Name ∷ Number ∷ Character ∷ String ∷ Sizeof ∷ Minus ∷ Star ∷ Ampersand ∷ Tilde ∷ Exclamation ∷ Open ∷ []
firsts (Operands EitherLevel) = Either ∷ []
firsts (Operands BothLevel) = Both ∷ []
firsts (Operands OrLevel) = Bar ∷ []
firsts (Operands XorLevel) = Caret ∷ []
firsts (Operands AndLevel) = Ampersand ∷ []
firsts (Operands EqualLevel) = EqualEqual ∷ NotEqual ∷ []
firsts (Operands OrderLevel) = Less ∷ Greater ∷ LessEqual ∷ GreaterEqual ∷ []
firsts (Operands ShiftLevel) = ShiftLeft ∷ ShiftRight ∷ []
firsts (Operands SumLevel) = Plus ∷ Minus ∷ []
firsts (Operands ProductLevel) = Star ∷ Slash ∷ Percent ∷ []
firsts Cast = Name ∷ Number ∷ Character ∷ String ∷ Sizeof ∷ Minus ∷ Star ∷ Ampersand ∷ Tilde ∷ Exclamation ∷ Open ∷ []
firsts Unary = Name ∷ Number ∷ Character ∷ String ∷ Sizeof ∷ Minus ∷ Star ∷ Ampersand ∷ Tilde ∷ Exclamation ∷ Open ∷ []
firsts Postfix = Name ∷ Number ∷ Character ∷ String ∷ Open ∷ []
firsts Suffixes = Dot ∷ Open ∷ OpenBracket ∷ Arrow ∷ []
firsts Arguments = Name ∷ Number ∷ Character ∷ String ∷ Sizeof ∷ Minus ∷ Star ∷ Ampersand ∷ Tilde ∷ Exclamation ∷ Open ∷ []
firsts MoreArguments = Comma ∷ []
firsts Primary = Name ∷ Number ∷ Character ∷ String ∷ Open ∷ []
firsts (Left AfterPointer) = Name ∷ Open ∷ []
firsts (Left AfterStars) = Name ∷ Open ∷ []
firsts (Left AfterName) = Equals ∷ Semicolon ∷ Comma ∷ Open ∷ OpenBracket ∷ []
firsts (Left AfterParameters) = Semicolon ∷ OpenBrace ∷ []
firsts (Left AfterObject) = Equals ∷ Semicolon ∷ Comma ∷ []
firsts (Left AfterUnary) = Plus ∷ Minus ∷ Star ∷ Slash ∷ Percent ∷ Ampersand ∷ Bar ∷ Caret ∷ Less ∷ Greater ∷ Equals ∷ Question ∷ ShiftLeft ∷ ShiftRight ∷ LessEqual ∷ GreaterEqual ∷ EqualEqual ∷ NotEqual ∷ Both ∷ Either ∷ []

-- which forms may be empty
abbrev pub may_be_empty : Form → Bool
may_be_empty Program = true
may_be_empty Tops = true
may_be_empty Members = true
may_be_empty MoreDeclarators = true
may_be_empty PerhapsPrivate = true
may_be_empty Pointer = true
may_be_empty MoreStars = true
may_be_empty PerhapsLength = true
may_be_empty MoreObjects = true
may_be_empty PerhapsStart = true
may_be_empty Parameters = true
may_be_empty MoreParameters = true
may_be_empty ParameterTypes = true
may_be_empty MoreTypes = true
may_be_empty PerhapsPointer = true
may_be_empty BlockItems = true
may_be_empty PerhapsElse = true
may_be_empty PerhapsWhole = true
may_be_empty PerhapsChoice = true
may_be_empty (Operands EitherLevel) = true
may_be_empty (Operands BothLevel) = true
may_be_empty (Operands OrLevel) = true
may_be_empty (Operands XorLevel) = true
may_be_empty (Operands AndLevel) = true
may_be_empty (Operands EqualLevel) = true
may_be_empty (Operands OrderLevel) = true
may_be_empty (Operands ShiftLevel) = true
may_be_empty (Operands SumLevel) = true
may_be_empty (Operands ProductLevel) = true
may_be_empty Suffixes = true
may_be_empty Arguments = true
may_be_empty MoreArguments = true
may_be_empty (Left AfterUnary) = true
may_be_empty f = false

abbrev pub can_be : List Terminal → Terminal → Bool
can_be ts t = list_any (same_terminal t) ts

-- the symbols can begin with this terminal
abbrev pub begins : List Symbol → Terminal → Bool
begins [] t = false
begins (T u ∷ k) t = same_terminal t u
begins (L u ∷ k) t = same_terminal t u
begins (N f ∷ k) t = can_be (firsts f) t || (may_be_empty f && begins k t)
begins (M m ∷ k) t = begins k t
begins (B b ∷ k) t = begins k t
begins (Here ∷ k) t = begins k t
begins (Unless ts ∷ k) t = begins k t

-- the symbols may have no words
abbrev pub passes : List Symbol → Bool
passes [] = true
passes (T u ∷ k) = false
passes (L u ∷ k) = false
passes (N f ∷ k) = may_be_empty f && passes k
passes (M m ∷ k) = passes k
passes (B b ∷ k) = passes k
passes (Here ∷ k) = passes k
passes (Unless ts ∷ k) = passes k

-- a way by its number
abbrev pub way_at : Table → Form → ℕ → List Symbol
way_at table f i = get_or (table f) i []

-- the number of the first way that may be empty, and 0 where none may
abbrev pub empty_from : ℕ → List (List Symbol) → ℕ
empty_from i [] = 0
empty_from i (p ∷ ps) = if passes p then i else empty_from (suc i) ps

abbrev pub empty_way : Form → ℕ
empty_way f = empty_from 0 (ways f)

-- the number of the first way that can begin with this terminal, and else of the empty one
abbrev pub begun_from : ℕ → ℕ → List (List Symbol) → Terminal → ℕ
begun_from none i [] t = none
begun_from none i (p ∷ ps) t = if begins p t then i else begun_from none (suc i) ps t

abbrev pub begun_way : Form → Terminal → ℕ
begun_way f t = begun_from (empty_way f) 0 (ways f) t

-- the words begin with `struct NAME {`
abbrev pub begins_structure : List Word → Bool
begins_structure (u ∷ v ∷ w ∷ ws) = same_terminal u.terminal Struct && same_terminal w.terminal OpenBrace
begins_structure ws = false

-- the words begin with a bracket and a type
abbrev pub opens_type : List Word → Bool
opens_type (v ∷ w ∷ ws) = same_terminal v.terminal Open && can_be (firsts TypeName) w.terminal
opens_type ws = false

-- the words begin with `void )`
abbrev pub is_bare_void : List Word → Bool
is_bare_void (v ∷ w ∷ ws) = same_terminal v.terminal Void && same_terminal w.terminal Close
is_bare_void ws = false

abbrev pub can_begin : Form → List Word → Bool
can_begin f [] = false
can_begin f (w ∷ ws) = can_be (firsts f) w.terminal

-- The number of the way that a form has at these words. One word decides, but at the few forms shown first.
abbrev pub way_number : Form → List Word → ℕ
way_number Top ws = if begins_structure ws then 0 else 1
way_number Assign ws = if opens_type ws then 1 else 0
way_number Cast ws = if opens_type ws then 0 else 1
way_number Parameters ws = if is_bare_void ws then 1 else (if can_begin Parameter ws then 2 else 0)
way_number ParameterTypes ws = if is_bare_void ws then 1 else (if can_begin TypeName ws then 2 else 0)
way_number f [] = empty_way f
way_number f (w ∷ ws) = begun_way f w.terminal
