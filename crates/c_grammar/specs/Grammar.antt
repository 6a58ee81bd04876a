-- The grammar of C sources, a rule for each form. In a rule, parts in square brackets or braces of the
-- usual notation are forms of their own: `[x]` is a form with the ways `x` and nothing, and `{x}` one
-- with the ways `x` followed by itself, and nothing.
use Rattle.std.specs.Prelude.{true, false, List, [], ◌∷◌, ◌++◌, None, map}
use Rattle.c_ast.specs.declared.program.PrefixOp.{PrefixOp}
use Rattle.c_ast.specs.declared.program.PrefixOp.TheVariants.{Negate, Complement, IsZero, Follow, Address}
use Rattle.c_ast.specs.declared.program.InfixOp.{InfixOp}
use Rattle.c_ast.specs.declared.program.InfixOp.TheVariants as infix_op
use Rattle.c_ast.specs.declared.program.Base.TheVariants as base
use Rattle.c_ast.specs.declared.program.TypeShape as type_shape
use Rattle.c_ast.specs.declared.program.Shape.TheVariants as shape
use Rattle.c_ast.specs.declared.program.StatementKind as statement
use Rattle.c_grammar.specs.declared.words.Terminal.{Terminal}
use Rattle.c_grammar.specs.declared.words.Terminal.TheVariants.{Name, Number, Character, String, Char, Int, Long, Void, Struct, Private, If, Else, While, For, Do, Return, Break, Continue, Sizeof, Plus, Minus, Star, Slash, Percent, Ampersand, Bar, Caret, Tilde, Exclamation, Less, Greater, Equals, Question, Colon, Semicolon, Comma, Dot, Open, Close, OpenBracket, CloseBracket, OpenBrace, CloseBrace, ShiftLeft, ShiftRight, LessEqual, GreaterEqual, EqualEqual, NotEqual, Both, Either, Arrow}
use Rattle.c_grammar.specs.Steps.{Value, Step, Give, First, Push, MakeStruct, MakeSpecifier, MakeArray, MakeDeclarator, MakePointer, MakePointerType, MakeType, MakeMember, MakeInitialised, MakeDeclaration, MakeParameter, MakeName, MakeNumber, MakeCharacter, MakeString, MakeBracket, MakePrefix, MakeSizeof, MakeCast, MakeInfix, MakeChoice, MakeAssign, MakeIndex, MakeCall, MakeDot, MakeArrow, MakeSome, MakeBlock, MakeNested, MakeEval, MakeIf, MakeIfElse, MakeWhile, MakeDoWhile, MakeFor, MakeReturn, MakeStatement, MakeStructure, MakeObject, MakePrototype, MakeFunction}
use Rattle.c_grammar.specs.Steps as part

-- the levels of operators that go from left to right, the loosest first
pub data Level : Type 0 where
  EitherLevel : Level
  BothLevel : Level
  OrLevel : Level
  XorLevel : Level
  AndLevel : Level
  EqualLevel : Level
  OrderLevel : Level
  ShiftLevel : Level
  SumLevel : Level
  ProductLevel : Level

-- what is left of ways with a common beginning
pub data Rest : Type 0 where
  AfterPointer : Rest
  AfterStars : Rest
  AfterName : Rest
  AfterParameters : Rest
  AfterObject : Rest
  AfterUnary : Rest

-- the forms
pub data Form : Type 0 where
  Program : Form
  Tops : Form
  Top : Form
  Structure : Form
  Members : Form
  Member : Form
  MoreDeclarators : Form
  Specifier : Form
  PerhapsPrivate : Form
  BaseType : Form
  Pointer : Form
  MoreStars : Form
  Declarator : Form
  PerhapsLength : Form
  Declaration : Form
  MoreObjects : Form
  Object : Form
  PerhapsStart : Form
  Prototype : Form
  Function : Form
  Parameters : Form
  Parameter : Form
  MoreParameters : Form
  ParameterTypes : Form
  MoreTypes : Form
  TypeName : Form
  PerhapsPointer : Form
  Block : Form
  BlockItems : Form
  Statement : Form
  AnyStatement : Form
  PerhapsElse : Form
  PerhapsWhole : Form
  -- an expression that no other contains
  Whole : Form
  Expression : Form
  Assign : Form
  Conditional : Form
  PerhapsChoice : Form
  -- a level, and what may come after its first operand
  At : Level → Form
  Operands : Level → Form
  Cast : Form
  Unary : Form
  Postfix : Form
  Suffixes : Form
  Arguments : Form
  MoreArguments : Form
  Primary : Form
  -- for who reads a token at a time; no rule of another form leads to these
  Left : Rest → Form

-- what counts in the nesting
pub data Mark : Type 0 where
  -- from here on a part that nests its tokens one deeper, up to its `Out`
  In : Mark
  Out : Mark
  -- an operator of a level, or a suffix, ends here; at the end of the outermost expression all are forgotten
  CountOperator : Mark
  ForgetOperators : Mark
  -- a star ends here; at the end of the pointer all are forgotten
  CountStar : Mark
  ForgetStars : Mark

-- a rule is a list of symbols
pub data Symbol : Type 0 where
  -- a token
  T : Terminal → Symbol
  -- a token whose place and value are a part
  L : Terminal → Symbol
  -- a form
  N : Form → Symbol
  -- what counts in the nesting from here on
  M : Mark → Symbol
  -- a step that builds
  B : Step → Symbol
  -- the place of the next token is a part
  Here : Symbol
  -- the next tokens are not these
  Unless : List Terminal → Symbol

-- an operator and its sign
pub record Operator : Type 0 where
  pub sign : Terminal
  pub op : InfixOp

abbrev pub operator : Terminal → InfixOp → Operator
operator sign op = record { sign = sign; op = op }

-- the operators of each level
abbrev pub operators : Level → List Operator
operators EitherLevel = operator Either infix_op.Either ∷ []
operators BothLevel = operator Both infix_op.Both ∷ []
operators OrLevel = operator Bar infix_op.BitOr ∷ []
operators XorLevel = operator Caret infix_op.BitXor ∷ []
operators AndLevel = operator Ampersand infix_op.BitAnd ∷ []
operators EqualLevel = operator EqualEqual infix_op.Equal ∷ operator NotEqual infix_op.NotEqual ∷ []
operators OrderLevel =
    operator Less infix_op.Less ∷ operator LessEqual infix_op.LessEqual ∷ operator Greater infix_op.Greater
    ∷ operator GreaterEqual infix_op.GreaterEqual ∷ []
operators ShiftLevel = operator ShiftLeft infix_op.ShiftLeft ∷ operator ShiftRight infix_op.ShiftRight ∷ []
operators SumLevel = operator Plus infix_op.Add ∷ operator Minus infix_op.Subtract ∷ []
operators ProductLevel =
    operator Star infix_op.Multiply ∷ operator Slash infix_op.Divide ∷ operator Percent infix_op.Remainder ∷ []

-- what an operand of each level is: the next level, and a cast at the last
abbrev pub operand : Level → Form
operand EitherLevel = At BothLevel
operand BothLevel = At OrLevel
operand OrLevel = At XorLevel
operand XorLevel = At AndLevel
operand AndLevel = At EqualLevel
operand EqualLevel = At OrderLevel
operand OrderLevel = At ShiftLevel
operand ShiftLevel = At SumLevel
operand SumLevel = At ProductLevel
operand ProductLevel = Cast

abbrev pub then_operand : Level → Operator → List Symbol
then_operand level o =
    T o.sign ∷ M CountOperator ∷ N (operand level) ∷ B (MakeInfix o.op) ∷ N (Operands level) ∷ []

-- a sign before its operand
abbrev pub prefix : Terminal → PrefixOp → List Symbol
prefix sign op = M In ∷ Here ∷ T sign ∷ N Cast ∷ B (MakePrefix op) ∷ M Out ∷ []

-- a table: the ways of each form
abbrev pub Table : Type 0
Table = Form → List (List Symbol)

-- the grammar
abbrev pub rules : Form → List (List Symbol)
-- program = { structdef | decl | proto | function }
rules Program = (B (Give (part.Items [])) ∷ N Tops ∷ []) ∷ []
rules Tops = (N Top ∷ B Push ∷ N Tops ∷ []) ∷ [] ∷ []
rules Top = (N Structure ∷ []) ∷ (N Declaration ∷ B MakeObject ∷ []) ∷ (N Prototype ∷ []) ∷ (N Function ∷ []) ∷ []
-- structdef = "struct" ID "{" mdecl { mdecl } "}" ";"
rules Structure =
    (T Struct ∷ L Name ∷ T OpenBrace ∷ N Member ∷ B First ∷ N Members ∷ T CloseBrace
    ∷ T Semicolon ∷ B MakeStructure ∷ []) ∷ []
rules Members = (N Member ∷ B Push ∷ N Members ∷ []) ∷ [] ∷ []
-- mdecl = spec dtor { "," dtor } ";"
rules Member =
    (N Specifier ∷ N Declarator ∷ B First ∷ N MoreDeclarators ∷ T Semicolon
    ∷ B MakeMember ∷ []) ∷ []
rules MoreDeclarators = (T Comma ∷ N Declarator ∷ B Push ∷ N MoreDeclarators ∷ []) ∷ [] ∷ []
-- spec = ["private"] base ["private"]
rules Specifier = (Here ∷ N PerhapsPrivate ∷ N BaseType ∷ N PerhapsPrivate ∷ B MakeSpecifier ∷ []) ∷ []
rules PerhapsPrivate =
    (T Private ∷ B (Give (part.Private true)) ∷ []) ∷ (B (Give (part.Private false)) ∷ []) ∷ []
-- base = "char" | "int" | "long" | "void" | "struct" ID
rules BaseType =
    (T Char ∷ B (Give (part.OfBase base.Char)) ∷ [])
    ∷ (T Int ∷ B (Give (part.OfBase base.Int)) ∷ [])
    ∷ (T Long ∷ B (Give (part.OfBase base.Long)) ∷ [])
    ∷ (T Void ∷ B (Give (part.OfBase base.Void)) ∷ [])
    ∷ (T Struct ∷ L Name ∷ B MakeStruct ∷ []) ∷ []
-- ptr = { "*" ["private"] }
rules Pointer = (B (Give (part.Stars [])) ∷ N MoreStars ∷ M ForgetStars ∷ []) ∷ []
rules MoreStars = (T Star ∷ M CountStar ∷ N PerhapsPrivate ∷ B Push ∷ N MoreStars ∷ []) ∷ [] ∷ []
-- dtor = ptr ID [ "[" NUM "]" ] | ptr "(" "*" ["private"] ID ")" "(" ptypes ")"
rules Declarator =
    (N Pointer ∷ L Name ∷ N PerhapsLength ∷ B MakeDeclarator ∷ [])
    ∷ (N Pointer ∷ T Open ∷ T Star ∷ N PerhapsPrivate ∷ L Name ∷ T Close ∷ T Open ∷ N ParameterTypes ∷ T Close
    ∷ B MakePointer ∷ []) ∷ []
rules PerhapsLength =
    (T OpenBracket ∷ L Number ∷ T CloseBracket ∷ B MakeArray ∷ []) ∷ (B (Give (part.OfShape shape.Plain)) ∷ []) ∷ []
-- decl = spec dtor ["=" assign] { "," dtor ["=" assign] } ";"
rules Declaration =
    (N Specifier ∷ N Object ∷ B First ∷ N MoreObjects ∷ T Semicolon
    ∷ B MakeDeclaration ∷ []) ∷ []
rules MoreObjects = (T Comma ∷ N Object ∷ B Push ∷ N MoreObjects ∷ []) ∷ [] ∷ []
rules Object = (N Declarator ∷ N PerhapsStart ∷ B MakeInitialised ∷ []) ∷ []
rules PerhapsStart = (T Equals ∷ N Whole ∷ B MakeSome ∷ []) ∷ (B (Give (part.Perhaps None)) ∷ []) ∷ []
-- proto = spec ptr ID "(" params ")" ";"
rules Prototype =
    (N Specifier ∷ N Pointer ∷ L Name ∷ T Open ∷ N Parameters ∷ T Close ∷ T Semicolon ∷ B MakePrototype ∷ []) ∷ []
-- function = spec ptr ID "(" params ")" block
rules Function =
    (N Specifier ∷ N Pointer ∷ L Name ∷ T Open ∷ N Parameters ∷ T Close ∷ M In ∷ N Block ∷ M Out
    ∷ B MakeFunction ∷ []) ∷ []
-- params = [ "void" | spec dtor { "," spec dtor } ]
rules Parameters =
    (B (Give (part.Parameters [])) ∷ [])
    ∷ (T Void ∷ B (Give (part.Parameters [])) ∷ [])
    ∷ (N Parameter ∷ B First ∷ N MoreParameters ∷ []) ∷ []
rules Parameter = (N Specifier ∷ N Declarator ∷ B MakeParameter ∷ []) ∷ []
rules MoreParameters = (T Comma ∷ N Parameter ∷ B Push ∷ N MoreParameters ∷ []) ∷ [] ∷ []
-- ptypes = [ "void" | type { "," type } ], and `(void)` is the form without types
rules ParameterTypes =
    (B (Give (part.Types [])) ∷ [])
    ∷ (M In ∷ T Void ∷ B (Give (part.Types [])) ∷ M Out ∷ [])
    ∷ (Unless (Void ∷ Close ∷ []) ∷ M In ∷ N TypeName ∷ B First ∷ N MoreTypes ∷ M Out ∷ []) ∷ []
rules MoreTypes = (T Comma ∷ N TypeName ∷ B Push ∷ N MoreTypes ∷ []) ∷ [] ∷ []
-- type = spec ptr [ "(" "*" ["private"] ")" "(" ptypes ")" ]
rules TypeName = (N Specifier ∷ N Pointer ∷ N PerhapsPointer ∷ B MakeType ∷ []) ∷ []
rules PerhapsPointer =
    (T Open ∷ T Star ∷ N PerhapsPrivate ∷ T Close ∷ T Open ∷ N ParameterTypes ∷ T Close ∷ B MakePointerType ∷ [])
    ∷ (B (Give (part.OfTypeShape type_shape.Plain)) ∷ []) ∷ []
-- block = "{" { decl | stmt } "}"
rules Block =
    (Here ∷ T OpenBrace ∷ B (Give (part.BlockItems [])) ∷ N BlockItems ∷ T CloseBrace ∷ B MakeBlock ∷ []) ∷ []
rules BlockItems = (N Declaration ∷ B Push ∷ N BlockItems ∷ []) ∷ (N Statement ∷ B Push ∷ N BlockItems ∷ []) ∷ [] ∷ []
-- stmt = block | [expr] ";" | "if" "(" expr ")" stmt ["else" stmt]
--      | "while" "(" expr ")" stmt | "do" stmt "while" "(" expr ")" ";"
--      | "for" "(" [expr] ";" [expr] ";" [expr] ")" stmt
--      | "return" [expr] ";" | "break" ";" | "continue" ";"
rules Statement = (M In ∷ Here ∷ N AnyStatement ∷ B MakeStatement ∷ M Out ∷ []) ∷ []
rules AnyStatement =
    (N Block ∷ B MakeNested ∷ [])
    ∷ (N PerhapsWhole ∷ T Semicolon ∷ B MakeEval ∷ [])
    ∷ (T If ∷ T Open ∷ N Whole ∷ T Close ∷ N Statement ∷ N PerhapsElse ∷ [])
    ∷ (T While ∷ T Open ∷ N Whole ∷ T Close ∷ N Statement ∷ B MakeWhile ∷ [])
    ∷ (T Do ∷ N Statement ∷ T While ∷ T Open ∷ N Whole ∷ T Close ∷ T Semicolon ∷ B MakeDoWhile ∷ [])
    ∷ (T For ∷ T Open ∷ N PerhapsWhole ∷ T Semicolon ∷ N PerhapsWhole ∷ T Semicolon ∷ N PerhapsWhole ∷ T Close
    ∷ N Statement ∷ B MakeFor ∷ [])
    ∷ (T Return ∷ N PerhapsWhole ∷ T Semicolon ∷ B MakeReturn ∷ [])
    ∷ (T Break ∷ T Semicolon ∷ B (Give (part.OfKind statement.Break)) ∷ [])
    ∷ (T Continue ∷ T Semicolon ∷ B (Give (part.OfKind statement.Continue)) ∷ []) ∷ []
-- an `else` goes with the nearest `if`
rules PerhapsElse = (T Else ∷ N Statement ∷ B MakeIfElse ∷ []) ∷ (Unless (Else ∷ []) ∷ B MakeIf ∷ []) ∷ []
rules PerhapsWhole = (N Whole ∷ B MakeSome ∷ []) ∷ (B (Give (part.Perhaps None)) ∷ []) ∷ []
rules Whole = (N Expression ∷ M ForgetOperators ∷ []) ∷ []
-- expr = assign
rules Expression = (N Assign ∷ []) ∷ []
-- assign = unary "=" assign | cond
rules Assign =
    (M In ∷ N Unary ∷ T Equals ∷ N Assign ∷ B MakeAssign ∷ M Out ∷ []) ∷ (M In ∷ N Conditional ∷ M Out ∷ []) ∷ []
-- cond = lor [ "?" expr ":" cond ]
rules Conditional = (N (At EitherLevel) ∷ N PerhapsChoice ∷ []) ∷ []
rules PerhapsChoice =
    (T Question ∷ N Expression ∷ T Colon ∷ M In ∷ N Conditional ∷ M Out ∷ B MakeChoice ∷ []) ∷ [] ∷ []
-- each level goes from left to right
rules (At level) = (N (operand level) ∷ N (Operands level) ∷ []) ∷ []
rules (Operands level) = map (then_operand level) (operators level) ++ [] ∷ []
-- cast = "(" type ")" cast | unary
rules Cast =
    (M In ∷ Here ∷ T Open ∷ N TypeName ∷ T Close ∷ N Cast ∷ B MakeCast ∷ M Out ∷ []) ∷ (N Unary ∷ []) ∷ []
-- unary = ("-" | "~" | "!" | "*" | "&") cast | "sizeof" "(" type ")" | postfix
rules Unary =
    prefix Minus Negate ∷ prefix Tilde Complement ∷ prefix Exclamation IsZero ∷ prefix Star Follow
    ∷ prefix Ampersand Address
    ∷ (Here ∷ T Sizeof ∷ T Open ∷ N TypeName ∷ T Close ∷ B MakeSizeof ∷ []) ∷ (N Postfix ∷ []) ∷ []
-- postfix = primary { "[" expr "]" | "(" [assign {"," assign}] ")" | "." ID | "->" ID }
rules Postfix = (N Primary ∷ N Suffixes ∷ []) ∷ []
rules Suffixes =
    (T OpenBracket ∷ N Expression ∷ T CloseBracket ∷ M CountOperator ∷ B MakeIndex ∷ N Suffixes ∷ [])
    ∷ (T Open ∷ N Arguments ∷ T Close ∷ M CountOperator ∷ B MakeCall ∷ N Suffixes ∷ [])
    ∷ (T Dot ∷ L Name ∷ M CountOperator ∷ B MakeDot ∷ N Suffixes ∷ [])
    ∷ (T Arrow ∷ L Name ∷ M CountOperator ∷ B MakeArrow ∷ N Suffixes ∷ []) ∷ [] ∷ []
rules Arguments =
    (N Assign ∷ B First ∷ N MoreArguments ∷ []) ∷ (B (Give (part.Arguments [])) ∷ []) ∷ []
rules MoreArguments = (T Comma ∷ N Assign ∷ B Push ∷ N MoreArguments ∷ []) ∷ [] ∷ []
-- primary = ID | NUM | CHAR | STRING | "(" expr ")"
rules Primary =
    (L Name ∷ B MakeName ∷ []) ∷ (L Number ∷ B MakeNumber ∷ []) ∷ (L Character ∷ B MakeCharacter ∷ [])
    ∷ (L String ∷ B MakeString ∷ []) ∷ (Here ∷ T Open ∷ N Expression ∷ T Close ∷ B MakeBracket ∷ []) ∷ []
-- what is left of ways with a common beginning, for who reads a word at a time
rules (Left AfterPointer) =
    (L Name ∷ N PerhapsLength ∷ B MakeDeclarator ∷ [])
    ∷ (T Open ∷ T Star ∷ N PerhapsPrivate ∷ L Name ∷ T Close ∷ T Open ∷ N ParameterTypes ∷ T Close
    ∷ B MakePointer ∷ []) ∷ []
rules (Left AfterStars) =
    (L Name ∷ N (Left AfterName) ∷ [])
    ∷ (T Open ∷ T Star ∷ N PerhapsPrivate ∷ L Name ∷ T Close ∷ T Open ∷ N ParameterTypes ∷ T Close
    ∷ B MakePointer ∷ N (Left AfterObject) ∷ []) ∷ []
rules (Left AfterName) =
    (T Open ∷ N Parameters ∷ T Close ∷ N (Left AfterParameters) ∷ [])
    ∷ (N PerhapsLength ∷ B MakeDeclarator ∷ N (Left AfterObject) ∷ []) ∷ []
rules (Left AfterParameters) =
    (T Semicolon ∷ B MakePrototype ∷ []) ∷ (M In ∷ N Block ∷ M Out ∷ B MakeFunction ∷ []) ∷ []
rules (Left AfterObject) =
    (N PerhapsStart ∷ B MakeInitialised ∷ B First ∷ N MoreObjects ∷ T Semicolon ∷ B MakeDeclaration ∷ B MakeObject ∷ [])
    ∷ []
rules (Left AfterUnary) =
    (T Equals ∷ N Assign ∷ B MakeAssign ∷ M Out ∷ [])
    ∷ (N (Operands ProductLevel) ∷ N (Operands SumLevel) ∷ N (Operands ShiftLevel) ∷ N (Operands OrderLevel)
    ∷ N (Operands EqualLevel) ∷ N (Operands AndLevel) ∷ N (Operands XorLevel) ∷ N (Operands OrLevel)
    ∷ N (Operands BothLevel) ∷ N (Operands EitherLevel) ∷ N PerhapsChoice ∷ M Out ∷ []) ∷ []
