-- What the rules of the grammar build: each step takes what the parts before it built from a stack.
use Rattle.std.specs.Prelude.{ℕ, Bool, ◌||◌, List, [], ◌∷◌, ◌++◌, Option, Some, None}
use Rattle.c_ast.specs.declared.program.PrefixOp.{PrefixOp}
use Rattle.c_ast.specs.declared.program.InfixOp.{InfixOp}
use Rattle.c_ast.specs.declared.program.Base.{Base}
use Rattle.c_ast.specs.declared.program.Base.TheVariants as base
use Rattle.c_ast.specs.declared.program.Specifier.{Specifier}
use Rattle.c_ast.specs.declared.program.Star.{Star}
use Rattle.c_ast.specs.declared.program.TypeName.{TypeName}
use Rattle.c_ast.specs.declared.program.TypeShape.{TypeShape}
use Rattle.c_ast.specs.declared.program.TypeShape as type_shape
use Rattle.c_ast.specs.declared.program.Shape.{Shape}
use Rattle.c_ast.specs.declared.program.Shape.TheVariants as shape
use Rattle.c_ast.specs.declared.program.Declarator.{Declarator}
use Rattle.c_ast.specs.declared.program.Initialised.{Initialised}
use Rattle.c_ast.specs.declared.program.Declaration.{Declaration}
use Rattle.c_ast.specs.declared.program.MemberDeclaration.{MemberDeclaration}
use Rattle.c_ast.specs.declared.program.Parameter.{Parameter}
use Rattle.c_ast.specs.declared.program.Header.{Header}
use Rattle.c_ast.specs.declared.program.Expression.{Expression}
use Rattle.c_ast.specs.declared.program.ExpressionKind.{ExpressionKind}
use Rattle.c_ast.specs.declared.program.ExpressionKind as expression
use Rattle.c_ast.specs.declared.program.Statement.{Statement}
use Rattle.c_ast.specs.declared.program.StatementKind.{StatementKind}
use Rattle.c_ast.specs.declared.program.StatementKind as statement
use Rattle.c_ast.specs.declared.program.Block.{Block}
use Rattle.c_ast.specs.declared.program.BlockItem.{BlockItem}
use Rattle.c_ast.specs.declared.program.BlockItem as block_item
use Rattle.c_ast.specs.declared.program.Item.{Item}
use Rattle.c_ast.specs.declared.program.Item.TheVariants as item

-- what a part built
pub data Value : Type 0 where
  Place : ℕ → Value
  Leaf : ℕ → ℕ → Value
  Private : Bool → Value
  OfBase : Base → Value
  OfSpecifier : Specifier → Value
  Stars : List Star → Value
  OfTypeShape : TypeShape → Value
  OfType : TypeName → Value
  Types : List TypeName → Value
  OfShape : Shape → Value
  OfDeclarator : Declarator → Value
  Declarators : List Declarator → Value
  OfMember : MemberDeclaration → Value
  Members : List MemberDeclaration → Value
  OfInitialised : Initialised → Value
  AllInitialised : List Initialised → Value
  OfDeclaration : Declaration → Value
  OfParameter : Parameter → Value
  Parameters : List Parameter → Value
  OfExpression : Expression → Value
  Arguments : List Expression → Value
  Perhaps : Option Expression → Value
  OfKind : StatementKind → Value
  OfStatement : Statement → Value
  BlockItems : List BlockItem → Value
  OfBlock : Block → Value
  OfItem : Item → Value
  Items : List Item → Value

-- what a rule does with what its parts built
pub data Step : Type 0 where
  -- adds this
  Give : Value → Step
  -- begins a list with the last part
  First : Step
  -- puts the last part at the end of the list before it
  Push : Step
  MakeStruct : Step
  MakeSpecifier : Step
  MakeArray : Step
  MakeDeclarator : Step
  MakePointer : Step
  MakePointerType : Step
  MakeType : Step
  MakeMember : Step
  MakeInitialised : Step
  MakeDeclaration : Step
  MakeParameter : Step
  MakeName : Step
  MakeNumber : Step
  MakeCharacter : Step
  MakeString : Step
  MakeBracket : Step
  MakePrefix : PrefixOp → Step
  MakeSizeof : Step
  MakeCast : Step
  MakeInfix : InfixOp → Step
  MakeChoice : Step
  MakeAssign : Step
  MakeIndex : Step
  MakeCall : Step
  MakeDot : Step
  MakeArrow : Step
  MakeSome : Step
  MakeBlock : Step
  MakeNested : Step
  MakeEval : Step
  MakeIf : Step
  MakeIfElse : Step
  MakeWhile : Step
  MakeDoWhile : Step
  MakeFor : Step
  MakeReturn : Step
  MakeStatement : Step
  MakeStructure : Step
  MakeObject : Step
  MakePrototype : Step
  MakeFunction : Step

abbrev pub expression_at : ℕ → ExpressionKind → Value
expression_at place kind = OfExpression (record { place = place; kind = kind })

abbrev pub declarator : ℕ → ℕ → List Star → Shape → Value
declarator name place stars shape = OfDeclarator (record { name = name; place = place; stars = stars; shape = shape })

abbrev pub header : Specifier → List Star → ℕ → ℕ → List Parameter → Header
header specifier stars name place parameters =
    record { specifier = specifier; stars = stars; name = name; place = place; parameters = parameters }

-- the last part stands first
abbrev pub build : Step → List Value → List Value
build (Give v) vs = v ∷ vs
-- lists
build First (OfType t ∷ vs) = Types (t ∷ []) ∷ vs
build First (OfDeclarator d ∷ vs) = Declarators (d ∷ []) ∷ vs
build First (OfMember m ∷ vs) = Members (m ∷ []) ∷ vs
build First (OfInitialised i ∷ vs) = AllInitialised (i ∷ []) ∷ vs
build First (OfParameter p ∷ vs) = Parameters (p ∷ []) ∷ vs
build First (OfExpression e ∷ vs) = Arguments (e ∷ []) ∷ vs
build Push (Private p ∷ Stars ss ∷ vs) = Stars (ss ++ record { is_private = p } ∷ []) ∷ vs
build Push (OfType t ∷ Types ts ∷ vs) = Types (ts ++ t ∷ []) ∷ vs
build Push (OfDeclarator d ∷ Declarators ds ∷ vs) = Declarators (ds ++ d ∷ []) ∷ vs
build Push (OfMember m ∷ Members ms ∷ vs) = Members (ms ++ m ∷ []) ∷ vs
build Push (OfInitialised i ∷ AllInitialised is ∷ vs) = AllInitialised (is ++ i ∷ []) ∷ vs
build Push (OfParameter p ∷ Parameters ps ∷ vs) = Parameters (ps ++ p ∷ []) ∷ vs
build Push (OfExpression e ∷ Arguments es ∷ vs) = Arguments (es ++ e ∷ []) ∷ vs
build Push (OfDeclaration d ∷ BlockItems is ∷ vs) = BlockItems (is ++ block_item.Declare d ∷ []) ∷ vs
build Push (OfStatement s ∷ BlockItems is ∷ vs) = BlockItems (is ++ block_item.Run s ∷ []) ∷ vs
build Push (OfItem i ∷ Items is ∷ vs) = Items (is ++ i ∷ []) ∷ vs
-- types and what is declared
build MakeStruct (Leaf place name ∷ vs) = OfBase (base.Struct name place) ∷ vs
build MakeSpecifier (Private after ∷ OfBase b ∷ Private front ∷ Place p ∷ vs) =
    OfSpecifier (record { place = p; is_private = front || after; base = b }) ∷ vs
build MakeArray (Leaf place length ∷ vs) = OfShape (shape.Array length) ∷ vs
build MakeDeclarator (OfShape s ∷ Leaf place name ∷ Stars ss ∷ vs) = declarator name place ss s ∷ vs
build MakePointer (Types ts ∷ Leaf place name ∷ Private p ∷ Stars ss ∷ vs) =
    declarator name place ss (shape.FunctionPointer p ts) ∷ vs
build MakePointerType (Types ts ∷ Private p ∷ vs) = OfTypeShape (type_shape.FunctionPointer p ts) ∷ vs
build MakeType (OfTypeShape t ∷ Stars ss ∷ OfSpecifier s ∷ vs) =
    OfType (record { specifier = s; stars = ss; shape = t }) ∷ vs
build MakeMember (Declarators ds ∷ OfSpecifier s ∷ vs) = OfMember (record { specifier = s; declarators = ds }) ∷ vs
build MakeInitialised (Perhaps e ∷ OfDeclarator d ∷ vs) = OfInitialised (record { declarator = d; start = e }) ∷ vs
build MakeDeclaration (AllInitialised is ∷ OfSpecifier s ∷ vs) =
    OfDeclaration (record { specifier = s; declarators = is }) ∷ vs
build MakeParameter (OfDeclarator d ∷ OfSpecifier s ∷ vs) = OfParameter (record { specifier = s; declarator = d }) ∷ vs
-- expressions
build MakeName (Leaf place name ∷ vs) = expression_at place (expression.Name name) ∷ vs
build MakeNumber (Leaf place value ∷ vs) = expression_at place (expression.Number value) ∷ vs
build MakeCharacter (Leaf place value ∷ vs) = expression_at place (expression.Character value) ∷ vs
build MakeString (Leaf place string ∷ vs) = expression_at place (expression.String string) ∷ vs
build MakeBracket (OfExpression e ∷ Place p ∷ vs) = expression_at p (expression.Bracket e) ∷ vs
build (MakePrefix op) (OfExpression e ∷ Place p ∷ vs) = expression_at p (expression.Prefix op e) ∷ vs
build MakeSizeof (OfType t ∷ Place p ∷ vs) = expression_at p (expression.Sizeof t) ∷ vs
build MakeCast (OfExpression e ∷ OfType t ∷ Place p ∷ vs) = expression_at p (expression.Cast t e) ∷ vs
build (MakeInfix op) (OfExpression b ∷ OfExpression a ∷ vs) = expression_at a.place (expression.Infix op a b) ∷ vs
build MakeChoice (OfExpression c ∷ OfExpression b ∷ OfExpression a ∷ vs) =
    expression_at a.place (expression.Choice a b c) ∷ vs
build MakeAssign (OfExpression b ∷ OfExpression a ∷ vs) = expression_at a.place (expression.Assign a b) ∷ vs
build MakeIndex (OfExpression b ∷ OfExpression a ∷ vs) = expression_at a.place (expression.Index a b) ∷ vs
build MakeCall (Arguments es ∷ OfExpression a ∷ vs) = expression_at a.place (expression.Call a es) ∷ vs
build MakeDot (Leaf place name ∷ OfExpression a ∷ vs) = expression_at a.place (expression.Member a name place) ∷ vs
build MakeArrow (Leaf place name ∷ OfExpression a ∷ vs) = expression_at a.place (expression.Arrow a name place) ∷ vs
build MakeSome (OfExpression e ∷ vs) = Perhaps (Some e) ∷ vs
-- statements
build MakeBlock (BlockItems is ∷ Place p ∷ vs) = OfBlock (record { place = p; items = is }) ∷ vs
build MakeNested (OfBlock b ∷ vs) = OfKind (statement.Block b) ∷ vs
build MakeEval (Perhaps e ∷ vs) = OfKind (statement.Eval e) ∷ vs
build MakeIf (OfStatement s ∷ OfExpression c ∷ vs) = OfKind (statement.If c s None) ∷ vs
build MakeIfElse (OfStatement t ∷ OfStatement s ∷ OfExpression c ∷ vs) = OfKind (statement.If c s (Some t)) ∷ vs
build MakeWhile (OfStatement s ∷ OfExpression c ∷ vs) = OfKind (statement.While c s) ∷ vs
build MakeDoWhile (OfExpression c ∷ OfStatement s ∷ vs) = OfKind (statement.DoWhile s c) ∷ vs
build MakeFor (OfStatement s ∷ Perhaps c ∷ Perhaps b ∷ Perhaps a ∷ vs) = OfKind (statement.For a b c s) ∷ vs
build MakeReturn (Perhaps e ∷ vs) = OfKind (statement.Return e) ∷ vs
build MakeStatement (OfKind k ∷ Place p ∷ vs) = OfStatement (record { place = p; kind = k }) ∷ vs
-- the top
build MakeStructure (Members ms ∷ Leaf place name ∷ vs) =
    OfItem (item.Struct (record { name = name; place = place; members = ms })) ∷ vs
build MakeObject (OfDeclaration d ∷ vs) = OfItem (item.Object d) ∷ vs
build MakePrototype (Parameters ps ∷ Leaf place name ∷ Stars ss ∷ OfSpecifier s ∷ vs) =
    OfItem (item.Prototype (header s ss name place ps)) ∷ vs
build MakeFunction (OfBlock b ∷ Parameters ps ∷ Leaf place name ∷ Stars ss ∷ OfSpecifier s ∷ vs) =
    OfItem (item.Function (header s ss name place ps) b) ∷ vs
-- no rule comes to this
build step vs = vs
