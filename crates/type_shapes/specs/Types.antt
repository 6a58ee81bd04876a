-- Types: what sort of type one is, and when two are the same.
use Rattle.std.specs.Prelude.{Bool, true, false, ◌&&◌, ◌||◌, not, ◌==◌, List, [], ◌∷◌, Option, Some, None, is_some, if◌then◌else◌}
use Rattle.cv_word.specs.declared.registers.Taint.{Taint}
use Rattle.cv_word.specs.declared.registers.Taint.TheVariants.{Pub, Priv}
use Rattle.c_ast.specs.declared.qualifiers.Qual.{Qual}
use Rattle.c_ast.specs.declared.qualifiers.Qual.TheVariants.{Fixed, Var}
use Rattle.type_shapes.specs.declared.types.Signature.{Signature}
use Rattle.type_shapes.specs.declared.types.StructType.{StructType}
use Rattle.c_ast.specs.declared.qualifiers.Ty.{Ty, out-Ty}
use Rattle.c_ast.specs.declared.qualifiers.Ty as ty
use Rattle.c_ast.specs.declared.qualifiers.Ty.TheOpen.{Ty-F, Int, Void, Struct, Ptr, Array, Fun}
use Rattle.c_ast.specs.declared.qualifiers.Ty.TheFolds.{fold-Ty}

abbrev pub is_integer_layer : Ty-F Ty → Bool
is_integer_layer (Int width q) = true
is_integer_layer other = false

unfoldable pub is_integer : Ty → Bool
is_integer t = is_integer_layer (out-Ty t)

abbrev pub is_public : Taint → Bool
is_public Pub = true
is_public Priv = false

abbrev pub same_taint : Taint → Taint → Bool
same_taint Pub b = is_public b
same_taint Priv b = not (is_public b)

abbrev pub same_qualifier : Qual → Qual → Bool
same_qualifier (Fixed a) (Fixed b) = same_taint a b
same_qualifier (Var m) (Var n) = m == n
same_qualifier a b = false

abbrev pub same_all : List (Ty → Bool) → List Ty → Bool
same_all [] [] = true
same_all (s ∷ ss) (t ∷ ts) = s t && same_all ss ts
same_all ss ts = false

-- one level of two types
unfoldable pub same_level : Bool → Ty-F (Ty → Bool) → Ty-F Ty → Bool
same_level exact (Int width q) (Int width' q') = (width == width') && (not exact || same_qualifier q q')
same_level exact Void Void = true
same_level exact (Struct id q) (Struct id' q') = (id == id') && (not exact || same_qualifier q q')
same_level exact (Ptr to q) (Ptr to' q') = to to' && (not exact || same_qualifier q q')
same_level exact (Array elem len) (Array elem' len') = elem elem' && (len == len')
same_level exact (Fun ret params) (Fun ret' params') = ret ret' && same_all params params'
same_level exact a b = false

-- the same type, or without `exact` the same but for qualifiers
unfoldable pub same_type : Bool → Ty → Ty → Bool
same_type exact = fold-Ty (Ty → Bool) (λ level other. same_level exact level (out-Ty other))

-- what is computed is computed in 64 bits, and has no qualifier of its own
abbrev pub long : Ty
long = ty.Int 8 (Fixed Pub)

abbrev pub pointer_to : Ty → Ty
pointer_to t = ty.Ptr t (Fixed Pub)

abbrev pub value_level : Ty-F Ty → Ty → Ty
value_level (Array elem len) t = pointer_to elem
value_level other t = t

-- an array gives a pointer to its first element
unfoldable pub value_type : Ty → Ty
value_type t = value_level (out-Ty t) t

abbrev pub passed_level : Ty-F Ty → Ty → Ty
passed_level (Fun ret params) t = pointer_to t
passed_level (Array elem len) t = pointer_to elem
passed_level other t = t

-- where a value is passed on, a function's name gives a pointer to the function too
unfoldable pub passed_type : Ty → Ty
passed_type t = passed_level (out-Ty t) t

abbrev pub is_pointer_layer : Ty-F Ty → Bool
is_pointer_layer (Ptr to q) = true
is_pointer_layer other = false

unfoldable pub is_pointer : Ty → Bool
is_pointer t = is_pointer_layer (out-Ty t)

-- an integer or a pointer
unfoldable pub is_scalar : Ty → Bool
is_scalar t = is_integer t || is_pointer t

abbrev pub is_void_layer : Ty-F Ty → Bool
is_void_layer Void = true
is_void_layer other = false

unfoldable pub is_void : Ty → Bool
is_void t = is_void_layer (out-Ty t)

abbrev pub is_array_layer : Ty-F Ty → Bool
is_array_layer (Array elem len) = true
is_array_layer other = false

unfoldable pub is_array : Ty → Bool
is_array t = is_array_layer (out-Ty t)

abbrev pub is_function_layer : Ty-F Ty → Bool
is_function_layer (Fun ret params) = true
is_function_layer other = false

abbrev pub is_function : Ty → Bool
is_function t = is_function_layer (out-Ty t)

abbrev pub if_object : Ty → Option Ty
if_object t = if is_function t then None else Some t

abbrev pub object_layer : Ty-F Ty → Option Ty
object_layer (Ptr to q) = if_object to
object_layer (Array elem len) = Some elem
object_layer other = None

-- what a pointer to an object or an array leads to
unfoldable pub object_behind : Ty → Option Ty
object_behind t = object_layer (out-Ty t)

abbrev pub function_layer : Ty-F Ty → Option Signature
function_layer (Fun ret params) = Some (record { ret = ret; params = params })
function_layer other = None

abbrev pub called_layer : Ty-F Ty → Ty → Ty
called_layer (Ptr to q) t = to
called_layer other t = t

abbrev pub called : Ty → Ty
called t = called_layer (out-Ty t) t

-- what a call of a function or of a pointer to one gives and takes
unfoldable pub signature_of : Ty → Option Signature
signature_of t = function_layer (out-Ty (called t))

abbrev pub struct_layer : Ty-F Ty → Option StructType
struct_layer (Struct id q) = Some (record { id = id; q = q })
struct_layer other = None

unfoldable pub struct_of : Ty → Option StructType
struct_of t = struct_layer (out-Ty t)

unfoldable pub is_struct : Ty → Bool
is_struct t = is_some (struct_of t)

abbrev pub under_layer : Qual → Ty-F Ty → Ty → Ty
under_layer q (Int width old) t = ty.Int width q
under_layer q (Struct id old) t = ty.Struct id q
under_layer q (Ptr to old) t = ty.Ptr to q
under_layer q other t = t

abbrev pub own_under : Qual → Ty → Ty
own_under q t = under_layer q (out-Ty t) t

abbrev pub under_level : Qual → Ty-F Ty → Ty → Ty
under_level q (Array elem len) t = ty.Array (own_under q elem) len
under_level q other t = own_under q t

-- the type with this outermost qualifier
unfoldable pub under : Qual → Ty → Ty
under q t = under_level q (out-Ty t) t
