-- Types level by level: the qualifier of a level, and the levels of two types in pairs.
use Rattle.std.specs.Prelude.{Bool, true, false, ◌&&◌, ◌==◌, List, [], ◌∷◌, ◌++◌, Option, Some, None, if◌then◌else◌}
use Rattle.c_ast.specs.declared.qualifiers.Qual.{Qual}
use Rattle.c_ast.specs.declared.qualifiers.Ty.{Ty, out-Ty}
use Rattle.c_ast.specs.declared.qualifiers.Ty.TheOpen.{Ty-F, Int, Void, Struct, Ptr, Array, Fun}
use Rattle.c_ast.specs.declared.qualifiers.Ty.TheFolds.{fold-Ty}

-- The qualifier of a type's outermost level. Void and functions have none; that of an array is its element's, which is a
-- level below the pointer that the array gives.
abbrev pub own_qualifier_of_layer : {A : Type 0} → Ty-F A → Option Qual
own_qualifier_of_layer (Int width q) = Some q
own_qualifier_of_layer (Struct id q) = Some q
own_qualifier_of_layer (Ptr to q) = Some q
own_qualifier_of_layer other = None

abbrev pub own_qualifier : Ty → Option Qual
own_qualifier t = own_qualifier_of_layer (out-Ty t)

-- a level of one type, and the level of another that it goes with
pub record Pair : Type 0 where
  pub first : Qual
  pub second : Qual

-- the levels of two types in pairs, from the outside in, and whether the types have one shape
pub record Comparison : Type 0 where
  pub same_shape : Bool
  pub pairs : List Pair

abbrev pub compared : Bool → List Pair → Comparison
compared same_shape pairs = record { same_shape = same_shape; pairs = pairs }

abbrev pub one_pair : Qual → Qual → List Pair
one_pair q r = record { first = q; second = r } ∷ []

abbrev pub pair_if_both : Option Qual → Option Qual → List Pair
pair_if_both (Some q) (Some r) = one_pair q r
pair_if_both q r = []

abbrev pub compare_all : List (Ty → Comparison) → List Ty → Comparison
compare_all [] [] = compared true []
compare_all (f ∷ fs) (t ∷ ts) =
    let one : Comparison = f t in
    let more : Comparison = compare_all fs ts in
    compared (one.same_shape && more.same_shape) (one.pairs ++ more.pairs)
compare_all fs ts = compared false []

-- Functions are compared only where they have one shape: all levels of the result, then those of each parameter in order.
abbrev pub compare_functions : Comparison → Comparison → Comparison
compare_functions result parameters =
    let same_shape : Bool = result.same_shape && parameters.same_shape in
    compared same_shape (if same_shape then result.pairs ++ parameters.pairs else [])

abbrev pub then_below : List Pair → Comparison → Comparison
then_below pairs inner = compared inner.same_shape (pairs ++ inner.pairs)

-- Pairs go on while both levels are pointers. The first two that aren't both pointers are the last pair, if both have a
-- qualifier.
abbrev pub compare_layer : Ty-F (Ty → Comparison) → Ty-F Ty → Comparison
compare_layer (Int width q) (Int width' r) = compared (width == width') (one_pair q r)
compare_layer Void Void = compared true []
compare_layer (Struct id q) (Struct id' r) = compared (id == id') (one_pair q r)
compare_layer (Ptr to q) (Ptr to' r) = then_below (one_pair q r) (to to')
compare_layer (Array elem len) (Array elem' len') = elem elem'
compare_layer (Fun ret params) (Fun ret' params') = compare_functions (ret ret') (compare_all params params')
compare_layer a b = compared false (pair_if_both (own_qualifier_of_layer a) (own_qualifier_of_layer b))

abbrev pub compare : Ty → Ty → Comparison
compare = fold-Ty (Ty → Comparison) (λ layer other. compare_layer layer (out-Ty other))

-- What a value of this type points to, if it is a pointer. An array gives a pointer to its first element, and a function's
-- name one to the function.
abbrev pub pointee_of_layer : Ty-F Ty → Ty → Option Ty
pointee_of_layer (Ptr to q) t = Some to
pointee_of_layer (Array elem len) t = Some elem
pointee_of_layer (Fun ret params) t = Some t
pointee_of_layer other t = None

abbrev pub pointee_of : Ty → Option Ty
pointee_of t = pointee_of_layer (out-Ty t) t

abbrev pub pairs_if_both : Option Ty → Option Ty → List Pair
pairs_if_both (Some a) (Some b) = (compare a b).pairs
pairs_if_both a b = []

-- the levels below two pointers, in pairs; none where one of the types is no pointer's
abbrev pub pairs_between : Ty → Ty → List Pair
pairs_between a b = pairs_if_both (pointee_of a) (pointee_of b)

abbrev pub parameters_of_layer : Ty-F Ty → List Ty
parameters_of_layer (Fun ret params) = params
parameters_of_layer other = []

abbrev pub called_layer : Ty-F Ty → List Ty
called_layer (Ptr to q) = parameters_of_layer (out-Ty to)
called_layer other = parameters_of_layer other

-- the types of the parameters of a function, and of one that a pointer leads to
abbrev pub parameters_of : Ty → List Ty
parameters_of t = called_layer (out-Ty t)
