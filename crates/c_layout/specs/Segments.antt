-- In which segment a global lies, and where.
use Rattle.std.specs.Prelude.{ℕ, List, [], ◌∷◌, ◌++◌, map, filter}
use Rattle.std.specs.List.{slice_index_or}
use Rattle.cv_word.specs.declared.registers.Taint.{Taint}
use Rattle.cv_word.specs.declared.registers.Taint.TheVariants.{Pub, Priv}
use Rattle.c_ast.specs.declared.qualifiers.Qual.{Qual}
use Rattle.c_ast.specs.declared.qualifiers.Qual.TheVariants.{Fixed, Var}
use Rattle.c_ast.specs.declared.qualifiers.Ty.{Ty}
use Rattle.c_ast.specs.declared.qualifiers.Ty.TheOpen.{Ty-F, Int, Void, Struct, Ptr, Array, Fun}
use Rattle.c_ast.specs.declared.qualifiers.Ty.TheFolds.{fold-Ty}
use Rattle.c_ast.specs.declared.typed.Global.{Global}
use Rattle.type_shapes.specs.declared.sizes.Extent.{Extent}
use Rattle.type_shapes.specs.Types.{same_taint}
use Rattle.type_shapes.specs.Sizes.{extent_of, aligned}
use Rattle.c_layout.specs.Places.{end_of}

-- one level of a type, with the qualifier of an element in its place
abbrev pub outermost_step : Ty-F Qual → Qual
outermost_step (Int width q) = q
outermost_step Void = Fixed Pub
outermost_step (Struct id q) = q
outermost_step (Ptr to q) = q
outermost_step (Array elem len) = elem
outermost_step (Fun ret params) = Fixed Pub

-- the outermost qualifier of a type; that of an array is its element's, and what is no object is public
unfoldable pub outermost : Ty → Qual
outermost = fold-Ty Qual outermost_step

-- a qualifier under an assignment; a variable that this lacks is public
abbrev pub taint_under : List Taint → Qual → Taint
taint_under asg (Fixed taint) = taint
taint_under asg (Var variable) = slice_index_or asg variable Pub

-- the segment in which an object of this type lies
abbrev pub segment_of : List Taint → Ty → Taint
segment_of asg t = taint_under asg (outermost t)

-- the one of two ends, of the public and of the private segment, that is this segment's
abbrev pub own_end : Taint → ℕ → ℕ → ℕ
own_end Pub public_end private_end = public_end
own_end Priv public_end private_end = private_end

-- the first offset of a segment
abbrev pub first_offset : ℕ
first_offset = 4096

-- the globals of a segment
abbrev pub globals_in : List Taint → Taint → List Global → List Global
globals_in asg segment globals = filter (λ g. same_taint segment (segment_of asg g.ty)) globals

-- where the globals of a segment end, which lie there one behind the other
abbrev pub end_in : List Extent → List Taint → Taint → List Global → ℕ
end_in structs asg segment globals = end_of first_offset (map (λ g. extent_of structs g.ty) (globals_in asg segment globals))

-- the offset of a global behind those before it in its segment
abbrev pub offset_behind : List Extent → List Taint → List Global → Global → ℕ
offset_behind structs asg before g =
    aligned (end_in structs asg (segment_of asg g.ty) before) (extent_of structs g.ty).align

-- the offsets of globals, behind others
abbrev pub offsets_behind : List Extent → List Taint → List Global → List Global → List ℕ
offsets_behind structs asg before [] = []
offsets_behind structs asg before (g ∷ gs) =
    offset_behind structs asg before g ∷ offsets_behind structs asg (before ++ g ∷ []) gs
