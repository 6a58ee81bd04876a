-- What types take: sizes in bytes, and what offsets are multiples of. The structs are given by what each takes.
use Rattle.std.specs.Prelude.{ℕ, ◌+◌, ◌-◌, ◌*◌, ◌/◌, Bool, true, false, ◌&&◌, nat_lt, nat_le, List, length, max, slice_get, unwrap_or}
use Rattle.c_ast.specs.declared.qualifiers.Ty.{Ty, out-Ty}
use Rattle.c_ast.specs.declared.qualifiers.Ty.TheOpen.{Ty-F, Int, Void, Struct, Ptr, Array, Fun}
use Rattle.c_ast.specs.declared.qualifiers.Ty.TheFolds.{fold-Ty}
use Rattle.type_shapes.specs.declared.sizes.Extent.{Extent}

abbrev pub greatest_size : ℕ
greatest_size = 67108864

abbrev pub greatest_length : ℕ
greatest_length = 1048576

-- what isn't an object takes nothing
abbrev pub nothing : Extent
nothing = record { size = 0; align = 1 }

-- aligned to its own size
abbrev pub natural : ℕ → Extent
natural n = record { size = n; align = n }

-- a struct by its number
abbrev pub extent_at : List Extent → ℕ → Extent
extent_at structs id = unwrap_or (slice_get structs id) nothing

abbrev pub extent_step : List Extent → Ty-F Extent → Extent
extent_step structs (Int width q) = natural width
extent_step structs Void = nothing
extent_step structs (Struct id q) = extent_at structs id
extent_step structs (Ptr to q) = natural 8
extent_step structs (Array elem len) = record { size = len * elem.size; align = elem.align }
extent_step structs (Fun ret params) = nothing

unfoldable pub extent_of : List Extent → Ty → Extent
extent_of structs = fold-Ty Extent (extent_step structs)

-- the least multiple of `align` from `n` on
unfoldable pub aligned : ℕ → ℕ → ℕ
aligned n align = (n + (align - 1)) / align * align

-- a struct so far, and one more member
unfoldable pub with_member : List Extent → Extent → Ty → Extent
with_member structs so_far ty =
    let member : Extent = extent_of structs ty in
    record { size = aligned so_far.size member.align + member.size; align = max so_far.align member.align }

unfoldable pub closed : Extent → Extent
closed all = record { size = aligned all.size all.align; align = all.align }

abbrev pub sized_layer : ℕ → Ty-F Ty → Bool
sized_layer structs Void = false
sized_layer structs (Struct id q) = nat_lt id structs
sized_layer structs (Fun ret params) = false
sized_layer structs other = true

-- neither void nor a struct that isn't defined yet
unfoldable pub is_sized : List Extent → Ty → Bool
is_sized structs ty = sized_layer (length structs) (out-Ty ty)

-- so many of these may be an array
unfoldable pub is_array_of : List Extent → Ty → ℕ → Bool
is_array_of structs elem len =
    is_sized structs elem && nat_lt 0 len && nat_le len greatest_length
    && nat_le (len * (extent_of structs elem).size) greatest_size
