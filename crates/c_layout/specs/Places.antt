-- What structs and objects take, and where objects lie one behind the other. Sizes and offsets are in bytes.
use Rattle.std.specs.Prelude.{ℕ, ◌+◌, List, [], ◌∷◌, ◌++◌, length, map, fold}
use Rattle.c_ast.specs.declared.typed.StructDef.{StructDef}
use Rattle.c_ast.specs.declared.typed.Local.{Local}
use Rattle.type_shapes.specs.declared.sizes.Extent.{Extent}
use Rattle.type_shapes.specs.Sizes.{nothing, extent_of, aligned, with_member, closed}

-- a struct so far with one more member; where the member is a struct, it is one of those before
abbrev pub with_local : List Extent → Extent → Local → Extent
with_local before so_far member = with_member before so_far member.ty

-- the members in order, aligned, and the size rounded up to the greatest alignment
abbrev pub extent_of_struct : List Extent → StructDef → Extent
extent_of_struct before s = closed (fold (with_local before) nothing s.members)

-- one more struct behind those before it
abbrev pub with_struct : List Extent → StructDef → List Extent
with_struct before s = before ++ extent_of_struct before s ∷ []

-- what each struct takes, in order, over those before it
abbrev pub extents_of : List StructDef → List Extent
extents_of structs = fold with_struct [] structs

-- what parameters or locals take
abbrev pub extents_in : List Extent → List Local → List Extent
extents_in structs locals = map (λ l. extent_of structs l.ty) locals

-- a string takes its bytes and a zero byte, at any offset
abbrev pub string_extent : List ℕ → Extent
string_extent text = record { size = length text + 1; align = 1 }

-- where an object ends that lies at the first aligned offset from `start` on
abbrev pub end_behind : ℕ → Extent → ℕ
end_behind start e = aligned start e.align + e.size

-- where objects end that lie one behind the other from `start` on
abbrev pub end_of : ℕ → List Extent → ℕ
end_of start extents = fold end_behind start extents

-- the offsets of objects that lie one behind the other from `start` on
abbrev pub placed : ℕ → List Extent → List ℕ
placed start [] = []
placed start (e ∷ es) = aligned start e.align ∷ placed (end_behind start e) es
