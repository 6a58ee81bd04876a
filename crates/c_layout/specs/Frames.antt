-- The frames of functions, by offsets from a frame's base.
use Rattle.std.specs.Prelude.{ℕ, ◌+◌, ◌*◌, List}
use Rattle.c_ast.specs.declared.typed.Function.{Function}
use Rattle.type_shapes.specs.declared.sizes.Extent.{Extent}
use Rattle.type_shapes.specs.Sizes.{aligned}
use Rattle.c_layout.specs.declared.frames.Frame.{Frame}
use Rattle.c_layout.specs.Places.{extents_in, end_of, placed}
use Rattle.c_layout.specs.Counts.{counts_of}

-- where the parameters end, which lie from 0 on
abbrev pub end_of_params : List Extent → Function → ℕ
end_of_params structs f = end_of 0 (extents_in structs f.params)

-- the slot of the first expression node: the first multiple of 8 behind the parameters and then the locals
abbrev pub first_slot : List Extent → Function → ℕ
first_slot structs f = aligned (end_of (end_of_params structs f) (extents_in structs f.locals)) 8

-- where the slots end, of 8 bytes for each expression node
abbrev pub frame_size : List Extent → Function → ℕ
frame_size structs f = first_slot structs f + (counts_of f.body).expressions * 8

-- the frame of a function
abbrev pub frame_of : List Extent → Function → Frame
frame_of structs f = record {
  params = placed 0 (extents_in structs f.params);
  locals = placed (end_of_params structs f) (extents_in structs f.locals);
  nodes = first_slot structs f;
  size = frame_size structs f;
}
