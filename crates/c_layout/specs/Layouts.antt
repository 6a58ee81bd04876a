-- The layout of a program.
use Rattle.std.specs.Prelude.{ℕ, ◌-◌, max, List, [], map}
use Rattle.cv_word.specs.declared.registers.Taint.{Taint}
use Rattle.cv_word.specs.declared.registers.Taint.TheVariants.{Pub, Priv}
use Rattle.c_ast.specs.declared.typed.Typed.{Typed}
use Rattle.c_layout.specs.declared.layouts.Layout.{Layout}
use Rattle.c_layout.specs.Places.{extents_of, string_extent, end_of, placed}
use Rattle.c_layout.specs.Segments.{first_offset, end_in, offsets_behind}
use Rattle.c_layout.specs.Frames.{frame_of}

-- where the globals of a segment end
abbrev pub globals_end : Typed → List Taint → Taint → ℕ
globals_end typed asg segment = end_in (extents_of typed.structs) asg segment typed.globals

-- the strings lie in the public segment, behind its globals
abbrev pub public_length : Typed → List Taint → ℕ
public_length typed asg = end_of (globals_end typed asg Pub) (map string_extent typed.strings) - first_offset

-- nothing follows the globals of the private segment
abbrev pub private_length : Typed → List Taint → ℕ
private_length typed asg = globals_end typed asg Priv - first_offset

-- how many start bytes the larger segment has
abbrev pub start_length : Typed → List Taint → ℕ
start_length typed asg = max (public_length typed asg) (private_length typed asg)

-- the layout of a program under an assignment of taints to its variables
abbrev pub layout_of : Typed → List Taint → Layout
layout_of typed asg = record {
  globals = offsets_behind (extents_of typed.structs) asg [] typed.globals;
  strings = placed (globals_end typed asg Pub) (map string_extent typed.strings);
  frames = map (frame_of (extents_of typed.structs)) typed.functions;
  pub_len = public_length typed asg;
  priv_len = private_length typed asg;
}
