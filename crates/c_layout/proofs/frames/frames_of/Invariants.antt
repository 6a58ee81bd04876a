use Rattle.std.proofs.Common.{◌≡◌, take, map}
use Rattle.c_layout.specs.Frames as def
use Rattle.c_layout.proofs.frames.frames_of.Given as goal

abbrev pub invariant-loop-function : goal.invariant-loop-function
invariant-loop-function l = l.frames ≡ map (def.frame_of l.structs) (take l.function-index l.functions)
