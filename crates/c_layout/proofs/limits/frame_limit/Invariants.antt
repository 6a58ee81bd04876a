use Rattle.std.proofs.Common.{◌≡◌, map, drop}
use Rattle.c_layout.specs.Frames.{frame_size}
use Rattle.c_layout.specs.Limits as def
use Rattle.c_layout.proofs.limits.frame_limit.Given as goal

abbrev pub invariant-loop-function : goal.invariant-loop-function
invariant-loop-function l =
    def.first_above 16384 (map (frame_size l.structs) (drop l.function-index l.functions))
    ≡ def.first_above 16384 (map (frame_size l.structs) l.functions)
