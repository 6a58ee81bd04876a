-- The memory that the buffers of a program hold.
use Rattle.std.specs.Prelude.{◌≡◌, ◌≤◌, ◌<◌, ◌^◌, length}
use Rattle.cv_word.specs.Memory.{Memory}
use Rattle.two_segments.specs.declared.segments.Segments.TheInside.{Inside}

abbrev pub memory_of : Inside → Memory
memory_of s = record { size = s.size; code = s.code.now; public = s.public.items; private = s.private.items }

-- both buffers have as many bytes as the segments, whose size is a word of 4 bytes, and the code is within its limit
pub record IsBuffers (s : Inside) : Type 0 where
  pub public : length s.public.items ≡ s.size
  pub private : length s.private.items ≡ s.size
  pub least : 4096 ≤ s.size
  pub most : s.size < 2 ^ 32
  pub code : length s.code.now ≤ 4194304
