-- The first configuration of an image.
use Rattle.std.specs.Prelude.{◌≡◌, ℕ, suc, ◌+◌, ◌-◌, ◌*◌, false, List, [], ◌∷◌, length, map, Option, Some, None, is_some, replicate, slice_get, slice_set}
use Rattle.cv_word.specs.Words.{AreBytes}
use Rattle.cv_word.specs.MemoryMap.{code_base, public_base, first_mapped}
use Rattle.cv_word.specs.Arithmetic.{no_flags}
use Rattle.cv_word.specs.GateStep.{World, Tape, TapeState, Releasers}
use Rattle.cv_word.specs.Heap.{Heap, block_size, fresh_heap}
use Rattle.cv_word.specs.Memory.{items_at, start_memory}
use Rattle.cv_word.specs.declared.registers.Registers.{Registers}
use Rattle.x64_decode.specs.Spelling.{number}
use Rattle.x64_decode.specs.declared.instr.Reg.TheVariants.{Rsp}
use Rattle.image_form.specs.Image.{Image}
use Rattle.x64_machine.specs.declared.outcome.Outcome.TheVariants.{Running}
use Rattle.x64_machine.specs.Run.{Core, State, Configuration}

-- What two runs have in common beside the image: the public input, and the tape of each class, None where it has no releaser. All
-- are lists of bytes.
pub record Shared : Type 0 where
  pub public_input : List ℕ
  pub tapes : List (Option Tape)
  pub input_bytes : AreBytes public_input
  pub tape_bytes : (class : ℕ) (tape : Tape) → slice_get tapes class ≡ Some (Some tape) → AreBytes tape.bytes

-- What they may differ in: the private segment's bytes from offset 4096 on, with zeros past the end of the list, and the private
-- input. Both are lists of bytes.
pub record Secret : Type 0 where
  pub segment : List ℕ
  pub private_input : List ℕ
  pub segment_bytes : AreBytes segment
  pub input_bytes : AreBytes private_input

-- Core i starts at its entry, which of accepted bytes is the place behind a call word. Its stack ends i stacks below the public segment's end.
abbrev pub start_registers : Image → ℕ → ℕ → Registers
start_registers image i entry = record {
  r = slice_set (replicate 16 0) (number Rsp) (public_base + (image.seg_size - i * image.stack_size));
  flags = no_flags;
  pc = code_base + entry;
}

abbrev pub start_cores : Image → ℕ → List ℕ → List Core
start_cores image i [] = []
start_cores image i (entry ∷ entries) = record { registers = start_registers image i entry; ended = false } ∷ start_cores image (suc i) entries

-- A segment's heap lies between its start bytes, of which the image has so many, and the stacks. It begins at a multiple of 16.
abbrev pub start_heap : Image → ℕ → Heap
start_heap image count = fresh_heap (block_size (first_mapped + count)) (image.seg_size - length image.entries * image.stack_size)

-- nothing was read, and nothing was put out
abbrev pub start_world : Image → List ℕ → List ℕ → World
start_world image public_input private_input = record {
  visible = record {
    prefix = image.prefix;
    public_input = public_input;
    public_position = 0;
    private_position = 0;
    public_heap = start_heap image (length image.public);
    private_heap = start_heap image (length image.private);
    public_output = [];
    audit = [];
  };
  private_input = private_input;
  private_output = [];
}

-- a tape at its start; a class without one has an empty one, which no release reaches
abbrev pub fresh_tape : Option (Option Tape) → TapeState
fresh_tape (Some (Some tape)) = record { left = tape; taken = 0; answered = 0 }
fresh_tape _ = record { left = record { bytes = []; releases = None }; taken = 0; answered = 0 }

abbrev pub start_releasers : List (Option Tape) → Releasers
start_releasers tapes = record {
  held = map is_some tapes;
  tapes = λ class. fresh_tape (slice_get tapes class);
  asked = λ class. [];
}

-- what a machine holds at the start: the public segment begins with the image's bytes, the private one has those of the secret
abbrev pub start_state : Image → List ℕ → List ℕ → List ℕ → State
start_state image public_input private_input private_segment = record {
  cores = start_cores image 0 image.entries;
  memory = start_memory image.seg_size image.code image.public (items_at private_segment 0 (image.seg_size - first_mapped));
  world = start_world image public_input private_input;
  outcome = Running;
}

-- the first configuration
abbrev pub start : Image → Shared → Secret → Configuration
start image shared secret = record {
  state = start_state image shared.public_input secret.private_input secret.segment;
  releasers = start_releasers shared.tapes;
}
