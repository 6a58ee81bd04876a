-- The gates' world that a program's buffers hold.
use Rattle.std.specs.Prelude.{◌≡◌, ◌≤◌, length}
use Rattle.cv_word.specs.GateStep.{World, longest_release}
use Rattle.trusted_stubs.specs.declared.world.World.TheInside.{Inside}

abbrev pub world_of : Inside → World
world_of w = record {
  visible = record {
    prefix = w.prefix;
    public_input = w.public_input.now;
    public_position = w.public_position;
    private_position = w.private_position;
    public_heap = w.public_heap;
    private_heap = w.private_heap;
    public_output = w.public_output;
    audit = w.audit;
  };
  private_input = w.private_input.now;
  private_output = w.private_output;
}

-- the public input was read up to its end at most, and the buffer for answers is as long as the longest release
pub record IsWithin (w : Inside) : Type 0 where
  pub position : w.public_position ≤ length w.public_input.now
  pub buffer : length w.answer.items ≡ longest_release
