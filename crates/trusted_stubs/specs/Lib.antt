-- What the gates' world holds, and what a gate step answers and leaves.
pub use Rattle.cv_word.specs.Words
pub use Rattle.cv_word.specs.Gates
pub use Rattle.cv_word.specs.Heap
pub use Rattle.cv_word.specs.Memory
pub use Rattle.cv_word.specs.GateStep
pub use Rattle.two_segments.specs.Access
pub use Rattle.cv_io.specs.Counts
pub use Rattle.cv_io.specs.Releasers
pub mod Outputs
pub mod Worlds
pub mod Events
pub mod Answers
