-- One core: what one instruction does to its registers, its flags and the memory.
pub use Rattle.cv_word.specs.Words
pub use Rattle.cv_word.specs.MemoryMap
pub use Rattle.cv_word.specs.Gates
pub use Rattle.cv_word.specs.Memory
pub use Rattle.two_segments.specs.Access
pub use Rattle.cv_word.specs.Arithmetic
pub use Rattle.x64_decode.specs.Spelling
pub use Rattle.x64_decode.specs.Reading
pub mod CoreStep
