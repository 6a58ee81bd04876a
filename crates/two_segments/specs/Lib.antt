-- The memory that all cores share: accesses by segment and by flat address, and the buffers that hold it.
pub use Rattle.cv_word.specs.Words
pub use Rattle.cv_word.specs.MemoryMap
pub use Rattle.cv_word.specs.Memory
pub mod Access
pub mod Buffers
