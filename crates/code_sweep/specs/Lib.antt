-- A code as one chain of items.
pub use Rattle.cv_word.specs.Words
pub use Rattle.cv_word.specs.MemoryMap
pub use Rattle.cv_word.specs.Gates
pub use Rattle.cv_word.specs.Arithmetic
pub use Rattle.x64_decode.specs.Spelling
pub use Rattle.x64_decode.specs.Reading
pub use Rattle.magic_words.specs.MagicWords
pub mod Units
pub mod Listing
pub mod Sweep
