-- Which registers and flags may be private before each item.
pub use Rattle.cv_word.specs.Words
pub use Rattle.cv_word.specs.MemoryMap
pub use Rattle.cv_word.specs.Gates
pub use Rattle.cv_word.specs.Arithmetic
pub use Rattle.x64_decode.specs.Spelling
pub use Rattle.x64_decode.specs.Reading
pub use Rattle.magic_words.specs.MagicWords
pub use Rattle.code_sweep.specs.Units
pub use Rattle.code_sweep.specs.Listing
pub mod Label
pub mod Flow
pub mod Calls
pub mod Bits
pub mod Places
pub mod Worklist
