-- A listing as text.
pub use Rattle.hex.specs.Hex
pub mod Operands
pub mod ListingText
