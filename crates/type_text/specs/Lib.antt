-- Definitions of the text of types.
pub mod Texts
