-- Tokens of C: how each kind is spelled, and how a source falls into tokens, spaces and comments.
pub mod Spelling
pub mod Tokens
pub mod Reading
pub mod Texts
