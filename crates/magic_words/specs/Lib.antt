-- The words that mark procedures and returns, and where the prefix occurs.
pub mod MagicWords
