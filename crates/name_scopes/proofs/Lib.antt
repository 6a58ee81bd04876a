-- Lemmas.
pub mod Latest
