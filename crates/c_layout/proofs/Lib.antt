-- Lemmas.
pub mod Measures
