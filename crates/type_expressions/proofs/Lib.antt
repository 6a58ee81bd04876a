-- Lemmas.
mod ArgumentLemmas
pub mod Measures
