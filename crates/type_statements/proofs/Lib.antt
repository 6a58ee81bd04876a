-- Lemmas.
mod BlockLemmas
pub mod GrowthLemmas
pub mod Measures
