-- Lemmas.
pub mod ListLemmas
mod TypeLemmas
