-- Lemmas on the definitions.
pub mod ItemLemmas
