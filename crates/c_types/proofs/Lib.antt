-- Lemmas.
pub mod ByteLemmas
pub mod KnownLemmas
pub mod LeastLemmas
