-- Lemmas on the answer of a command and on what it puts.
pub mod EndingLemmas
pub mod LineLemmas
pub mod PlanLemmas
pub mod RunLemmas
pub mod OneAnswer
mod TapeLemmas
