-- Lemmas.
mod AnswerLemmas
