-- Lemmas.
mod Measures
