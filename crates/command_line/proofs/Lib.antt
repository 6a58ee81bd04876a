-- Lemmas on numbers, on definitions and on the words of a command.
pub mod NumberLemmas
pub mod DefinitionLemmas
pub mod WordLemmas
