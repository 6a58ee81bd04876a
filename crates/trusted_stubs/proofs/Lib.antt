mod AskLemmas
pub mod EventLemmas
mod ReleaseLemmas
mod WorkLemmas
