-- The constraints on the qualifiers of a typed source.
pub mod Levels
pub mod Flows
pub mod Rules
