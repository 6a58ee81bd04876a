-- The grammar: its terminals, what a rule builds, the rules, the readings and fronts of words, and where they break off.
pub mod Terminals
pub mod Steps
pub mod Grammar
pub mod Reading
pub mod Faults
pub mod Ways
pub mod Descent
