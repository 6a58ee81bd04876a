-- What can be said of any instruction that a value holds.
pub mod Counts
