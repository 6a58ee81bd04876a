-- Definitions of the code's own.
pub mod Faults
