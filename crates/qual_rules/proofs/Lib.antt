pub mod Counts
pub mod Arguments
pub mod Appends
pub mod Equations
