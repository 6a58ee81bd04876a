-- What types are alike, and what they take.
pub mod Types
pub mod Sizes
