-- The program of a source, and what the parser's functions say of the descent.
pub mod Programs
pub mod Paths
pub mod Operators
pub mod Parts
pub mod Words
