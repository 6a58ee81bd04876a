-- What the typing rules say, and the typed tree of a program that breaks none.
pub mod Gates
pub mod Notes
pub mod WrittenTypes
pub mod Operators
pub mod Expressions
pub mod Statements
pub mod Declarations
pub mod Programs
