-- What names mean where.
pub mod Latest
pub mod Scopes
