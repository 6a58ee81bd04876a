-- The instruction table: what an instruction is, and the bytes that spell it.
pub mod Spelling
pub mod Reading
pub mod Operations
