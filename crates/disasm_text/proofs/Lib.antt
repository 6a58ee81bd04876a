pub mod Padding
pub mod Inside
