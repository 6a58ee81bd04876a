-- What objects take and where they lie, how much a function holds, the layout of a program, and its limits.
pub mod Places
pub mod Segments
pub mod Counts
pub mod Frames
pub mod Layouts
pub mod Limits
