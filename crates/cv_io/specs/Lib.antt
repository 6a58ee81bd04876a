-- What is outside the program: counts of faults, files under names, bytes put out, releasers, and all three in memory.
pub mod Counts
pub mod Files
pub mod Output
pub mod Releasers
pub mod Xored
pub mod FilesInMemory
pub mod OutputInMemory
pub mod PadInMemory
