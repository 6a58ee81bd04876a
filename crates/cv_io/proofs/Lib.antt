-- Lemmas on lists of files, on the releasers of all classes, and on bytes under a pad.
mod FilesOf
pub mod Held
mod Xored
