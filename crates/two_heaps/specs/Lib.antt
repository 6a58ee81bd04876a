-- What every heap is, over the lists of `cv_word`, and what the vectors of a heap hold.
pub mod Tiling
pub mod Kept
