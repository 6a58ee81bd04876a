-- What an image is, its one spelling, and which files are images.
pub mod Image
pub mod View
pub mod Table
pub mod Reading
