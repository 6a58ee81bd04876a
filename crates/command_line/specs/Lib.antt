-- What the words of a command line say.
pub mod Numbers
pub mod Definitions
pub mod Commands
pub mod Words
