mod Numbers
pub mod Tables
mod Spelled
mod Taken
pub mod Laws
