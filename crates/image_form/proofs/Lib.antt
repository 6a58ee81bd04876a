pub mod Numbers
pub mod Fields
pub mod Spelled
pub mod Written
pub mod Laws
