mod ByHand
pub mod Ordered
pub mod Merging
pub mod Tilings
pub mod Laws
pub mod Places
pub mod Steps
pub mod Covers
