mod ByHand
pub mod Places
pub mod Indexes
pub mod Searches
pub mod Numbered
pub mod Ways
pub mod Forced
pub mod Nexts
pub mod OneAnswer
