pub mod Each
pub mod Walked
pub mod Together
pub mod Prefix
pub mod Pairing
