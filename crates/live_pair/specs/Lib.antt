pub mod Pair
pub mod Flown
