pub mod Live
pub mod Flown
