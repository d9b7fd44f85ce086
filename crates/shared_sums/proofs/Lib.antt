pub mod Tail
pub mod Walk
