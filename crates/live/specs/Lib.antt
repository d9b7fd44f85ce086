pub mod Delay
pub mod Lent
