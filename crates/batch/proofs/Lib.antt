pub mod Sizing
pub mod Running
pub mod Flying
