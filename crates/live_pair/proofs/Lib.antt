pub mod Stepping
pub mod Flying
pub mod Delay
pub mod Asked
