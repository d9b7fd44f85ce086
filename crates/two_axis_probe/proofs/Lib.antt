pub mod Ticking
pub mod Stepping
pub mod Flying
