pub mod Gain
pub mod Prepared
