pub mod Bytes
pub mod Fits
pub mod Reported
