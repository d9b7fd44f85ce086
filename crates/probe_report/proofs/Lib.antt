pub mod Counting
pub mod Reported
