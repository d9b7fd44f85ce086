pub mod TwoAxisRun
pub mod Calls
