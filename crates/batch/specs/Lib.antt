pub mod Sized
pub mod Calls
pub mod Batch
pub mod Flown
