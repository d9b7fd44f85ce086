pub mod Runs
pub mod Ran
pub mod Words
pub mod Marked
