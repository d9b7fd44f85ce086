pub mod Marked
pub mod Reading
pub mod Runs
pub mod ByteRuns
