pub mod Samples
pub mod Walk
pub mod Runs
pub mod Arrays
pub mod Lent
