pub mod Multiples
pub mod Trials
pub mod Poles
pub mod Model
