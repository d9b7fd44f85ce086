pub mod Classify
pub mod Stages
