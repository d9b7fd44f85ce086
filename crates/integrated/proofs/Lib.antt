pub mod Choice
pub mod Prefix
