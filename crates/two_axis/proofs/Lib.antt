pub mod Tied
pub mod Follow
pub mod Together
pub mod Extension
pub mod Levels
pub mod Alone
pub mod Theorem
