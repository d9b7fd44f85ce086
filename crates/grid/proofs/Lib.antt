pub mod Keeps
pub mod Order
pub mod Tables
