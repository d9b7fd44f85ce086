pub mod Prefix
pub mod Winner
pub mod Rail
