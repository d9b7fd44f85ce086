pub mod Marked
pub mod First
pub mod Winner
