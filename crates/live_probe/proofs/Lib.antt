pub mod Opening
pub mod Flying
pub mod Marks
