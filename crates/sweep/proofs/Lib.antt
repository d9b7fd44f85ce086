pub mod Marked
pub mod Edges
pub mod Passing
