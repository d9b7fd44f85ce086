pub mod Grid
pub mod Steps
