pub mod Lent
pub mod Clauses
