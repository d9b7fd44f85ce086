pub mod FiniteModel
