pub mod TwoReport
