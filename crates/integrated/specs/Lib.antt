pub mod Integrated
