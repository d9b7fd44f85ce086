pub mod ProbeReport
