pub mod Runner
pub mod Trace
