pub mod Assertions
pub mod Holding
pub mod Idle
pub mod Lines
