pub mod Storing
pub mod Windows
pub mod Registers
pub mod InFront
