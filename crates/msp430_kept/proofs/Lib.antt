pub mod InFront
pub mod Pointers
pub mod Stores
pub mod Windows
