pub mod Covered
pub mod Standing
