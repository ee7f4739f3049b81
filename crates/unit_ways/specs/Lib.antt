pub mod Targets
pub mod Ways
pub mod Between
pub mod Laws
