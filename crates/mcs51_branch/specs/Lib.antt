pub mod Cuts
pub mod Jumps
pub mod Laws
pub mod Testing
pub mod Ways
