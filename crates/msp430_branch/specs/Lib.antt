pub mod Facts
pub mod Conditions
pub mod Cuts
pub mod Laws
