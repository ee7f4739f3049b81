pub mod Codes
pub mod Externals
pub mod Laws
pub mod Pairs
pub mod Stacking
